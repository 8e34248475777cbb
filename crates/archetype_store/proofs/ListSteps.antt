-- One step of a loop over a list.
use Rattle.archetype_store.proofs.Common.{◌≡◌, ℕ, suc, ◌+◌, ◌<◌, ◌≤◌, Bool, true, false, cond, List, [], ◌∷◌, ◌++◌, length, get_or, drop, Option, Some, None, append_assoc, add-one, sym, ap, ◌∙◌, drop_more, drop_all, append-nil, TableValue, set_number, fits, fitting_tables, with_some, numbered}

-- the archetypes of tables: one more, or none
numbered_here : (numbers : List (Option ℕ)) (ts : List ℕ) (i : ℕ) (old : List ℕ) (o : Option ℕ) → i < length ts → o ≡ get_or numbers (get_or ts i 0) None → old ++ numbered numbers (drop i ts) ≡ numbered numbers ts →
    old ++ with_some o (numbered numbers (drop (i + 1) ts)) ≡ numbered numbers ts
numbered_here numbers ts i old o low is h =
    ap (λ p. old ++ with_some p (numbered numbers (drop (i + 1) ts))) is ∙ ap (λ rest. old ++ numbered numbers rest) (sym (drop_more ts i 0 low)) ∙ h

pub numbered_passed : (numbers : List (Option ℕ)) (ts : List ℕ) (i : ℕ) (old : List ℕ) → i < length ts → None ≡ get_or numbers (get_or ts i 0) None → old ++ numbered numbers (drop i ts) ≡ numbered numbers ts →
    old ++ numbered numbers (drop (i + 1) ts) ≡ numbered numbers ts
numbered_passed numbers ts i old low is h = numbered_here numbers ts i old None low is h

pub numbered_next : (numbers : List (Option ℕ)) (ts : List ℕ) (i : ℕ) (old new : List ℕ) (n : ℕ) → i < length ts → Some n ≡ get_or numbers (get_or ts i 0) None → new ≡ old ++ n ∷ [] → old ++ numbered numbers (drop i ts) ≡ numbered numbers ts →
    new ++ numbered numbers (drop (i + 1) ts) ≡ numbered numbers ts
numbered_next numbers ts i old new n low is more h =
    ap (λ ns. ns ++ numbered numbers (drop (i + 1) ts)) more ∙ append_assoc old (n ∷ []) (numbered numbers (drop (i + 1) ts)) ∙ numbered_here numbers ts i old (Some n) low is h

pub numbered_all : (numbers : List (Option ℕ)) (ts : List ℕ) (i : ℕ) (old : List ℕ) → length ts ≤ i → old ++ numbered numbers (drop i ts) ≡ numbered numbers ts → old ≡ numbered numbers ts
numbered_all numbers ts i old past h = sym (append-nil old) ∙ ap (λ rest. old ++ numbered numbers rest) (sym (drop_all i ts past)) ∙ h

-- the tables that fit a shape: one more, or none
fitting_here : (s : ℕ) (ts : List TableValue) (i : ℕ) (t : TableValue) (old : List ℕ) (b : Bool) → i < length ts → t ≡ get_or ts i t → fits s (set_number t.kinds) ≡ b → old ++ fitting_tables s i (drop i ts) ≡ fitting_tables s 0 ts →
    old ++ cond b (i ∷ fitting_tables s (suc i) (drop (i + 1) ts)) (fitting_tables s (suc i) (drop (i + 1) ts)) ≡ fitting_tables s 0 ts
fitting_here s ts i t old b low is fit h =
    ap (λ p. old ++ cond p (i ∷ fitting_tables s (suc i) (drop (i + 1) ts)) (fitting_tables s (suc i) (drop (i + 1) ts))) (sym fit)
    ∙ ap (λ (x : TableValue). old ++ fitting_tables s i (x ∷ drop (i + 1) ts)) is ∙ ap (λ rest. old ++ fitting_tables s i rest) (sym (drop_more ts i t low)) ∙ h

pub fitting_passed : (s : ℕ) (ts : List TableValue) (i : ℕ) (t : TableValue) (old : List ℕ) → i < length ts → t ≡ get_or ts i t → fits s (set_number t.kinds) ≡ false → old ++ fitting_tables s i (drop i ts) ≡ fitting_tables s 0 ts →
    old ++ fitting_tables s (i + 1) (drop (i + 1) ts) ≡ fitting_tables s 0 ts
fitting_passed s ts i t old low is fit h = ap (λ j. old ++ fitting_tables s j (drop (i + 1) ts)) (add-one i) ∙ fitting_here s ts i t old false low is fit h

pub fitting_next : (s : ℕ) (ts : List TableValue) (i : ℕ) (t : TableValue) (old new : List ℕ) → i < length ts → t ≡ get_or ts i t → fits s (set_number t.kinds) ≡ true → new ≡ old ++ i ∷ [] → old ++ fitting_tables s i (drop i ts) ≡ fitting_tables s 0 ts →
    new ++ fitting_tables s (i + 1) (drop (i + 1) ts) ≡ fitting_tables s 0 ts
fitting_next s ts i t old new low is fit more h =
    ap (λ ns. ns ++ fitting_tables s (i + 1) (drop (i + 1) ts)) more ∙ append_assoc old (i ∷ []) (fitting_tables s (i + 1) (drop (i + 1) ts))
    ∙ ap (λ j. old ++ i ∷ fitting_tables s j (drop (i + 1) ts)) (add-one i) ∙ fitting_here s ts i t old true low is fit h

pub fitting_all : (s : ℕ) (ts : List TableValue) (i : ℕ) (old : List ℕ) → length ts ≤ i → old ++ fitting_tables s i (drop i ts) ≡ fitting_tables s 0 ts → old ≡ fitting_tables s 0 ts
fitting_all s ts i old past h = sym (append-nil old) ∙ ap (λ rest. old ++ fitting_tables s i rest) (sym (drop_all i ts past)) ∙ h
