-- The lines of a list of slots, and texts one after the other.
use Rattle.std.proofs.Common.{◌≡◌, ℕ, zero, suc, ◌+◌, ◌<◌, ◌≤◌, List, [], ◌∷◌, ◌++◌, length, take, get_or, flat_map, append_assoc, append-nil, add-zero, sym, ap, ◌∙◌, arith}
use Rattle.std.proofs.lemmas.List.{take_more, take_all, flat_map_more}
use Rattle.model.specs.state.State.{Slot, fresh_slot}
use Rattle.state_lines.specs.WorldText.{slot_line, slot_lines}

-- one slot more is one line more
pub slot_lines-take-suc : (n : ℕ) (slots : List Slot) (i : ℕ) → i < length slots
    → slot_lines n (take (suc i) slots) ≡ slot_lines n (take i slots) ++ slot_line (n + i) (get_or slots i fresh_slot)
slot_lines-take-suc n [] i h = absurd (omega arith)
slot_lines-take-suc n (s ∷ ss) zero h = simp (append-nil, add-zero)
slot_lines-take-suc n (s ∷ ss) (suc i) h =
    let here : n + suc i ≡ suc n + i = omega arith in
    rw (here, slot_lines-take-suc (suc n) ss i (omega arith)) (sym (simp append_assoc))

-- one element more adds its text, and in the end there are those of all
pub texts_next : {X : Type 0} (f : X → List ℕ) (xs : List X) (i : ℕ) (d x : X) (first old new : List ℕ) → i < length xs → x ≡ get_or xs i d → old ≡ first ++ flat_map f (take i xs) → new ≡ old ++ f x →
    new ≡ first ++ flat_map f (take (i + 1) xs)
texts_next f xs i d x first old new low here is more =
    more ∙ (ap (λ ys. ys ++ f x) is ∙ (ap (λ y. (first ++ flat_map f (take i xs)) ++ f y) here ∙ (flat_map_more f first (take i xs) (get_or xs i d) ∙ ap (λ zs. first ++ flat_map f zs) (sym (take_more xs i d low)))))

pub texts_all : {X : Type 0} (f : X → List ℕ) (xs : List X) (i : ℕ) (first made : List ℕ) → length xs ≤ i → made ≡ first ++ flat_map f (take i xs) → made ≡ first ++ flat_map f xs
texts_all f xs i first made past is = is ∙ ap (λ zs. first ++ flat_map f zs) (take_all i xs past)
