-- A text cut at its first bracket or comma.
use Rattle.std.proofs.Common.{◌≡◌, ◌≢◌, ◌≤◌, ◌<◌, ℕ, suc, Bool, true, false, ◌||◌, ◌==◌, inl, inr, List, [], ◌∷◌, ◌++◌, length, take, drop, get_or, refl, sym, ap, subst, ◌∙◌, arith, nat_lt, cond, ◌⊎◌, Option, Some, None}
use Rattle.std.proofs.lemmas.Bool.{eqb-true, cases_Bool, or_cases, false≢true}
use Rattle.std.proofs.lemmas.List.Sums.{prefix_len-le-length, passes_at_first}
use Rattle.std.proofs.lemmas.Grind.{common_steps}
use Rattle.std.specs.List.{AllByRecursion, position, position_or_len, slice_index}
use Rattle.std.specs.Str.{IsCharBoundary, IsUtf8}
use Rattle.std.proofs.lemmas.Str.{IsUtf8-nil, IsUtf8-drop, IsCharBoundary-after_ascii}
use Rattle.std.proofs.Math.Seq.{drop-append_seam, get_or-append_seam}
use Rattle.std.specs.Option.{option_map}
use Rattle.std.specs.Borrow.{Bor}
use Rattle.parsing.specs.Reads.{Reads}
use Rattle.parsing.specs.Words.{AreSpaces}
use Rattle.run_condition.specs.Grammar.{is_mark, ArePlain}
use Rattle.run_condition.specs.Fronts.{StartsMark, Ends, Closes, IsClosing}

-- ---- the cut

-- the place of the first, behind one that doesn't pass
place_behind : (p : ℕ → Bool) (x : ℕ) (xs : List ℕ) → p x ≡ false → position_or_len p (x ∷ xs) ≡ suc (position_or_len p xs)
place_behind p x xs e = rw e (omega arith)

-- the place of the first, where it is first
place_first : (p : ℕ → Bool) (x : ℕ) (xs : List ℕ) → p x ≡ true → position_or_len p (x ∷ xs) ≡ 0
place_first p x xs e = rw e refl

-- what stands before the first that passes does not
before_plain : (p : ℕ → Bool) (xs : List ℕ) → AllByRecursion (λ b. p b ≡ false) (take (position_or_len p xs) xs)
before_plain p [] = tt
before_plain p (x ∷ xs) = elim (cases_Bool (p x)) [
  | inl e ↦ rw (place_first p x xs e) tt
  | inr e ↦ rw (place_behind p x xs e) (e, before_plain p xs)
]

pub plain_before : (text : List ℕ) → ArePlain (take (position_or_len is_mark text) text)
plain_before text = before_plain is_mark text

-- nothing, or what passes first
abbrev pub Starts : (ℕ → Bool) → List ℕ → Type 0
Starts p [] = Unit {0}
Starts p (b ∷ bs) = p b ≡ true

starts_after : (p : ℕ → Bool) (xs : List ℕ) → Starts p (drop (position_or_len p xs) xs)
starts_after p [] = tt
starts_after p (x ∷ xs) = elim (cases_Bool (p x)) [
  | inl e ↦ rw (place_first p x xs e) e
  | inr e ↦ rw (place_behind p x xs e) (starts_after p xs)
]

starts_mark : (text : List ℕ) → Starts is_mark text → StartsMark text
starts_mark [] h = tt
starts_mark (b ∷ bs) h = h

pub mark_after : (text : List ℕ) → StartsMark (drop (position_or_len is_mark text) text)
mark_after text = starts_mark _ (starts_after is_mark text)

-- a mark is one of three
pub mark_is : (b : ℕ) → is_mark b ≡ true → (b ≡ 40) ⊎ ((b ≡ 41) ⊎ (b ≡ 44))
mark_is b h = elim (or_cases (b == 40 || b == 41) (b == 44) h) [
  | inl k ↦ elim (or_cases (b == 40) (b == 41) k) [
    | inl e ↦ inl (eqb-true b 40 e)
    | inr e ↦ inr (inl (eqb-true b 41 e))
  ]
  | inr e ↦ inr (inr (eqb-true b 44 e))
]

-- the cut is between characters
passes_there : (p : ℕ → Bool) (xs : List ℕ) → position_or_len p xs < length xs → p (slice_index xs (position_or_len p xs)) ≡ true
passes_there p xs h = passes_at_first p xs 0 h

pub mark_boundary : (text : List ℕ) → IsCharBoundary text (position_or_len is_mark text)
mark_boundary text = (prefix_len-le-length _ text, λ below high. absurd (low _ (mark_is _ (passes_there is_mark text below)) high)) where
  low : (b : ℕ) → (b ≡ 40) ⊎ ((b ≡ 41) ⊎ (b ≡ 44)) → 128 ≤ b → ⊥
  low b (inl e) high = omega arith
  low b (inr (inl e)) high = omega arith
  low b (inr (inr e)) high = omega arith

-- ---- it is the only one

same_cut : (p : ℕ → Bool) (xs ys vs ws : List ℕ) → xs ++ ys ≡ vs ++ ws → AllByRecursion (λ b. p b ≡ false) xs → AllByRecursion (λ b. p b ≡ false) vs
    → Starts p ys → Starts p ws → (xs ≡ vs) × (ys ≡ ws)
same_cut p [] ys [] ws e h k s t = (refl, e)
same_cut p [] [] (v ∷ vs) ws e h k s t = absurd cc
same_cut p [] (y ∷ ys) (v ∷ vs) ws e h k s t = let same : v ≡ y = cc in absurd (false≢true (sym k.0 ∙ (ap p same ∙ s)))
same_cut p (x ∷ xs) ys [] [] e h k s t = absurd cc
same_cut p (x ∷ xs) ys [] (w ∷ ws) e h k s t = let same : x ≡ w = cc in absurd (false≢true (sym h.0 ∙ (ap p same ∙ t)))
same_cut p (x ∷ xs) ys (v ∷ vs) ws e h k s t =
    let first : x ≡ v = cc in
    let more : xs ++ ys ≡ vs ++ ws = cc in
    let i = same_cut p xs ys vs ws more h.1 k.1 s t in
    (rw (first, i.0) refl, i.1)

mark_starts : (text : List ℕ) → StartsMark text → Starts is_mark text
mark_starts [] h = tt
mark_starts (b ∷ bs) h = h

-- a text is cut at its first mark in one way
pub cut_same : (text head rest front back : List ℕ) → text ≡ head ++ rest → ArePlain head → StartsMark rest → text ≡ front ++ back → ArePlain front → StartsMark back
    → (head ≡ front) × (rest ≡ back)
cut_same text head rest front back e h s f k t = same_cut is_mark head rest front back (sym e ∙ f) h k (mark_starts rest s) (mark_starts back t)

-- ---- what follows a closing bracket

-- spaces are plain
pub spaces_plain : (text : List ℕ) → AreSpaces text → ArePlain text
spaces_plain [] h = tt
spaces_plain (b ∷ bs) h = let is : b ≡ 32 = h.0 in (rw is refl, spaces_plain bs h.1)

-- what may follow a condition is a mark
pub ends_mark : (text : List ℕ) → Ends text → StartsMark text
ends_mark [] h = tt
ends_mark (b ∷ bs) (inl e) = rw e refl
ends_mark (b ∷ bs) (inr e) = rw e refl

-- it is no opening bracket
pub ends_closed : (text more : List ℕ) → Ends text → text ≢ 40 ∷ more
ends_closed [] more h e = cc
ends_closed (b ∷ bs) more (inl h) e = let is : b ≡ 40 = cc in absurd (omega arith)
ends_closed (b ∷ bs) more (inr h) e = let is : b ≡ 40 = cc in absurd (omega arith)

-- and a mark that is none may follow a condition
pub mark_ends : (text : List ℕ) → StartsMark text → ((more : List ℕ) → text ≢ 40 ∷ more) → Ends text
mark_ends [] s none = tt
mark_ends (b ∷ bs) s none = elim (mark_is b s) [
  | inl e ↦ absurd (none bs (ap (λ x. x ∷ bs) e))
  | inr k ↦ k
]

-- how the rest is found
pub closes_at : (text gap rest v : List ℕ) → text ≡ gap ++ rest → ArePlain gap → StartsMark rest → Closes v text → AreSpaces gap × Ends rest × (v ≡ rest)
closes_at text gap rest v e plain starts h =
    let same = cut_same text gap rest h.0 v e plain starts h.3 (spaces_plain h.0 h.1) (ends_mark v h.2) in
    (rw same.0 h.1, rw same.1 h.2, sym same.1)

-- no mark is there
pub no_place : (text : List ℕ) → None ≡ position is_mark text → length text ≡ position_or_len is_mark text
no_place text e = go (nat_lt (position_or_len is_mark text) (length text)) refl where
  go : (b : Bool) → nat_lt (position_or_len is_mark text) (length text) ≡ b → length text ≡ position_or_len is_mark text
  go true h = let some : None ≡ Some (position_or_len is_mark text) = e ∙ ap (λ b. cond b (Some (position_or_len is_mark text)) None) h in absurd cc
  go false h = let most : position_or_len is_mark text ≤ length text = prefix_len-le-length _ text in grind (arith, common_steps, h)

-- what follows a closing bracket at the front
pub closing_at : (result : Option (Bor (List ℕ))) (text after : List ℕ) → text ≡ 41 ∷ after
    → Reads Closes after (option_map (λ (rest : Bor (List ℕ)). rest.now) result) → Reads IsClosing text (option_map (λ (rest : Bor (List ℕ)). rest.now) result)
closing_at None text after e none = λ v h. let same : h.0 ≡ after = cc in none v (rw same at h.2)
closing_at (Some rest) text after e only =
    ((after, e, only.0), λ v h. let same : h.0 ≡ after = cc in only.1 v (rw same at h.2))

-- ---- parts of a text are texts

-- what follows a byte of 7 bits
pub utf8_tail : (text after : List ℕ) (b : ℕ) → text ≡ b ∷ after → b < 128 → IsUtf8 text → IsUtf8 after
utf8_tail text after b e low u = tail b after low (subst IsUtf8 e u) where
  tail : (b : ℕ) (after : List ℕ) → b < 128 → IsUtf8 (b ∷ after) → IsUtf8 after
  tail b after low u = IsUtf8-drop (b ∷ after) 1 u (IsCharBoundary-after_ascii (b ∷ after) 0 u (omega arith) low)

-- what begins with a mark
pub utf8_mark : (text front rest : List ℕ) → text ≡ front ++ rest → StartsMark rest → IsUtf8 text → IsUtf8 rest
utf8_mark text front [] e s u = IsUtf8-nil
utf8_mark text front (b ∷ bs) e s u =
    subst IsUtf8 (drop-append_seam front (b ∷ bs)) (IsUtf8-drop (front ++ b ∷ bs) (length front) (subst IsUtf8 e u) (short, λ below high. absurd (low high)))
  where
    short : length front ≤ length (front ++ b ∷ bs)
    short = grind (arith, common_steps)

    small : (b ≡ 40) ⊎ ((b ≡ 41) ⊎ (b ≡ 44)) → b < 128
    small (inl e) = omega arith
    small (inr (inl e)) = omega arith
    small (inr (inr e)) = omega arith

    low : 128 ≤ get_or (front ++ b ∷ bs) (length front) 0 → ⊥
    low high = let at : get_or (front ++ b ∷ bs) (length front) 0 ≡ b = get_or-append_seam front b bs 0 in let less : b < 128 = small (mark_is b s) in omega arith

-- what may follow a condition
pub utf8_rest : (text front rest : List ℕ) → text ≡ front ++ rest → Ends rest → IsUtf8 text → IsUtf8 rest
utf8_rest text front rest e ends = utf8_mark text front rest e (ends_mark rest ends)
