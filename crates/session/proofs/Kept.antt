-- States that are kept, by the places of their names.
use Rattle.std.proofs.Common.{◌≡◌, ◌<◌, ◌≤◌, ◌+◌, ℕ, zero, suc, Bool, true, false, not, cond, nat_lt, List, [], ◌∷◌, ◌++◌, length, map, get_or, set, Option, Some, None, option_map, refl, sym, ap, ap₂, ◌∙◌, arith, string_bytes}
use Rattle.std.specs.List.{find, position, position_or_len, prefix_len, remove}
use Rattle.std.specs.Option.{option_map_or}
use Rattle.std.proofs.lemmas.Bool.{cond-true, cond-false}
use Rattle.std.proofs.lemmas.Bool.Decides.{nat_tests}
use Rattle.std.proofs.lemmas.List.{length-map, map-set}
use Rattle.std.proofs.lemmas.List.Quantifiers.{position-Some}
use Rattle.model.specs.state.State.{State}
use Rattle.session.specs.Marks.{is_named, kept_at, mark_of, with_mark, without}
use Rattle.session.specs.declared.marks.Mark.{Mark}

-- ---- places

prefix-map : {X Y : Type 0} (p : Y → Bool) (f : X → Y) (xs : List X) → prefix_len p (map f xs) ≡ prefix_len (λ x. p (f x)) xs
prefix-map p f [] = refl
prefix-map p f (x ∷ xs) = ap (λ n. cond (p (f x)) (1 + n) 0) (prefix-map p f xs)

-- the place of what is seen is the place of what it is seen of
pub position-map : {X Y : Type 0} (p : Y → Bool) (f : X → Y) (xs : List X) → position p (map f xs) ≡ position (λ x. p (f x)) xs
position-map p f xs = ap₂ (λ n m. cond (nat_lt n m) (Some n) None) (prefix-map (λ y. not (p y)) f xs) (length-map xs f)

-- the first that passes is at the first place
found_at : {X : Type 0} (p : X → Bool) (xs : List X) (i : ℕ) (d : X) → i < length xs → p (get_or xs i d) ≡ true → ((j : ℕ) → j < i → p (get_or xs j d) ≡ false) → find p xs ≡ Some (get_or xs i d)
found_at p [] i d low is before = absurd (omega arith)
found_at p (x ∷ xs) zero d low is before = cond-true (p x) (Some x) (find p xs) is
found_at p (x ∷ xs) (suc i) d low is before =
    cond-false (p x) (Some x) (find p xs) (before 0 (omega arith)) ∙ found_at p xs i d (omega arith) is (λ j less. before (suc j) (omega (arith, less)))

le_step : (b : Bool) (p l : ℕ) → p ≤ l → cond (not b) (1 + p) 0 ≤ suc l
le_step true p l h = omega arith
le_step false p l h = omega arith

place-le : {X : Type 0} (p : X → Bool) (xs : List X) → position_or_len p xs ≤ length xs
place-le p [] = omega arith
place-le p (x ∷ xs) = le_step (p x) _ _ (place-le p xs)

no_place : (n m : ℕ) → n ≤ m → cond (nat_lt n m) (Some n) None ≡ None → n ≡ m
no_place n m l h = grind (arith, nat_tests)

none_step : {X : Type 0} (b : Bool) (n l : ℕ) (x r : Option X) → cond (not b) (1 + n) 0 ≡ suc l → (n ≡ l → r ≡ None) → cond b x r ≡ None
none_step true n l x r h more = absurd (omega (arith, h))
none_step false n l x r h more = more (omega (arith, h))

none_found : {X : Type 0} (p : X → Bool) (xs : List X) → position_or_len p xs ≡ length xs → find p xs ≡ None
none_found p [] h = refl
none_found p (x ∷ xs) h = none_step (p x) _ (length xs) (Some x) (find p xs) h (none_found p xs)

-- ---- states

get_or-map : (ms : List Mark) (i : ℕ) (d : Mark) → get_or (map mark_of ms) i (mark_of d) ≡ mark_of (get_or ms i d)
get_or-map [] i d = refl
get_or-map (m ∷ ms) zero d = refl
get_or-map (m ∷ ms) (suc i) d = get_or-map ms i d

-- a name with a place has a state
pub found_first : (name : List ℕ) (ms : List (List ℕ × State)) (i : ℕ) → position (is_named name) ms ≡ Some i → (state : State) × (kept_at name ms ≡ Some state)
found_first name [] i h = let none : None ≡ Some i = h in absurd (cc)
found_first name (m ∷ ms) i h =
    let at = position-Some (is_named name) (m ∷ ms) i m h in (
      (get_or (m ∷ ms) i m).1,
      ap (option_map (λ (n : List ℕ × State). n.1)) (found_at (is_named name) (m ∷ ms) i m at.0 at.1 at.2),
    )

-- a name with a place has the state there, and one without has none
pub kept_there : (name : List ℕ) (ms : List Mark) (i : ℕ) (d : Mark) → position (is_named name) (map mark_of ms) ≡ Some i → kept_at name (map mark_of ms) ≡ Some (get_or ms i d).state
kept_there name ms i d h =
    let at = position-Some (is_named name) (map mark_of ms) i (mark_of d) h in
    ap (option_map (λ (m : List ℕ × State). m.1)) (found_at (is_named name) (map mark_of ms) i (mark_of d) at.0 at.1 at.2 ∙ ap Some (get_or-map ms i d))

pub kept_nowhere : (name : List ℕ) (ms : List (List ℕ × State)) → position (is_named name) ms ≡ None → kept_at name ms ≡ None
kept_nowhere name ms h = ap (option_map (λ (m : List ℕ × State). m.1)) (none_found (is_named name) ms (no_place _ _ (place-le (is_named name) ms) h))

-- a mark in another's place keeps its state
pub kept_over : (name : List ℕ) (state : State) (ms : List Mark) (i : ℕ) (m : Mark) → string_bytes m.name ≡ name → m.state ≡ state → position (is_named name) (map mark_of ms) ≡ Some i →
    map mark_of (set ms i m) ≡ with_mark name state (map mark_of ms)
kept_over name state ms i m named is h =
    map-set mark_of ms i m
    ∙ (ap₂ (λ n s. set (map mark_of ms) i (n, s)) named is
    ∙ sym (ap (λ place. option_map_or (λ p. set (map mark_of ms) p (name, state)) place (map mark_of ms ++ (name, state) ∷ [])) h))

remove-map : (ms : List Mark) (i : ℕ) → map mark_of (remove ms i) ≡ remove (map mark_of ms) i
remove-map [] zero = refl
remove-map [] (suc i) = refl
remove-map (m ∷ ms) zero = refl
remove-map (m ∷ ms) (suc i) = ap (λ rest. mark_of m ∷ rest) (remove-map ms i)

-- one that is removed is forgotten
pub forgotten_at : (name : List ℕ) (ms : List Mark) (i : ℕ) → position (is_named name) (map mark_of ms) ≡ Some i → map mark_of (remove ms i) ≡ without name (map mark_of ms)
forgotten_at name ms i h = remove-map ms i ∙ sym (ap (λ place. option_map_or (remove (map mark_of ms)) place (map mark_of ms)) h)
