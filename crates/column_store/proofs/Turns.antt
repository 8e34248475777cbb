-- Lists that a loop makes, an element a turn, and what a step that fails hands on.
use Rattle.column_store.proofs.Common.{◌≡◌, ℕ, ◌+◌, ◌<◌, ◌≤◌, List, [], ◌∷◌, ◌++◌, length, map, take, get_or, Result, Ok, Err, refl, sym, ap, ap₂, subst, ◌∙◌, arith, AllByRecursion}
use Rattle.std.specs.Result.{OnErr}
use Rattle.std.proofs.lemmas.List.{take_all, map_push}
use Rattle.model.proofs.lists.Turns.{seen_next}

-- a turn of a loop that lists what is seen by a function, and made in two steps
pub matched-more-twice : {A B C D : Type 0} (g : C → D) (h : B → D) (f : A → B) (xs : List A) (ys zs : List C) (i : ℕ) (x : A) (y : C) → i < length xs → x ≡ get_or xs i x → g y ≡ h (f x) →
    map g ys ≡ map h (map f (take i xs)) → zs ≡ ys ++ y ∷ [] → map g zs ≡ map h (map f (take (i + 1) xs))
matched-more-twice g h f xs ys zs i x y l at e so more =
    ap (map g) more ∙ map_push g ys y ∙ ap₂ (λ bs b. bs ++ b ∷ []) so e
    ∙ sym (ap (map h) (map_push f (take i xs) x) ∙ map_push h (map f (take i xs)) (f x))
    ∙ sym (ap (λ bs. map h (map f bs)) (seen_next xs i x l at))

-- after the last turn all elements were seen
pub all_seen : {A : Type 0} (P : List A → Type 0) (xs : List A) (i : ℕ) → length xs ≤ i → P (take i xs) → P xs
all_seen P xs i l h = subst P (take_all i xs l) h

-- a function of no element makes none
pub none-mapped : {A : Type 0} (f : A → A) (xs : List A) → length xs ≡ 0 → xs ≡ map f xs
none-mapped f [] l = refl
none-mapped f (x ∷ xs) l = absurd (omega arith)

-- what holds of each of no elements
pub none-each : {A : Type 0} (P : A → Type 0) (xs : List A) → length xs ≡ 0 → AllByRecursion P xs
none-each P [] l = tt
none-each P (x ∷ xs) l = absurd (omega arith)

-- what holds anyhow holds after an error
pub on_err_from : {A E : Type 0} (r : Result A E) (Q : Type 0) → Q → OnErr r Q
on_err_from (Ok a) Q q = tt
on_err_from (Err e) Q q = q
