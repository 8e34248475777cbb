-- What stands at a place of a list.
use Rattle.std.proofs.Common.{◌≡◌, ◌∙◌, ℕ, zero, suc, ◌+◌, ◌<◌, ◌||◌, ◌==◌, List, [], ◌∷◌, ◌++◌, length, get_or, slice_get, Some, refl, ap, arith, inl, inr}
use Rattle.std.specs.List.{AllByRecursion}
use Rattle.model.specs.Lists.{has, IsIn}
use Rattle.model.proofs.lists.Bools.{or_assoc}

-- numbers of two lists
pub has-append : (n : ℕ) (xs ys : List ℕ) → has n (xs ++ ys) ≡ (has n xs || has n ys)
has-append n [] ys = refl
has-append n (x ∷ xs) ys = ap (λ b. (x == n) || b) (has-append n xs ys) ∙ or_assoc (x == n) (has n xs) (has n ys)

-- an element that is read by its place
pub get-there : {A : Type 0} (xs : List A) (i : ℕ) (d : A) → i < length xs → slice_get xs i ≡ Some (get_or xs i d)
get-there [] i d l = absurd (omega arith)
get-there (x ∷ xs) zero d l = refl
get-there (x ∷ xs) (suc i) d l = get-there xs i d (omega arith)

-- the last of a list with one more
pub get_or-last : {A : Type 0} (xs : List A) (x : A) (i : ℕ) (d : A) → length xs ≡ i → get_or (xs ++ x ∷ []) i d ≡ x
get_or-last [] x zero d e = refl
get_or-last [] x (suc i) d e = absurd (omega (arith, e))
get_or-last (y ∷ ys) x zero d e = absurd (omega (arith, e))
get_or-last (y ∷ ys) x (suc i) d e = get_or-last ys x i d (omega (arith, e))

-- what is true of each element that is in a list is true of each
pub each-where : {A : Type 0} (P : A → Type 0) (xs : List A) → ((x : A) → IsIn x xs → P x) → AllByRecursion P xs
each-where P [] h = tt
each-where P (x ∷ xs) h = (h x (inl refl), each-where P xs (λ y i. h y (inr i)))

-- and of one more
pub each-push : {A : Type 0} (P : A → Type 0) (xs : List A) (x : A) → AllByRecursion P xs → P x → AllByRecursion P (xs ++ x ∷ [])
each-push P [] x h p = (p, tt)
each-push P (y ∷ ys) x h p = (h.0, each-push P ys x h.1 p)
