-- What is true of each element of a list, by recursion, and of lists made of it.
use Rattle.std.proofs.Common.{ℕ, zero, suc, ◌<◌, arith, List, [], ◌∷◌, ◌++◌, map, flat_map, length, replicate, get_or}
use Rattle.std.specs.List.{AllByRecursion}
use Rattle.model.specs.Lists.{map_index, update_at}

-- what is weaker
pub each-weaker : {A : Type 0} (P Q : A → Type 0) → ((x : A) → P x → Q x) → (xs : List A) → AllByRecursion P xs → AllByRecursion Q xs
each-weaker P Q step [] h = tt
each-weaker P Q step (x ∷ xs) h = (step x h.0, each-weaker P Q step xs h.1)

-- of two lists joined
pub each-append : {A : Type 0} (P : A → Type 0) (xs ys : List A) → AllByRecursion P xs → AllByRecursion P ys → AllByRecursion P (xs ++ ys)
each-append P [] ys h k = k
each-append P (x ∷ xs) ys h k = (h.0, each-append P xs ys h.1 k)

-- of one element, so many times
pub each-replicate : {A : Type 0} (P : A → Type 0) (n : ℕ) (x : A) → P x → AllByRecursion P (replicate n x)
each-replicate P zero x h = tt
each-replicate P (suc n) x h = (h, each-replicate P n x h)

-- of what a function makes
pub each-map : {A B : Type 0} (P : A → Type 0) (Q : B → Type 0) (f : A → B) → ((x : A) → P x → Q (f x)) → (xs : List A) → AllByRecursion P xs → AllByRecursion Q (map f xs)
each-map P Q f step [] h = tt
each-map P Q f step (x ∷ xs) h = (step x h.0, each-map P Q f step xs h.1)

-- of what a function makes by index
pub each-map_index : {A B : Type 0} (P : A → Type 0) (Q : B → Type 0) (f : ℕ → A → B) → ((i : ℕ) (x : A) → P x → Q (f i x)) → (xs : List A)
    → AllByRecursion P xs → AllByRecursion Q (map_index f xs)
each-map_index P Q f step [] h = tt
each-map_index P Q f step (x ∷ xs) h = (step zero x h.0, each-map_index P Q (λ i. f (suc i)) (λ i. step (suc i)) xs h.1)

-- of a list that is changed at one index
pub each-update_at : {A : Type 0} (P : A → Type 0) (i : ℕ) (f : A → A) (xs : List A) (d : A) → (P (get_or xs i d) → P (f (get_or xs i d)))
    → AllByRecursion P xs → AllByRecursion P (update_at i f xs)
each-update_at P i f [] d step h = tt
each-update_at P zero f (x ∷ xs) d step h = (step h.0, h.1)
each-update_at P (suc i) f (x ∷ xs) d step h = (h.0, each-update_at P i f xs d step h.1)

-- of the lists that are joined
pub each-flat_map : {A B : Type 0} (P : B → Type 0) (f : A → List B) → ((x : A) → AllByRecursion P (f x)) → (xs : List A) → AllByRecursion P (flat_map f xs)
each-flat_map P f step [] = tt
each-flat_map P f step (x ∷ xs) = each-append P (f x) (flat_map f xs) (step x) (each-flat_map P f step xs)

-- of the element at an index, where it is so past the end
pub each-get_or : {A : Type 0} (P : A → Type 0) (xs : List A) (i : ℕ) (d : A) → P d → AllByRecursion P xs → P (get_or xs i d)
each-get_or P [] i d past h = past
each-get_or P (x ∷ xs) zero d past h = h.0
each-get_or P (x ∷ xs) (suc i) d past h = each-get_or P xs i d past h.1

-- of the element at an index within the list
pub each-at : {A : Type 0} (P : A → Type 0) (xs : List A) (i : ℕ) (d : A) → i < length xs → AllByRecursion P xs → P (get_or xs i d)
each-at P [] i d below h = absurd (omega arith)
each-at P (x ∷ xs) zero d below h = h.0
each-at P (x ∷ xs) (suc i) d below h = each-at P xs i d (omega arith) h.1

-- of what a function makes by index, each index by itself
pub each-map_index_at : {A B : Type 0} (Q : B → Type 0) (f : ℕ → A → B) (xs : List A) (d : A) → ((i : ℕ) → i < length xs → Q (f i (get_or xs i d)))
    → AllByRecursion Q (map_index f xs)
each-map_index_at Q f [] d step = tt
each-map_index_at Q f (x ∷ xs) d step = (step zero (omega arith), each-map_index_at Q (λ i. f (suc i)) xs d (λ i below. step (suc i) (omega arith)))
