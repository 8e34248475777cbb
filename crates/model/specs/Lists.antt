-- Words on lists, options and maps by number that the other definitions use.
use Rattle.std.specs.Prelude.{ℕ, zero, suc, Bool, true, false, ◌&&◌, ◌==◌, ◌≡◌, ◌⊎◌, cond, List, [], ◌∷◌, Option, Some, None}
use Rattle.std.specs.List.{list_any}

-- whether a number is among a list
abbrev pub has : ℕ → List ℕ → Bool
has n xs = list_any (λ x. x == n) xs

-- x is one of the elements
abbrev pub IsIn : {A : Type 0} → A → List A → Type 0
IsIn x [] = ⊥
IsIn x (y ∷ ys) = (x ≡ y) ⊎ IsIn x ys

-- each element, changed by f at its index
abbrev pub map_index : {A B : Type 0} → (ℕ → A → B) → List A → List B
map_index f [] = []
map_index f (x ∷ xs) = f zero x ∷ map_index (λ i. f (suc i)) xs

-- whether each element passes the test at its index
abbrev pub all_index : {A : Type 0} → (ℕ → A → Bool) → List A → Bool
all_index test [] = true
all_index test (x ∷ xs) = test zero x && all_index (λ i. test (suc i)) xs

-- the list with f applied at index i
abbrev pub update_at : {A : Type 0} → ℕ → (A → A) → List A → List A
update_at i f [] = []
update_at zero f (x ∷ xs) = f x ∷ xs
update_at (suc i) f (x ∷ xs) = x ∷ update_at i f xs

-- the first element
abbrev pub head_or : {A : Type 0} → A → List A → A
head_or d [] = d
head_or d (x ∷ xs) = x

-- the elements after the first
abbrev pub tail_of : {A : Type 0} → List A → List A
tail_of [] = []
tail_of (x ∷ xs) = xs

-- whether a list has an element
abbrev pub is_there : {A : Type 0} → List A → Bool
is_there [] = false
is_there (x ∷ xs) = true

-- x where the test is passed
abbrev pub provided : {A : Type 0} → Bool → A → Option A
provided true x = Some x
provided false x = None

-- the first of two options that is there
abbrev pub first_some : {A : Type 0} → Option A → Option A → Option A
first_some None other = other
first_some (Some x) other = Some x

-- whether an option names the number
abbrev pub is_number : ℕ → Option ℕ → Bool
is_number n None = false
is_number n (Some m) = m == n

-- a map by number with another value at one number
abbrev pub with_at : {A : Type 0} → ℕ → A → (ℕ → A) → ℕ → A
with_at n x f m = cond (m == n) x (f m)
