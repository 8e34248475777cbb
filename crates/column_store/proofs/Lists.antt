-- Lists that are edited.
use Rattle.column_store.proofs.Common.{◌≡◌, ℕ, zero, suc, ◌<◌, List, [], ◌∷◌, length, get_or, set, map, option_map, Some, refl, sym, ap, ◌∙◌, arith, insert, remove, AllByRecursion, slice_get, map-set, take-map, update_at, get-there}
use Rattle.std.proofs.lemmas.List.{map-append, drop-map}
use Rattle.column_store.proofs.Swapped.{map-swap_out}

-- an insertion
pub map-insert : {A B : Type 0} (f : A → B) (xs : List A) (i : ℕ) (y : A) → map f (insert xs i y) ≡ insert (map f xs) i (f y)
map-insert f xs i y = simp (map-append, take-map, drop-map)

-- a removal
pub map-remove : {A B : Type 0} (f : A → B) (xs : List A) (i : ℕ) → map f (remove xs i) ≡ remove (map f xs) i
map-remove f xs i = simp (map-append, take-map, drop-map)

pub ruleset edits = (map-set, map-append, map-swap_out)

-- ---- a change at one index

-- a change that a function of the elements sees as another change
pub map-update_at : {A B : Type 0} (g : A → B) (f : A → A) (f' : B → B) → ((x : A) → g (f x) ≡ f' (g x)) → (j : ℕ) (xs : List A) → map g (update_at j f xs) ≡ update_at j f' (map g xs)
map-update_at g f f' h j [] = refl
map-update_at g f f' h zero (x ∷ xs) = ap (λ y. y ∷ map g xs) (h x)
map-update_at g f f' h (suc j) (x ∷ xs) = ap (λ ys. g x ∷ ys) (map-update_at g f f' h j xs)

-- a change that it doesn't see
pub map-update_at_same : {A B : Type 0} (g : A → B) (f : A → A) → ((x : A) → g (f x) ≡ g x) → (j : ℕ) (xs : List A) → map g (update_at j f xs) ≡ map g xs
map-update_at_same g f h j [] = refl
map-update_at_same g f h zero (x ∷ xs) = ap (λ y. y ∷ map g xs) (h x)
map-update_at_same g f h (suc j) (x ∷ xs) = ap (λ ys. g x ∷ ys) (map-update_at_same g f h j xs)

-- a write of what a function makes of the element
pub set-update_at : {A : Type 0} (f : A → A) (xs : List A) (i : ℕ) (x y : A) → slice_get xs i ≡ Some x → y ≡ f x → set xs i y ≡ update_at i f xs
set-update_at f [] i x y h e = absurd (cc)
set-update_at f (z ∷ zs) zero x y h e = let same : z ≡ x = cc in ap (λ w. w ∷ zs) (e ∙ ap f (sym same))
set-update_at f (z ∷ zs) (suc i) x y h e = ap (λ ws. z ∷ ws) (set-update_at f zs i x y h e)

-- what holds of each element holds after a change that keeps it
pub each-updated : {A : Type 0} (P : A → Type 0) (f : A → A) → ((x : A) → P x → P (f x)) → (j : ℕ) (xs : List A) → AllByRecursion P xs → AllByRecursion P (update_at j f xs)
each-updated P f h j [] k = tt
each-updated P f h zero (x ∷ xs) k = (h x k.0, k.1)
each-updated P f h (suc j) (x ∷ xs) k = (k.0, each-updated P f h j xs k.1)

-- ---- an element by its index

pub get-map : {A B : Type 0} (f : A → B) (xs : List A) (i : ℕ) → slice_get (map f xs) i ≡ option_map f (slice_get xs i)
get-map f [] i = refl
get-map f (x ∷ xs) zero = refl
get-map f (x ∷ xs) (suc i) = get-map f xs i

-- ---- an insertion or a removal

pub each-insert : {A : Type 0} (P : A → Type 0) (xs : List A) (i : ℕ) (y : A) → P y → AllByRecursion P xs → AllByRecursion P (insert xs i y)
each-insert P [] zero y h k = (h, tt)
each-insert P [] (suc i) y h k = (h, tt)
each-insert P (x ∷ xs) zero y h k = (h, k)
each-insert P (x ∷ xs) (suc i) y h k = (k.0, each-insert P xs i y h k.1)

pub each-remove : {A : Type 0} (P : A → Type 0) (xs : List A) (i : ℕ) → AllByRecursion P xs → AllByRecursion P (remove xs i)
each-remove P [] zero k = tt
each-remove P [] (suc i) k = tt
each-remove P (x ∷ xs) zero k = k.1
each-remove P (x ∷ xs) (suc i) k = (k.0, each-remove P xs i k.1)

-- ---- an element that was read by its index

-- a write of what a function makes of it
pub set-changed : {A : Type 0} (f : A → A) (xs : List A) (i : ℕ) (d y : A) → i < length xs → y ≡ f (get_or xs i d) → set xs i y ≡ update_at i f xs
set-changed f xs i d y l h = set-update_at f xs i (get_or xs i d) y (get-there xs i d l) h

-- a write of what is there
pub set-same : {A : Type 0} (xs : List A) (i : ℕ) (d : A) → i < length xs → set xs i (get_or xs i d) ≡ xs
set-same [] i d l = absurd (omega arith)
set-same (x ∷ xs) zero d l = refl
set-same (x ∷ xs) (suc i) d l = ap (λ ys. x ∷ ys) (set-same xs i d (omega arith))
