-- Lists from which an element is removed by moving the last one into its place.
use Rattle.column_store.proofs.Common.{◌≡◌, ℕ, zero, suc, ◌-◌, ◌+◌, ◌<◌, List, [], ◌∷◌, length, get_or, set, map, take, Some, refl, sym, ap, ◌∙◌, arith, slice_get, swap_remove, map-set, take-map, length-map, length-set, get_or-set_same, get_or-set_other, get_or_default, swap_removed, get-there}
use Rattle.std.proofs.lemmas.List.{length-take, get_or-take}

-- the word of std, whatever its default
pub swap_removed-is : {A : Type 0} (xs : List A) (i : ℕ) (d : A) → i < length xs → swap_remove xs i d ≡ swap_removed xs i
swap_removed-is [] i d l = absurd (omega arith)
swap_removed-is (x ∷ xs) i d l = ap (λ y. take (length (x ∷ xs) - 1) (set (x ∷ xs) i y)) (get_or_default (x ∷ xs) (length (x ∷ xs) - 1) d x (omega arith))

map-get_or : {A B : Type 0} (f : A → B) (xs : List A) (i : ℕ) (d : A) → f (get_or xs i d) ≡ get_or (map f xs) i (f d)
map-get_or f [] i d = refl
map-get_or f (x ∷ xs) zero d = refl
map-get_or f (x ∷ xs) (suc i) d = map-get_or f xs i d

pub map-swap_remove : {A B : Type 0} (f : A → B) (xs : List A) (i : ℕ) (d : A) → map f (swap_remove xs i d) ≡ swap_remove (map f xs) i (f d)
map-swap_remove f xs i d =
    let n = length xs - 1 in
    sym (take-map f n (set xs i (get_or xs n d)))
    ∙ ap (take n) (map-set f xs i (get_or xs n d) ∙ ap (set (map f xs) i) (map-get_or f xs n d))
    ∙ ap (λ m. take (m - 1) (set (map f xs) i (get_or (map f xs) (m - 1) (f d)))) (sym (length-map xs f))

pub map-swap_removed : {A B : Type 0} (f : A → B) (xs : List A) (i : ℕ) → map f (swap_removed xs i) ≡ swap_removed (map f xs) i
map-swap_removed f [] i = refl
map-swap_removed f (x ∷ xs) i = map-swap_remove f (x ∷ xs) i x

-- the same after a removal of std
pub map-swap_out : {A B : Type 0} (f : A → B) (xs : List A) (i : ℕ) (d : A) → i < length xs → map f (swap_remove xs i d) ≡ swap_removed (map f xs) i
map-swap_out f xs i d l = ap (map f) (swap_removed-is xs i d l) ∙ map-swap_removed f xs i

pub length-swapped : {A : Type 0} (xs : List A) (i : ℕ) → 0 < length xs → length (swap_removed xs i) + 1 ≡ length xs
length-swapped [] i l = absurd (omega arith)
length-swapped (x ∷ xs) i l =
    let n = length (x ∷ xs) - 1 in
    let long = length-take n (set (x ∷ xs) i (get_or (x ∷ xs) n x)) in
    let same = length-set (x ∷ xs) i (get_or (x ∷ xs) n x) in
    omega arith

pub length-swap_removed : {A : Type 0} (xs : List A) (i : ℕ) → i < length xs → length (swap_removed xs i) + 1 ≡ length xs
length-swap_removed xs i l = length-swapped xs i (omega arith)

-- what is at an index: the last one where one was removed
pub get_or-swap_here : {A : Type 0} (xs : List A) (i : ℕ) (d : A) → i + 1 < length xs → get_or (swap_removed xs i) i d ≡ get_or xs (length xs - 1) d
get_or-swap_here [] i d l = absurd (omega arith)
get_or-swap_here (x ∷ xs) i d l =
    let n = length (x ∷ xs) - 1 in
    get_or-take n (set (x ∷ xs) i (get_or (x ∷ xs) n x)) i d (omega arith)
    ∙ get_or-set_same (x ∷ xs) i (get_or (x ∷ xs) n x) d (omega arith)
    ∙ get_or_default (x ∷ xs) n x d (omega arith)

pub get_or-swap_other : {A : Type 0} (xs : List A) (i k : ℕ) (d : A) → k + 1 < length xs → (k ≡ i → ⊥) → get_or (swap_removed xs i) k d ≡ get_or xs k d
get_or-swap_other [] i k d l other = absurd (omega arith)
get_or-swap_other (x ∷ xs) i k d l other =
    let n = length (x ∷ xs) - 1 in
    get_or-take n (set (x ∷ xs) i (get_or (x ∷ xs) n x)) k d (omega arith)
    ∙ get_or-set_other (x ∷ xs) i k (get_or (x ∷ xs) n x) d other

pub get-swap_here : {A : Type 0} (xs : List A) (i : ℕ) → i + 1 < length xs → slice_get (swap_removed xs i) i ≡ slice_get xs (length xs - 1)
get-swap_here [] i l = absurd (omega arith)
get-swap_here (x ∷ xs) i l =
    let long = length-swap_removed (x ∷ xs) i (omega arith) in
    get-there (swap_removed (x ∷ xs) i) i x (omega arith) ∙ ap (λ y. Some y) (get_or-swap_here (x ∷ xs) i x l) ∙ sym (get-there (x ∷ xs) (length (x ∷ xs) - 1) x (omega arith))

pub get-swap_other : {A : Type 0} (xs : List A) (i k : ℕ) → k + 1 < length xs → (k ≡ i → ⊥) → slice_get (swap_removed xs i) k ≡ slice_get xs k
get-swap_other [] i k l other = absurd (omega arith)
get-swap_other (x ∷ xs) i k l other =
    let long = length-swapped (x ∷ xs) i (omega arith) in
    get-there (swap_removed (x ∷ xs) i) k x (omega arith) ∙ ap (λ y. Some y) (get_or-swap_other (x ∷ xs) i k x l other) ∙ sym (get-there (x ∷ xs) k x (omega arith))
