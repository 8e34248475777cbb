-- Each component of a column has as many fields as its kind.
use Rattle.column_store.proofs.Common.{◌≡◌, ℕ, ℤ, List, [], ◌∷◌, length, map, refl, subst, AllByRecursion, Stamp, Packs, Marks, Amounts, Pairs, cells_of, words_in, width_in}

wide : {A : Type 0} (f : A → List ℤ) (n : ℕ) → ((x : A) → length (f x) ≡ n) → (xs : List A) → AllByRecursion (λ ws. length ws ≡ n) (map f xs)
wide f n h [] = tt
wide f n h (x ∷ xs) = (h x, wide f n h xs)

-- so has what is packed
pub packs_wide : (packs : Packs) (n : ℕ) → width_in packs ≡ n → AllByRecursion (λ ws. length ws ≡ n) (words_in packs)
packs_wide (Marks v) n h = subst (λ m. AllByRecursion (λ ws. length ws ≡ m) (words_in (Marks v))) h (wide _ 0 (λ x. refl) v.items)
packs_wide (Amounts v) n h = subst (λ m. AllByRecursion (λ ws. length ws ≡ m) (words_in (Amounts v))) h (wide _ 1 (λ x. refl) v.items)
packs_wide (Pairs v) n h = subst (λ m. AllByRecursion (λ ws. length ws ≡ m) (words_in (Pairs v))) h (wide _ 2 (λ x. refl) v.items)

-- so has each cell
pub cells_wide : (n : ℕ) (ws : List (List ℤ)) (ss : List Stamp) → AllByRecursion (λ w. length w ≡ n) ws → AllByRecursion (λ c. length c.words ≡ n) (cells_of ws ss)
cells_wide n [] ss h = tt
cells_wide n (w ∷ ws) [] h = tt
cells_wide n (w ∷ ws) (s ∷ ss) h = (h.0, cells_wide n ws ss h.1)
