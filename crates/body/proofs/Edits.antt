-- What a function shows of a list with one element replaced.
use Rattle.std.proofs.Common.{◌≡◌, ℕ, zero, suc, List, [], ◌∷◌, get_or, set, map, refl, ap}
use Rattle.model.specs.Lists.{update_at}

-- nothing new
pub map-set_same : {A B : Type 0} (f : A → B) (xs : List A) (i : ℕ) (y d : A) → f y ≡ f (get_or xs i d) → map f (set xs i y) ≡ map f xs
map-set_same f [] i y d h = refl
map-set_same f (x ∷ xs) zero y d h = ap (λ z. z ∷ map f xs) h
map-set_same f (x ∷ xs) (suc i) y d h = ap (λ zs. f x ∷ zs) (map-set_same f xs i y d h)

-- a change there
pub map-set_update : {A B : Type 0} (f : A → B) (g : B → B) (xs : List A) (i : ℕ) (y d : A) → f y ≡ g (f (get_or xs i d)) → map f (set xs i y) ≡ update_at i g (map f xs)
map-set_update f g [] i y d h = refl
map-set_update f g (x ∷ xs) zero y d h = ap (λ z. z ∷ map f xs) h
map-set_update f g (x ∷ xs) (suc i) y d h = ap (λ zs. f x ∷ zs) (map-set_update f g xs i y d h)
