-- Changes of one element.
use Rattle.std.proofs.Common.{◌≡◌, ℕ, zero, suc, ◌<◌, List, [], ◌∷◌, length, get_or, set, refl, ap, ◌∙◌, arith}
use Rattle.model.specs.Lists.{update_at}

-- a write of what a function makes of the element
pub set-update_at : {A : Type 0} (f : A → A) (xs : List A) (i : ℕ) (d : A) → i < length xs → set xs i (f (get_or xs i d)) ≡ update_at i f xs
set-update_at f [] i d l = absurd (omega arith)
set-update_at f (x ∷ xs) zero d l = refl
set-update_at f (x ∷ xs) (suc i) d l = ap (◌∷◌ x) (set-update_at f xs i d (omega arith))

-- the same, for the element as it was read
pub set-written : {A : Type 0} (f : A → A) (xs : List A) (i : ℕ) (x y : A) → i < length xs → x ≡ get_or xs i x → y ≡ f x → set xs i y ≡ update_at i f xs
set-written f xs i x y l e g = ap (set xs i) (g ∙ ap f e) ∙ set-update_at f xs i x l

-- changes that do the same to the element
pub update_at-same : {A : Type 0} (f g : A → A) (xs : List A) (i : ℕ) (d : A) → (i < length xs → f (get_or xs i d) ≡ g (get_or xs i d)) → update_at i f xs ≡ update_at i g xs
update_at-same f g [] i d h = refl
update_at-same f g (x ∷ xs) zero d h = ap (λ y. y ∷ xs) (h (omega arith))
update_at-same f g (x ∷ xs) (suc i) d h = ap (◌∷◌ x) (update_at-same f g xs i d (λ l. h (omega arith)))

-- a change that leaves the element
pub update_at-id : {A : Type 0} (f : A → A) (xs : List A) (i : ℕ) (d : A) → (i < length xs → f (get_or xs i d) ≡ get_or xs i d) → update_at i f xs ≡ xs
update_at-id f [] i d h = refl
update_at-id f (x ∷ xs) zero d h = ap (λ y. y ∷ xs) (h (omega arith))
update_at-id f (x ∷ xs) (suc i) d h = ap (◌∷◌ x) (update_at-id f xs i d (λ l. h (omega arith)))

-- the changed element
pub get_or-update_at : {A : Type 0} (f : A → A) (xs : List A) (i : ℕ) (d : A) → i < length xs → get_or (update_at i f xs) i d ≡ f (get_or xs i d)
get_or-update_at f [] i d l = absurd (omega arith)
get_or-update_at f (x ∷ xs) zero d l = refl
get_or-update_at f (x ∷ xs) (suc i) d l = get_or-update_at f xs i d (omega arith)
