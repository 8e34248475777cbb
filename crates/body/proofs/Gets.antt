-- Lists by what is at each place.
use Rattle.std.proofs.Common.{◌≡◌, ◌≢◌, ℕ, zero, suc, List, [], ◌∷◌, ◌++◌, inl, inr, map, slice_get, Option, Some, None, option_map, refl, sym, ap, ap₂, subst, arith}
use Rattle.std.specs.List.{AllByRecursion}
use Rattle.model.specs.Lists.{update_at, IsIn}

pub same-some : {A : Type 0} (x y : A) → (let o : Option A = Some x in o) ≡ Some y → x ≡ y
same-some x y e = cc

-- the same at each place
pub same-by-get : {A : Type 0} (xs ys : List A) → ((i : ℕ) → slice_get xs i ≡ slice_get ys i) → xs ≡ ys
same-by-get [] [] h = refl
same-by-get [] (y ∷ ys) h = absurd (let e = h zero in cc)
same-by-get (x ∷ xs) [] h = absurd (let e = h zero in cc)
same-by-get (x ∷ xs) (y ∷ ys) h = ap₂ ◌∷◌ (same-some x y (h zero)) (same-by-get xs ys (λ i. h (suc i)))

pub map-same-get : {A B : Type 0} (F G : A → B) (xs : List A) → ((s : ℕ) (x : A) → slice_get xs s ≡ Some x → F x ≡ G x) → map F xs ≡ map G xs
map-same-get F G [] h = refl
map-same-get F G (x ∷ xs) h = ap₂ ◌∷◌ (h zero x refl) (map-same-get F G xs (λ s y e. h (suc s) y e))

-- the same but at one place
pub map-update-get : {A B : Type 0} (F G : A → B) (h : B → B) (xs : List A) (r : ℕ) → ((x : A) → slice_get xs r ≡ Some x → F x ≡ h (G x)) → ((s : ℕ) (x : A) → slice_get xs s ≡ Some x → s ≢ r → F x ≡ G x) → map F xs ≡ update_at r h (map G xs)
map-update-get F G h [] r here others = refl
map-update-get F G h (x ∷ xs) zero here others = ap₂ ◌∷◌ (here x refl) (map-same-get F G xs (λ s y e. others (suc s) y e (omega arith)))
map-update-get F G h (x ∷ xs) (suc r) here others = ap₂ ◌∷◌ (others zero x refl (omega arith)) (map-update-get F G h xs r here (λ s y e d. others (suc s) y e (omega arith)))

-- one element changed
pub get-update : {A : Type 0} (i : ℕ) (f : A → A) (xs : List A) → slice_get (update_at i f xs) i ≡ option_map f (slice_get xs i)
get-update i f [] = refl
get-update zero f (x ∷ xs) = refl
get-update (suc i) f (x ∷ xs) = get-update i f xs

pub get-update-other : {A : Type 0} (i k : ℕ) (f : A → A) (xs : List A) → k ≢ i → slice_get (update_at i f xs) k ≡ slice_get xs k
get-update-other i k f [] d = refl
get-update-other zero zero f (x ∷ xs) d = absurd (d refl)
get-update-other zero (suc k) f (x ∷ xs) d = refl
get-update-other (suc i) zero f (x ∷ xs) d = refl
get-update-other (suc i) (suc k) f (x ∷ xs) d = get-update-other i k f xs (λ e. d (ap suc e))

-- two changes that agree on what is there, two that are one, and none
pub update-as : {A : Type 0} (f g : A → A) (xs : List A) (i : ℕ) → ((x : A) → slice_get xs i ≡ Some x → f x ≡ g x) → update_at i f xs ≡ update_at i g xs
update-as f g [] i h = refl
update-as f g (x ∷ xs) zero h = ap (λ y. y ∷ xs) (h x refl)
update-as f g (x ∷ xs) (suc i) h = ap (λ ys. x ∷ ys) (update-as f g xs i h)

pub update-twice : {A : Type 0} (f g : A → A) (xs : List A) (i : ℕ) → update_at i f (update_at i g xs) ≡ update_at i (λ x. f (g x)) xs
update-twice f g [] i = refl
update-twice f g (x ∷ xs) zero = refl
update-twice f g (x ∷ xs) (suc i) = ap (λ ys. x ∷ ys) (update-twice f g xs i)

pub update-id : {A : Type 0} (xs : List A) (i : ℕ) → update_at i (λ x. x) xs ≡ xs
update-id [] i = refl
update-id (x ∷ xs) zero = refl
update-id (x ∷ xs) (suc i) = ap (λ ys. x ∷ ys) (update-id xs i)

-- a fact of each, of the element at a place
pub all-get : {A : Type 0} (P : A → Type 0) (xs : List A) (i : ℕ) (x : A) → AllByRecursion P xs → slice_get xs i ≡ Some x → P x
all-get P [] i x h e = absurd (cc)
all-get P (y ∷ ys) zero x h e = let s = same-some y x e in subst P s h.0
all-get P (y ∷ ys) (suc i) x h e = all-get P ys i x h.1 e

-- what is mapped to something
pub mapped : {A B : Type 0} (f : A → B) (o : Option A) (y : B) → option_map f o ≡ Some y → (x : A) × (o ≡ Some x) × (f x ≡ y)
mapped f None y e = absurd (cc)
mapped f (Some x) y e = (x, refl, same-some (f x) y e)

-- what holds of each element, by membership
pub each-in : {A : Type 0} (P : A → Type 0) (xs : List A) → AllByRecursion P xs → (x : A) → IsIn x xs → P x
each-in P [] h x i = absurd i
each-in P (y ∷ ys) h x (inl same) = subst P (sym same) h.0
each-in P (y ∷ ys) h x (inr i) = each-in P ys h.1 x i

pub in-get : {A : Type 0} (xs : List A) (i : ℕ) (x : A) → slice_get xs i ≡ Some x → IsIn x xs
in-get [] i x e = absurd (cc)
in-get (y ∷ ys) zero x e = inl (sym (same-some y x e))
in-get (y ∷ ys) (suc i) x e = inr (in-get ys i x e)

-- what holds of two lists together holds of each
pub each-split : {A : Type 0} (P : A → Type 0) (xs ys : List A) → AllByRecursion P (xs ++ ys) → AllByRecursion P xs × AllByRecursion P ys
each-split P [] ys h = (tt, h)
each-split P (x ∷ xs) ys h = let more = each-split P xs ys h.1 in ((h.0, more.0), more.1)
