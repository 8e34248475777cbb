-- Ids of which none is there twice, and their places.
use Rattle.column_store.proofs.Common.{◌≡◌, ℕ, zero, suc, ◌<◌, Bool, true, false, ◌==◌, ◌&&◌, ◌⊎◌, inl, inr, List, [], ◌∷◌, ◌++◌, length, Some, refl, sym, ap, ap₂, ◌∙◌, arith, nat_tests, slice_get, Entity, is_same, AreApart, IsPlace, IsNowhere}

same_numbers : (a b : ℕ) → ((a == a) && (b == b)) ≡ true
same_numbers a b = grind (arith, nat_tests)

pub same_self : (e : Entity) → is_same e e ≡ true
same_self e = same_numbers e.index e.generation

equal_numbers : (a b c d : ℕ) → ((a == c) && (b == d)) ≡ true → (a ≡ c) × (b ≡ d)
equal_numbers a b c d h = (grind (arith, nat_tests), grind (arith, nat_tests))

pub same_entity : (x e : Entity) → is_same x e ≡ true → x ≡ e
same_entity x e h = let p = equal_numbers x.index x.generation e.index e.generation h in
    ap₂ (λ i g. let y : Entity = record { index = i; generation = g } in y) p.0 p.1

-- what is at an index is within
pub get_within : {A : Type 0} (xs : List A) (i : ℕ) (x : A) → slice_get xs i ≡ Some x → i < length xs
get_within [] i x h = absurd (cc)
get_within (y ∷ ys) zero x h = omega arith
get_within (y ∷ ys) (suc i) x h = let l = get_within ys i x h in omega arith

-- what is at an index of a list with one more: as before, or the one more
pub get_push : {A : Type 0} (xs : List A) (y : A) (i : ℕ) (x : A) → slice_get (xs ++ y ∷ []) i ≡ Some x → ((i < length xs) × (slice_get xs i ≡ Some x)) ⊎ ((i ≡ length xs) × (y ≡ x))
get_push [] y zero x h = inr (refl, cc)
get_push [] y (suc i) x h = absurd (cc)
get_push (z ∷ zs) y zero x h = inl (omega arith, h)
get_push (z ∷ zs) y (suc i) x h = go (get_push zs y i x h)
  where
    go : ((i < length zs) × (slice_get zs i ≡ Some x)) ⊎ ((i ≡ length zs) × (y ≡ x)) → ((suc i < length (z ∷ zs)) × (slice_get zs i ≡ Some x)) ⊎ ((suc i ≡ length (z ∷ zs)) × (y ≡ x))
    go (inl a) = inl (omega (arith, a.0), a.1)
    go (inr b) = inr (ap suc b.0, b.1)

-- one that isn't there is at no index
pub elsewhere : (e : Entity) (es : List Entity) (i : ℕ) (x : Entity) → IsNowhere (λ y. is_same y e) es → slice_get es i ≡ Some x → e ≡ x → ⊥
elsewhere e [] i x h f g = cc
elsewhere e (y ∷ ys) zero x h f g =
    let one : y ≡ e = (let same : y ≡ x = cc in same ∙ sym g) in
    let there : is_same y e ≡ true = ap (λ z. is_same z e) one ∙ same_self e in
    cc (there, h.0)
elsewhere e (y ∷ ys) (suc i) x h f g = elsewhere e ys i x h.1 f g

-- the index of an id is its first place, where none is there twice
pub apart-place : (e : Entity) (es : List Entity) (i : ℕ) → AreApart es → slice_get es i ≡ Some e → IsPlace (λ x. is_same x e) es i
apart-place e [] i h f = absurd (cc)
apart-place e (y ∷ ys) zero h f = (let same : y ≡ e = cc in ap (λ z. is_same z e) same ∙ same_self e)
apart-place e (y ∷ ys) (suc i) h f = (go (is_same y e) refl, apart-place e ys i (λ p q x f g. suc_same p q (h (suc p) (suc q) x f g)) f)
  where
    suc_same : (p q : ℕ) → suc p ≡ suc q → p ≡ q
    suc_same p q e = omega arith

    go : (b : Bool) → is_same y e ≡ b → is_same y e ≡ false
    go false k = k
    go true k = (let none : zero ≡ suc i = h zero (suc i) e (ap (λ z. Some z) (same_entity y e k)) f in absurd (omega arith))
