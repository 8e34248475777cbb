-- A write of a resource.
use Rattle.archetype_store.proofs.Common.{◌≡◌, ℕ, zero, suc, ℤ, List, [], ◌∷◌, set, map, Some, refl, ap, update_at, resource_after, Resource, resource_of}

-- a write of a resource
pub set-resource : (t : ℕ) (v : ℤ) (xs : List Resource) (i : ℕ) (r : Resource) → r.value ≡ v → r.changed ≡ t → map resource_of (set xs i r) ≡ update_at i (resource_after t (Some v)) (map resource_of xs)
set-resource t v [] i r e f = refl
set-resource t v (x ∷ xs) zero r e f = cc
set-resource t v (x ∷ xs) (suc i) r e f = ap (λ ys. resource_of x ∷ ys) (set-resource t v xs i r e f)
