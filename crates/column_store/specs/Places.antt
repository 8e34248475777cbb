-- First places in lists.
use Rattle.std.specs.Prelude.{◌≡◌, ℕ, zero, suc, Bool, true, false, List, [], ◌∷◌}
use Rattle.std.specs.List.{AllByRecursion}
use Rattle.model.specs.declared.entities.Entity.{Entity}
use Rattle.column_store.specs.Order.{is_before}

-- the first element that passes is at this place
abbrev pub IsPlace : {A : Type 0} → (A → Bool) → List A → ℕ → Type 0
IsPlace test [] i = ⊥
IsPlace test (x ∷ xs) zero = test x ≡ true
IsPlace test (x ∷ xs) (suc i) = (test x ≡ false) × IsPlace test xs i

-- no element passes
abbrev pub IsNowhere : {A : Type 0} → (A → Bool) → List A → Type 0
IsNowhere test xs = AllByRecursion (λ x. test x ≡ false) xs

-- so many ids come before an id, and the next one doesn't
abbrev pub IsGap : Entity → List Entity → ℕ → Type 0
IsGap e [] zero = Unit {0}
IsGap e [] (suc i) = ⊥
IsGap e (x ∷ xs) zero = is_before x e ≡ false
IsGap e (x ∷ xs) (suc i) = (is_before x e ≡ true) × IsGap e xs i
