-- Tests.
use Rattle.std.proofs.Common.{◌≡◌, ◌∙◌, ℕ, Bool, true, false, ◌||◌, ◌==◌, refl, sym, eq-eqb}

pub or_assoc : (a b c : Bool) → (a || (b || c)) ≡ ((a || b) || c)
or_assoc true b c = refl
or_assoc false b c = refl

pub or_false : (b : Bool) → (b || false) ≡ b
or_false true = refl
or_false false = refl

-- no test has both answers
pub false_is : {P : Type 0} (b : Bool) → b ≡ false → b ≡ true → P
false_is b h k = let e : false ≡ true = sym h ∙ k in absurd (cc)

-- numbers that a test tells apart
pub apart_number : (m n : ℕ) → (m == n) ≡ false → m ≡ n → ⊥
apart_number m n h e = let t : true ≡ false = sym (eq-eqb m n e) ∙ h in cc
