-- Bits of numbers: of two that are joined, of a power, of none.
use Rattle.std.proofs.Common.{ℕ, ◌<◌, ◌^◌, ◌≡◌, ◌≢◌, false, ◌==◌, ◌||◌, max, inl, inr, sym, ap, ◌∙◌, arith}
use Rattle.std.specs.Int.{bit_at}
use Rattle.std.specs.Prelude.{bit_or}
use Rattle.std.proofs.lemmas.Bool.{eq-eqb, ne_eqb, or_left, or_right, or_from}
use Rattle.std.proofs.lemmas.Bool.Decides.{eqb_tells}
use Rattle.std.proofs.lemmas.Nat.Bits.{bit_at_or, bit_at-zero, bit_at-lt, bit_at-pow_same, bit_at-pow_other}
use Rattle.model.specs.state.KindSets.{set_of}

-- a bit that is the greater of two is set where one of them is
either_bit : (x y either : ℕ) → x < 2 → y < 2 → either ≡ max x y → (either == 1) ≡ ((x == 1) || (y == 1))
either_bit x y either lx ly e = elim (eqb_tells x 1) [
  | inl p ↦ let a : x ≡ 1 = p.1 in eq-eqb either 1 (omega arith) ∙ sym (or_left (x == 1) (y == 1) p.0)
  | inr p ↦ elim (eqb_tells y 1) [
    | inl q ↦ let b : y ≡ 1 = q.1 in eq-eqb either 1 (omega arith) ∙ sym (or_right (x == 1) (y == 1) q.0)
    | inr q ↦ let a : x ≢ 1 = p.1 in let b : y ≢ 1 = q.1 in ne_eqb either 1 (λ h. omega arith) ∙ sym (or_from (x == 1) (y == 1) p.0 q.0)
  ]
]

-- what two numbers joined hold is what one of them holds
pub bit_of_either : (x y i : ℕ) → set_of (bit_or x y) i ≡ (set_of x i || set_of y i)
bit_of_either x y i = either_bit (bit_at x i) (bit_at y i) (bit_at (bit_or x y) i) (bit_at-lt x i) (bit_at-lt y i) (bit_at_or x y i)

-- 0 holds nothing
pub no_bit : (i : ℕ) → set_of 0 i ≡ false
no_bit i = ne_eqb (bit_at 0 i) 1 (λ e. let none : bit_at 0 i ≡ 0 = bit_at-zero i in omega arith)

-- a power holds its exponent alone
pub bit_of_power : (k i : ℕ) → set_of (2 ^ k) i ≡ (k == i)
bit_of_power k i = elim (eqb_tells k i) [
  | inl p ↦ eq-eqb (bit_at (2 ^ k) i) 1 (ap (λ (n : ℕ). bit_at (2 ^ k) n) (sym p.1) ∙ bit_at-pow_same k) ∙ sym p.0
  | inr p ↦ ap (λ (b : ℕ). b == 1) (bit_at-pow_other k i (λ e. p.1 (sym e))) ∙ sym p.0
]
