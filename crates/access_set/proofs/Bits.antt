-- The bits of words that are joined, and of those with one bit more.
use Rattle.std.proofs.Common.{ℕ, ◌+◌, ◌<◌, ◌≡◌, ◌≢◌, true, not, ◌==◌, ◌||◌, ◌&&◌, min, ◌*◌, ◌%◌, ◌^◌, inl, inr, sym, ap, ◌∙◌, subst, arith}
use Rattle.std.specs.Int.{bit_at, w64}
use Rattle.std.specs.Prelude.{bit_or, bit_and, bit_xor}
use Rattle.std.proofs.lemmas.Bool.{eq-eqb, ne_eqb, and_from, and_left, and_right, or_left, not_from_false, not_from_true}
use Rattle.std.proofs.lemmas.Bool.Decides.{eqb_tells}
use Rattle.std.proofs.lemmas.Nat.Bits.{bit_at_and, bit_at_xor, bit_at-zero, bit_at-lt, bit_at_set_same, bit_at_set_other, same_from_bits}
use Rattle.access_set.specs.Footprints.{has_bit}
pub use Rattle.model.proofs.lists.Bits.{bit_of_either, no_bit}

both_bits : (x y both : ℕ) → x < 2 → y < 2 → both ≡ min x y → (both == 1) ≡ ((x == 1) && (y == 1))
both_bits x y both lx ly e = elim (eqb_tells x 1) [
  | inl p ↦ elim (eqb_tells y 1) [
    | inl q ↦ let a : x ≡ 1 = p.1 in let b : y ≡ 1 = q.1 in eq-eqb both 1 (omega arith) ∙ sym (and_from (x == 1) (y == 1) p.0 q.0)
    | inr q ↦ let b : y ≢ 1 = q.1 in ne_eqb both 1 (λ h. omega arith) ∙ sym (and_right (x == 1) (y == 1) q.0)
  ]
  | inr p ↦ let a : x ≢ 1 = p.1 in ne_eqb both 1 (λ h. omega arith) ∙ sym (and_left (x == 1) (y == 1) p.0)
]

rest_bit : (x y rest : ℕ) → x < 2 → y < 2 → rest ≡ (x + min x y) % 2 → (rest == 1) ≡ ((x == 1) && not (y == 1))
rest_bit x y rest lx ly e = elim (eqb_tells x 1) [
  | inl p ↦ elim (eqb_tells y 1) [
    | inl q ↦ let a : x ≡ 1 = p.1 in let b : y ≡ 1 = q.1 in ne_eqb rest 1 (λ h. omega arith) ∙ sym (and_right (x == 1) (not (y == 1)) (not_from_true (y == 1) q.0))
    | inr q ↦ let a : x ≡ 1 = p.1 in let b : y ≢ 1 = q.1 in eq-eqb rest 1 (omega arith) ∙ sym (and_from (x == 1) (not (y == 1)) p.0 (not_from_false (y == 1) q.0))
  ]
  | inr p ↦ let a : x ≢ 1 = p.1 in ne_eqb rest 1 (λ h. omega arith) ∙ sym (and_left (x == 1) (not (y == 1)) p.0)
]

pub bit_of_both : (x y i : ℕ) → has_bit (bit_and x y) i ≡ (has_bit x i && has_bit y i)
bit_of_both x y i = both_bits (bit_at x i) (bit_at y i) (bit_at (bit_and x y) i) (bit_at-lt x i) (bit_at-lt y i) (bit_at_and x y i)

pub bit_of_rest : (x y i : ℕ) → has_bit (bit_xor x (bit_and x y)) i ≡ (has_bit x i && not (has_bit y i))
bit_of_rest x y i = rest_bit (bit_at x i) (bit_at y i) (bit_at (bit_xor x (bit_and x y)) i) (bit_at-lt x i) (bit_at-lt y i)
    (bit_at_xor x (bit_and x y) i ∙ ap (λ (b : ℕ). (bit_at x i + b) % 2) (bit_at_and x y i))

-- a word without bits is 0
pub no_bits : (word : ℕ) → ((i : ℕ) → has_bit word i ≡ true → ⊥) → word ≡ 0
no_bits word none = same_from_bits word 0 (λ i.
    let low : bit_at word i < 2 = bit_at-lt word i in
    let zero : bit_at 0 i ≡ 0 = bit_at-zero i in
    let apart : bit_at word i ≢ 1 = λ e. none i (eq-eqb (bit_at word i) 1 e) in
    omega arith)

-- one bit set
pub bit_set : (word number n : ℕ) → number < 64 → has_bit (bit_or word (1 * 2 ^ number % 2 ^ 64)) n ≡ ((number == n) || has_bit word n)
bit_set word number n low = elim (eqb_tells number n) [
  | inl same ↦
      subst (λ (m : ℕ). has_bit (bit_or word (1 * 2 ^ number % 2 ^ 64)) m ≡ true) same.1 (eq-eqb (bit_at (bit_or word (1 * 2 ^ number % 2 ^ 64)) number) 1 (bit_at_set_same w64 word number low))
      ∙ sym (or_left (number == n) (has_bit word n) same.0)
  | inr apart ↦
      ap (λ (b : ℕ). b == 1) (bit_at_set_other w64 word number low n (λ e. apart.1 (sym e))) ∙ sym (ap (λ b. b || has_bit word n) apart.0)
]
