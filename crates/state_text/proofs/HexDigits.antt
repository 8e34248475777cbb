-- The hex digits of bytes, one byte after the other.
use Rattle.std.proofs.Common.{◌≡◌, ℕ, zero, suc, ◌+◌, ◌-◌, ◌^◌, ◌<◌, ◌/◌, ◌%◌, Bool, true, false, ◌&&◌, eqb, List, [], ◌∷◌, ◌++◌, length, take, get_or, refl, sym, ap, ap₂, ◌∙◌, inl, inr, arith}
use Rattle.std.proofs.lemmas.Bool.{and_parts, eqb-true, cases_lt}
use Rattle.std.proofs.lemmas.Fmt.{hex_byte}
use Rattle.std.proofs.lemmas.List.{take_more}
use Rattle.std.specs.Fmt.{digits, digit_glyph, padded_integral, format_spec}
use Rattle.hex.specs.Hex.{encode_lower, encode_with, lower_digits}

-- the digits that `{:x}` writes are those of the table
abbrev are_same : ℕ → Bool
are_same zero = true
are_same (suc n) = eqb (digit_glyph false n) (get_or lower_digits n 0) && are_same n

same_at : (n k : ℕ) → are_same n ≡ true → k < n → digit_glyph false k ≡ get_or lower_digits k 0
same_at zero k h low = absurd (omega arith)
same_at (suc n) k h low =
    let parts = and_parts (eqb (digit_glyph false n) (get_or lower_digits n 0)) (are_same n) h in
    elim (cases_lt k n) [
      | inl below ↦ same_at n k parts.1 below
      | inr top ↦ let e : k ≡ n = omega arith in rw e (eqb-true (digit_glyph false n) (get_or lower_digits n 0) parts.0)
    ]

-- what `{:02x}` writes of a byte
pub two_digits : (n : ℕ) → n < 256 → padded_integral (format_spec 32 0 4 2 (2 ^ 64 - 1)) false [] (digits 16 false n) ≡ encode_lower (n ∷ [])
unfolding encode_with
two_digits n low =
    hex_byte false n low
    ∙ ap₂ (λ a b. a ∷ b ∷ []) (same_at 16 (n / 16) refl (omega arith)) (same_at 16 (n % 16) refl (omega arith))

-- no byte has no digits
pub no_digits : [] ≡ encode_lower []
unfolding encode_with
no_digits = refl

-- one byte more
digits-append : (bytes : List ℕ) (n : ℕ) → encode_lower (bytes ++ n ∷ []) ≡ encode_lower bytes ++ encode_lower (n ∷ [])
unfolding encode_with
digits-append [] n = refl
digits-append (b ∷ bytes) n = ap (λ rest. get_or lower_digits (b / 16) 0 ∷ get_or lower_digits (b % 16) 0 ∷ rest) (digits-append bytes n)

pub digits-more : (bytes : List ℕ) (i : ℕ) → i < length bytes
    → encode_lower (take i bytes) ++ encode_lower (get_or bytes i 0 ∷ []) ≡ encode_lower (take (i + 1) bytes)
digits-more bytes i below = sym (ap encode_lower (take_more bytes i 0 below) ∙ digits-append (take i bytes) (get_or bytes i 0))
