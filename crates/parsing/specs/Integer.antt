-- Integers in decimal digits.
use Rattle.std.specs.Prelude.{◌≡◌, ℕ, ◌<◌, ◌^◌, ℤ, pos, neg_ℤ, FitsSigned, ◌⊎◌, List, ◌∷◌}
use Rattle.std.specs.Int.{w64}
use Rattle.std.specs.Str.Parse.{IsNumeral, digits_value}

-- an integer of 64 bits: one or more digits, of which the first may be zeros, behind an optional minus
abbrev pub IsInteger : ℤ → List ℕ → Type 0
IsInteger z word = (digits : List ℕ) × IsNumeral 10 digits × FitsSigned w64 z
    × (((word ≡ digits) × (z ≡ pos (digits_value 10 digits))) ⊎ ((word ≡ 45 ∷ digits) × (z ≡ neg_ℤ (pos (digits_value 10 digits)))))

-- a number of 32 bits: one or more digits, of which the first may be zeros
abbrev pub IsNumber : ℕ → List ℕ → Type 0
IsNumber n word = IsNumeral 10 word × (n < 2 ^ 32) × (n ≡ digits_value 10 word)
