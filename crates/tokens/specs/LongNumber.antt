-- Numbers of 64 bits in decimal digits.
use Rattle.std.specs.Prelude.{◌≡◌, ℕ, ◌<◌, ◌^◌, List}
use Rattle.std.specs.Str.Parse.{IsNumeral, digits_value}

-- a number of 64 bits: one or more digits, of which the first may be zeros
abbrev pub IsLongNumber : ℕ → List ℕ → Type 0
IsLongNumber n word = IsNumeral 10 word × (n < 2 ^ 64) × (n ≡ digits_value 10 word)
