-- The values of arguments.
use Rattle.std.specs.Prelude.{ℕ, ◌&&◌, List, [], Option, Some, None, nat_le, unwrap_or, if◌then◌else◌}
use Rattle.std.specs.Option.{option_map_or}
use Rattle.std.specs.Str.Parse.{digits_value}
use Rattle.clap.specs.ValueTests.{is_numeral}
use Rattle.clap.specs.Words.{Row, Text, first_of}

-- the value of an argument, empty where it is left out
abbrev pub value_of : Text → List Row → Text
value_of id rows = unwrap_or (first_of id rows) []

-- a number from `least` to `most`
abbrev pub if_between : ℕ → ℕ → ℕ → Option ℕ
if_between least most number = if nat_le least number && nat_le number most then Some number else None

-- the number that a text spells in decimal digits alone, of which the first may be zeros, if it is one from `least` to `most`
abbrev pub number_between : ℕ → ℕ → List ℕ → Option ℕ
number_between least most text = if is_numeral text then if_between least most (digits_value 10 text) else None

-- the same of an option that may be left out, which then is `other`
abbrev pub number_or : ℕ → ℕ → Option (List ℕ) → Option ℕ
number_or other most value = option_map_or (number_between 0 most) value (Some other)
