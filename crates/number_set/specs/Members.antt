-- The members of a set of numbers that is kept as bits, 64 to a word.
use Rattle.std.specs.Prelude.{ℕ, Bool, true, false, ◌≡◌, ◌==◌, ◌/◌, ◌%◌, List, get_or}
use Rattle.std.specs.Int.{bit_at}

-- whether a number is a member: its bit is set
abbrev pub contains : List ℕ → ℕ → Bool
contains words n = bit_at (get_or words (n / 64) 0) (n % 64) == 1

-- no number is a member
abbrev pub HasNone : List ℕ → Type 0
HasNone words = (n : ℕ) → contains words n ≡ false

-- each number that two sets share is one of a third
abbrev pub SharesOnly : List ℕ → List ℕ → List ℕ → Type 0
SharesOnly first second third = (n : ℕ) → contains first n ≡ true → contains second n ≡ true → contains third n ≡ true
