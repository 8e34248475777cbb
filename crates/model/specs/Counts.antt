-- How many numbers pass a test.
use Rattle.std.specs.Prelude.{ℕ, zero, suc, Bool, cond}

-- how many numbers below a bound pass a test
abbrev pub count_below : (ℕ → Bool) → ℕ → ℕ
count_below f zero = 0
count_below f (suc n) = cond (f n) (suc (count_below f n)) (count_below f n)
