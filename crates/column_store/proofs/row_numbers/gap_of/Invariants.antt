use Rattle.column_store.proofs.Common.{◌≡◌, ℕ, ◌-◌, ◌<◌, ◌≤◌, true, false, length, get_or}
use Rattle.column_store.proofs.Numbers.{row_before}
use Rattle.column_store.proofs.row_numbers.gap_of.Given as goal

-- the rows below the one place come before the entity, and those from the other one on don't
abbrev pub invariant-loop-low : goal.invariant-loop-low
invariant-loop-low l = record {
  within : l.low ≤ l.high;
  bound : l.high ≤ length l.numbers.items;
  before : (k d : ℕ) → k < l.low → row_before l.entities l.e (get_or l.numbers.items k d) ≡ true;
  behind : (k d : ℕ) → l.high ≤ k → k < length l.numbers.items → row_before l.entities l.e (get_or l.numbers.items k d) ≡ false;
}

abbrev pub decreases-loop-low : goal.decreases-loop-low
decreases-loop-low l = l.high - l.low
