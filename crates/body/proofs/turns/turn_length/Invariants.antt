use Rattle.std.proofs.Common.{◌-◌, ◌≤◌}
use Rattle.body.proofs.turns.turn_length.Given as goal

-- no more turns than rows
abbrev pub invariant-loop-row : goal.invariant-loop-row
invariant-loop-row l = record {
  within : l.row ≤ l.end;
  few : l.turns ≤ l.row;
}

abbrev pub decreases-loop-row : goal.decreases-loop-row
decreases-loop-row l = l.end - l.row
