use Rattle.std.proofs.Common.{◌-◌, ◌≤◌}
use Rattle.body.proofs.turns.listed_turn_length.Given as goal

-- no more turns than rows
abbrev pub invariant-loop-done : goal.invariant-loop-done
invariant-loop-done l = record {
  within : l.done ≤ l.end;
  few : l.turns ≤ l.done;
}

abbrev pub decreases-loop-done : goal.decreases-loop-done
decreases-loop-done l = l.end - l.done
