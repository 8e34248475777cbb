use Rattle.std.proofs.Common.{◌-◌, ◌<◌, ◌≤◌}
use Rattle.body.specs.Turns.{AreInTurn}
use Rattle.body.proofs.turns.in_turn.Given as goal

-- those so far stand in turn
abbrev pub invariant-loop-count : goal.invariant-loop-count
invariant-loop-count l = record {
  some : 0 < l.count;
  within : l.count ≤ l.most;
  turn : AreInTurn l.rows l.row l.count;
}

abbrev pub decreases-loop-count : goal.decreases-loop-count
decreases-loop-count l = l.most - l.count
