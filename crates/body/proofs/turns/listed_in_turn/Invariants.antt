use Rattle.std.proofs.Common.{◌-◌, ◌<◌, ◌≤◌, length}
use Rattle.body.specs.Turns.{AreInTurnAt}
use Rattle.body.proofs.turns.listed_in_turn.Given as goal

-- those so far stand in turn
abbrev pub invariant-loop-count : goal.invariant-loop-count
invariant-loop-count l = record {
  some : 0 < l.count;
  within : l.count ≤ length l.listed;
  turn : AreInTurnAt l.rows l.listed l.count;
}

abbrev pub decreases-loop-count : goal.decreases-loop-count
decreases-loop-count l = length l.listed - l.count
