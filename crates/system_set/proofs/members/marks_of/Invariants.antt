use Rattle.std.proofs.Common.{◌≡◌, length, not}
use Rattle.std.specs.List.{count_by}
use Rattle.system_set.specs.Pairs.{AreSound}
use Rattle.system_set.proofs.members.marks_of.Given as goal

abbrev pub invariant-loop-place : goal.invariant-loop-place
invariant-loop-place l = record {
  long : length l.marks.items ≡ l.items;
  sound : AreSound l.pairs l.set l.marks.items;
}

abbrev pub invariant-loop-marks : goal.invariant-loop-marks
invariant-loop-marks l = record {
  long : length l.marks.items ≡ l.items;
  sound : AreSound l.pairs l.set l.marks.items;
}

abbrev pub decreases-loop-marks : goal.decreases-loop-marks
decreases-loop-marks l = count_by not l.marks.items
