use Rattle.std.proofs.Common.{◌≡◌, length, take}
use Rattle.system_set.specs.Pairs.{pairs_of}
use Rattle.system_set.specs.Edges.{AreMarkedSeconds}
use Rattle.system_set.proofs.edges.marked_after.Given as goal

abbrev pub invariant-loop-order : goal.invariant-loop-order
invariant-loop-order l = record {
  long : length l.marks.items ≡ l.items;
  seconds : AreMarkedSeconds l.sets l.rows (pairs_of (take l.order-index l.orders)) l.system l.marks.items;
}
