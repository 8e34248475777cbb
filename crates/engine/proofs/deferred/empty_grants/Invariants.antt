use Rattle.std.proofs.Common.{◌≡◌, length}
use Rattle.engine.proofs.EmptyLists.{AreEmptyTo}
use Rattle.engine.proofs.deferred.empty_grants.Given as goal

abbrev pub invariant-loop-granted : goal.invariant-loop-granted
invariant-loop-granted l = record {
  count : length l.granted-items ≡ length l.initial.granted-items;
  empty : AreEmptyTo l.granted-index l.granted-items;
}
