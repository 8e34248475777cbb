use Rattle.std.proofs.Common.{◌≡◌, length}
use Rattle.engine.proofs.EmptyLists.{AreEmptyTo}
use Rattle.engine.proofs.deferred.empty_commands.Given as goal

abbrev pub invariant-loop-buffer : goal.invariant-loop-buffer
invariant-loop-buffer l = record {
  count : length l.buffer-items ≡ length l.initial.buffer-items;
  empty : AreEmptyTo l.buffer-index l.buffer-items;
}
