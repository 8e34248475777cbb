use Rattle.std.proofs.Common.{◌≡◌, drop, length}
use Rattle.engine.specs.Deferred.{emptied}
use Rattle.engine.proofs.deferred.clear_places.Given as goal

abbrev pub invariant-loop-system : goal.invariant-loop-system
invariant-loop-system l = record {
  commands : emptied (drop l.system-index l.level) l.commands ≡ emptied l.level l.fn.commands;
  grants : emptied (drop l.system-index l.level) l.grants ≡ emptied l.level l.fn.grants;
  command_count : length l.commands ≡ length l.fn.commands;
  grant_count : length l.grants ≡ length l.fn.grants;
}
