use Rattle.std.proofs.Common.{◌≡◌, drop}
use Rattle.engine.specs.Deferred.{grants_of}
use Rattle.engine.proofs.SyncPointState.{freed_in}
use Rattle.engine.proofs.deferred.free_ids.Given as goal

abbrev pub invariant-loop-system : goal.invariant-loop-system
invariant-loop-system l = freed_in (grants_of l.grants (drop l.system-index l.level)) l.state ≡ freed_in (grants_of l.grants l.level) l.fn.state
