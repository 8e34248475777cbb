use Rattle.std.proofs.Common.{◌≡◌, map, take}
use Rattle.engine.specs.Deferred.{spawners_among}
use Rattle.engine.proofs.granting.spawners_of.Given as goal

-- each level so far has its own
abbrev pub invariant-loop-level : goal.invariant-loop-level
invariant-loop-level l = l.spawners.items ≡ map (spawners_among l.built) (take l.level-index l.levels)
