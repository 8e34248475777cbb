use Rattle.std.proofs.Common.{◌≡◌, take}
use Rattle.engine.specs.Deferred.{spawners_among}
use Rattle.engine.proofs.granting.spawners_in.Given as goal

-- the lists are those of the systems so far
abbrev pub invariant-loop-system : goal.invariant-loop-system
invariant-loop-system l = record {
  systems : l.systems.items ≡ (spawners_among l.built (take l.system-index l.level)).systems;
  counts : l.counts.items ≡ (spawners_among l.built (take l.system-index l.level)).counts;
}
