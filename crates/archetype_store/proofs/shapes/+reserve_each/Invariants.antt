use Rattle.archetype_store.proofs.Common.{length}
use Rattle.archetype_store.proofs.shapes.+reserve_each.Given as goal

-- how many shapes are left
abbrev pub decreases-reserve_each : goal.decreases-reserve_each
decreases-reserve_each l = length l.shapes.now
