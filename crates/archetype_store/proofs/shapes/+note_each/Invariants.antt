use Rattle.archetype_store.proofs.Common.{length}
use Rattle.archetype_store.proofs.shapes.+note_each.Given as goal

-- how many shapes are left
abbrev pub decreases-note_each : goal.decreases-note_each
decreases-note_each l = length l.shapes.now
