use Rattle.archetype_store.proofs.ColumnOverlays.{taken_are_overlays}
use Rattle.archetype_store.proofs.laws.taken_are_overlays.Goals as goal

pub returns : goal.returns
returns c = taken_are_overlays
