use Rattle.archetype_store.proofs.ColumnOverlays.{columns_are_overlays}
use Rattle.archetype_store.proofs.laws.columns_are_overlays.Goals as goal

pub returns : goal.returns
returns c = columns_are_overlays
