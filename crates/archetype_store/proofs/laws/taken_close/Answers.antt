use Rattle.archetype_store.proofs.ColumnOverlays.{taken_close}
use Rattle.archetype_store.proofs.laws.taken_close.Goals as goal

pub returns : goal.returns
returns c = taken_close
