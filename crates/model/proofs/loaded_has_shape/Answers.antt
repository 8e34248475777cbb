use Rattle.model.proofs.shape.Loaded.{loaded-shape}
use Rattle.model.proofs.loaded_has_shape.Goals as goal

pub returns : goal.returns
returns c = loaded-shape
