use Rattle.model.proofs.serial.Soundness.{single_runs_are_sound as sound}
use Rattle.model.proofs.single_runs_are_sound.Goals as goal

pub returns : goal.returns
returns c = sound
