use Rattle.model.proofs.serial.Soundness.{runs_are_sound as are_sound, wide_runs_are_sound}
use Rattle.model.proofs.runs_are_sound.Goals as goal

pub returns-clause-one : goal.returns-clause-one
returns-clause-one c = are_sound

pub returns-clause-wide : goal.returns-clause-wide
returns-clause-wide c = wide_runs_are_sound
