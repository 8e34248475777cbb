use Rattle.model.proofs.shape.Runs.{interleaved-keeps, serial-keeps}
use Rattle.model.proofs.runs_keep_shape.Goals as goal

pub returns-clause-interleaved : goal.returns-clause-interleaved
returns-clause-interleaved c = interleaved-keeps

pub returns-clause-serial : goal.returns-clause-serial
returns-clause-serial c = serial-keeps
