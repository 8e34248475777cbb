use Rattle.model.proofs.serial.ConflictTests.{conflicts-tested}
use Rattle.model.proofs.conflicts_are_tested.Goals as goal

pub returns : goal.returns
returns c = conflicts-tested
