use Rattle.model.proofs.serial.MeetTests.{meets-tested}
use Rattle.model.proofs.meets_are_tested.Goals as goal

pub returns : goal.returns
returns c = meets-tested
