use Rattle.model.proofs.replays_are_one.Goals as goal
use Rattle.model.proofs.serial.Replaying.{replays_are_one as are_one}

pub returns : goal.returns
returns c = are_one
