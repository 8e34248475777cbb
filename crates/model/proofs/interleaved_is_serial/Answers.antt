use Rattle.model.proofs.serial.Interleaving.{interleaved_serial, same_shown}
use Rattle.model.proofs.interleaved_is_serial.Goals as goal

pub returns-clause-shown : goal.returns-clause-shown
returns-clause-shown c = same_shown

pub returns-clause-equal : goal.returns-clause-equal
returns-clause-equal c = interleaved_serial
