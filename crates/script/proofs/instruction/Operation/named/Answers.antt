-- What is none of the words names no operation.
use Rattle.script.proofs.Spelled.{names_none}
use Rattle.script.proofs.instruction.Operation.named.Goals as goal

pub returns-in_default : goal.returns-in_default
returns-in_default c = names_none c.args.word.now c.in_default.not-set c.in_default.not-add c.in_default.not-sub c.in_default.not-mul c.in_default.not-min c.in_default.not-max
