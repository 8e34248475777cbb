-- A word without the letter in front is no slot.
use lib.Utf8.{encode}
use Rattle.script.proofs.operands.read_slot.Goals as goal

pub returns-in_err-strip_prefix : goal.returns-in_err-strip_prefix
unfolding encode
returns-in_err-strip_prefix c = rw c.from_residual.ensures (λ n spelled. c.in_err-strip_prefix.ensures.cases spelled.0 spelled.2)
