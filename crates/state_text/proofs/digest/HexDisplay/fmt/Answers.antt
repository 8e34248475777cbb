use Rattle.std.proofs.Common.{rules}
use Rattle.std.proofs.Output.{has_written_append, has_written_of_eq}
use Rattle.state_text.proofs.HexDigits.{no_digits, digits-more}
use Rattle.state_text.proofs.digest.HexDisplay.fmt.Goals as goal

pub loop-byte-init : goal.loop-byte-init
loop-byte-init g c plain = has_written_of_eq _ _ _ _ _ no_digits (search rules)

pub loop-byte-preserved : goal.loop-byte-preserved
loop-byte-preserved g c plain =
    has_written_of_eq _ _ _ _ _ (digits-more c.as_slice-digest.result.now c.loop-byte.byte-index c.loop-byte-test.true)
    (has_written_append _ _ _ _ _ _ (c.loop-byte.invariant plain) (search rules))
