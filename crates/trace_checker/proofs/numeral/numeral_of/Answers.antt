-- Bytes with a zero before other digits, or that are no text, are no number; else the number is that of the digits.
use Rattle.std.proofs.Common.{◌≡◌, length, get_or, arith}
use Rattle.trace_checker.proofs.Numerals.{none_with_zero, none_without_text, short_plain, reads_printed}
use Rattle.trace_checker.proofs.numeral.numeral_of.Goals as goal
use Rattle.trace_checker.proofs.numeral.numeral_of.Goals.{else-bytes-gt1-via-then-bytes-gt1+else-bytes-eq48, else-bytes-gt1-via-else-bytes-gt1}

pub returns-then-bytes-eq48 : goal.returns-then-bytes-eq48
returns-then-bytes-eq48 c = none_with_zero _ (search (c.if-bytes-gt1.true)) (search (c.if-bytes-eq48.true))

pub returns-in-Ok : goal.returns-in-Ok
returns-in-Ok c =
    let plain : get_or c.args.bytes.now 0 0 ≡ 48 → length c.args.bytes.now ≡ 1 = elim c.else-bytes-gt1.branch [
      | else-bytes-gt1-via-then-bytes-gt1+else-bytes-eq48 w ↦ λ e. absurd (search (w.if-bytes-eq48.false, e))
      | else-bytes-gt1-via-else-bytes-gt1 w ↦ short_plain _ (λ h. absurd (omega (arith, w.if-bytes-gt1.false, h)))
    ] in
    reads_printed _ _ _ plain (c.in-Ok.ensures.cases.0) c.read_number.ensures

pub returns-in-Err : goal.returns-in-Err
returns-in-Err c = none_without_text _ (c.in-Err.ensures.cases.0)
