-- The parts are read in turn.
use Rattle.std.proofs.lemmas.Result.{err_from_is_err_and}
use Rattle.parsing.proofs.Grammars.{only_empty}
use Rattle.query.proofs.QueryTexts.{IsSeenTerm, part_refused, part_read}
use Rattle.query.proofs.query.Query.of_parts.Goals as goal

pub returns-in_err-read : goal.returns-in_err-read
returns-in_err-read c =
    let p = err_from_is_err_and c.from_residual.result c.from_residual.ensures.1 in
    rw (p.1, p.2) (part_refused c.args.parts.now c.loop-part.part-index _ _ c.loop-part-test.true c.in_err-read.ensures)

pub loop-part-init : goal.loop-part-init
loop-part-init c = rw c.new-query.ensures (only_empty IsSeenTerm)

pub loop-part-preserved : goal.loop-part-preserved
loop-part-preserved c = rw c.in_ok-push.ensures.ok
    (part_read c.args.parts.now c.loop-part.part-index _ _ _ c.loop-part-test.true c.loop-part.invariant c.in_ok-read.ensures)
