use Rattle.program.proofs.Serving.{keeps}
use Rattle.ecsrun.proofs.args_of.Goals as goal

-- nothing is written before the work
pub returns-in-Ok-clause-silent : goal.returns-in-Ok-clause-silent
returns-in-Ok-clause-silent g c = (keeps (g.O.Write.contents c.args.out.now), keeps (g.E.Write.contents c.args.faults.now))

-- a line that is no work is reported
pub returns-in-Err-clause-told : goal.returns-in-Err-clause-told
returns-in-Err-clause-told g c = (c.in-Err.fault, c.in-Err.ensures.err, c.tell_line_fault.ensures)
