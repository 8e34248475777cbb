use Rattle.std.proofs.Common.{inl, inr, ◌∙◌, sym}
use Rattle.program.proofs.Serving.{keeps}
use Rattle.ecsview.proofs.line.args_of.Goals as goal

-- the version is printed
pub returns-then-asks_version-clause-told : goal.returns-then-asks_version-clause-told
returns-then-asks_version-clause-told g c = inl (sym c.asks_version.ensures ∙ c.if-asks_version.true, c.print_asked.ensures)

-- nothing is written before the work
pub returns-in-Ok-clause-silent : goal.returns-in-Ok-clause-silent
returns-in-Ok-clause-silent g c = (keeps (g.O.Write.contents c.args.out.now), keeps (g.E.Write.contents c.args.faults.now))

-- a line that is no work is reported
pub returns-in-Err-clause-told : goal.returns-in-Err-clause-told
returns-in-Err-clause-told g c = inr (c.in-Err.fault, c.in-Err.ensures.err, c.tell_line_fault.ensures)
