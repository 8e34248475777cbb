use Rattle.std.proofs.Common.{inl, inr, refl, subst}
use Rattle.program.specs.Served.{Tells}
use Rattle.program.proofs.Serving.{keeps}
use Rattle.program.proofs.line_faults.print_asked.Goals as goal

pub returns-in-Ok : goal.returns-in-Ok
returns-in-Ok g c = inl (refl, c.in-Ok.ensures, keeps (g.E.Write.contents c.args.faults.now))

pub returns-in-Err : goal.returns-in-Err
returns-in-Err g c = inr (c.in-Err.ensures, subst (λ f. Tells f c.tell.result (g.E.Write.contents c.args.faults.now, g.E.Write.contents c.tell.new.faults)) c.from.ensures c.tell.ensures)
