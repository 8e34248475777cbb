use Rattle.std.proofs.Common.{inl, inr, refl, subst}
use Rattle.program.specs.Served.{Tells}
use Rattle.program.proofs.Serving.{keeps}
use Rattle.ecsview.proofs.meanings.print.Goals as goal

-- the text is printed
pub returns-in-Ok : goal.returns-in-Ok
returns-in-Ok g c = inl (record {
  ends = refl;
  written = c.in-Ok.ensures;
  untold = keeps (g.E.Write.contents c.args.faults.now);
})

-- the output fails
pub returns-in-Err : goal.returns-in-Err
returns-in-Err g c = inr (record {
  written = c.in-Err.ensures;
  told = subst (λ f. Tells f c.tell.result (g.E.Write.contents c.args.faults.now, g.E.Write.contents c.tell.new.faults)) c.from.ensures c.tell.ensures;
})
