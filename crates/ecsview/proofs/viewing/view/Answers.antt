use Rattle.std.proofs.Common.{inl, inr, refl, subst}
use Rattle.program.specs.Served.{HasGained, HasGainedFront, Tells}
use Rattle.program.proofs.Serving.{keeps}
use Rattle.ecsview.proofs.viewing.view.Goals as goal

-- what is read or found is at fault
pub returns-in-Err : goal.returns-in-Err
returns-in-Err g c = inr (inr (record {
  fault = c.in-Err.fault;
  reason = c.in-Err.ensures.refused;
  told = c.tell.ensures;
  kept = keeps (g.O.Write.contents c.args.out.now);
}))

-- the text is printed
pub returns-in-Ok-write_whole : goal.returns-in-Ok-write_whole
returns-in-Ok-write_whole g c =
    inl (record {
      shown = c.in-Ok.view;
      is = c.in-Ok.ensures.answered;
      ends = refl;
      written = subst (HasGained (g.O.Write.contents c.args.out.now, g.O.Write.contents c.write_whole.new.writer)) c.as_str.ensures.value c.in-Ok-write_whole.ensures;
      untold = keeps (g.E.Write.contents c.args.faults.now);
    })

-- the output fails
pub returns : goal.returns
returns g c =
    inr (inl (record {
      shown = c.in-Ok.view;
      is = c.in-Ok.ensures.answered;
      written = subst (HasGainedFront (g.O.Write.contents c.args.out.now, g.O.Write.contents c.write_whole.new.writer)) c.as_str.ensures.value c.in-Err-write_whole.ensures;
      told = subst (λ f. Tells f c.tell-in-Err-write_whole.result (g.E.Write.contents c.args.faults.now, g.E.Write.contents c.tell-in-Err-write_whole.new.faults)) c.from.ensures c.tell-in-Err-write_whole.ensures;
    }))
