use Rattle.std.proofs.Common.{inl, inr, refl, subst}
use Rattle.program.specs.Served.{HasGained, HasGainedFront, Tells}
use Rattle.program.proofs.Serving.{keeps}
use Rattle.ecsview.proofs.recorded.view_record.Goals as goal

-- the text is printed
pub returns-in-Ok-write_whole : goal.returns-in-Ok-write_whole
returns-in-Ok-write_whole g c =
    inl (record {
      shown = c.in-Ok.shown;
      is = c.in-Ok.ensures;
      ends = refl;
      written = subst (HasGained (g.O.Write.contents c.args.out.now, g.O.Write.contents c.write_whole.new.writer)) c.as_str.ensures.value c.in-Ok-write_whole.ensures;
      untold = keeps (g.E.Write.contents c.args.faults.now);
    })

-- the output fails
pub returns : goal.returns
returns g c =
    inr (inl (record {
      shown = c.in-Ok.shown;
      is = c.in-Ok.ensures;
      written = subst (HasGainedFront (g.O.Write.contents c.args.out.now, g.O.Write.contents c.write_whole.new.writer)) c.as_str.ensures.value c.in-Err-write_whole.ensures;
      told = subst (λ f. Tells f c.tell.result (g.E.Write.contents c.args.faults.now, g.E.Write.contents c.tell.new.faults)) c.from.ensures c.tell.ensures;
    }))
