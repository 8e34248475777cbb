use Rattle.std.proofs.Common.{ℕ, List, inl, inr, subst}
use Rattle.ecsview.specs.Meanings.{IsTextPrinted}
use Rattle.program.proofs.Serving.{keeps}
use Rattle.ecsview.proofs.series_view.view_series.Goals as goal

-- the text is printed
pub returns-in-Ok : goal.returns-in-Ok
returns-in-Ok g c =
    inl (record {
      text = c.in-Ok.text;
      is = c.in-Ok.ensures.text;
      printed = subst (λ (bytes : List ℕ). IsTextPrinted bytes c.print.result (g.O.Write.contents c.args.out.now, g.O.Write.contents c.print.new.out) (g.E.Write.contents c.args.faults.now, g.E.Write.contents c.print.new.faults)) c.as_str.ensures.value c.print.ensures;
    })

-- the work is refused
pub returns-in-Err : goal.returns-in-Err
returns-in-Err g c = inr (record {
  fault = c.in-Err.fault;
  reason = c.in-Err.ensures.refused;
  told = c.tell.ensures;
  kept = keeps (g.O.Write.contents c.args.out.now);
})
