use Rattle.std.proofs.Common.{length, map, ap, string_bytes}
use Rattle.ecsview.proofs.Pictures.{laned}
use Rattle.ecsview.proofs.drawings.lanes_text.Goals as goal

pub returns-clause-text : goal.returns-clause-text
returns-clause-text g c =
    laned _ _ c.args.loaded.now (g.T.Read.remaining c.args.trace.now) c.args.part c.in_ok-traces.traces.items c.as_slice-runs.result.now c.part_of-drawn.result.now _ _ c.in_ok-foreign.foreign (length c.as_slice-runs.result.now) _ _
    c.as_slice-shapes.result.now c.in_ok-lanes.lanes.shapes.items (string_bytes c.in_ok-text_of_drawing.field-0)
    c.in_ok-traces.ensures.read c.as_slice-runs.ensures.value c.in_ok-check_steps.ensures.lawful c.in_ok-foreign.ensures.judged
    c.part_of-drawn.ensures (ap length c.as_slice-runs.ensures.value) (ap (λ xs. map (λ name. name.now) xs) c.as_slice-2.ensures.value)
    c.in_ok-lanes.ensures.width c.in_ok-lanes.ensures.height c.in_ok-lanes.ensures.shapes c.as_slice-shapes.ensures.value c.in_ok-text_of_drawing.ensures
