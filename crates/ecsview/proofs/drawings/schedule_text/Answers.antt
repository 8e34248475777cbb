use Rattle.std.proofs.Common.{map, ap, string_bytes}
use Rattle.ecsview.proofs.Pictures.{scheduled}
use Rattle.ecsview.proofs.drawings.schedule_text.Goals as goal

pub returns-clause-text : goal.returns-clause-text
returns-clause-text c =
    scheduled _ _ c.args.loaded.now _ c.in_ok-pairs.pairs.items c.as_slice.result.now _ _ _ _ _ _ c.as_slice-shapes.result.now c.in_ok-drawn.drawn.shapes.items (string_bytes c.in_ok-text_of_drawing.field-0)
    c.in_ok-pairs.ensures c.as_slice.ensures.value (ap (λ xs. map (λ members. members.items) xs) c.as_slice-members.ensures.value) (ap (λ xs. map (λ name. name.now) xs) c.as_slice-4.ensures.value) (ap (λ xs. map (λ name. name.now) xs) c.as_slice-5.ensures.value)
    c.in_ok-drawn.ensures.width c.in_ok-drawn.ensures.shapes c.in_ok-drawn.ensures.height c.as_slice-shapes.ensures.value c.in_ok-text_of_drawing.ensures
