use Rattle.std.proofs.Common.{◌++◌, sym, ap, ◌∙◌}
use Rattle.std.proofs.lemmas.List.{append_assoc}
use Rattle.session.specs.Body.{ended}
use Rattle.session.proofs.BodyLines.{lines_more}
use Rattle.session.proofs.entry.first_lines.Goals as goal

pub loop-preserved : goal.loop-preserved
loop-preserved c =
    let inv = c.loop.invariant in
    let line = c.in_ok-behind.field-0-0.now in
    let is = c.in_ok-behind.ensures in (
      inv.0 ++ ended line,
      lines_more c.loop.counter inv.0 line inv.1 is.0,
      inv.2 ∙ ap (λ t. inv.0 ++ t) is.1 ∙ sym (append_assoc inv.0 (ended line) c.in_ok-behind.behind.now),
    )
