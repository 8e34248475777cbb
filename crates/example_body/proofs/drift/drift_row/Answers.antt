use Rattle.std.proofs.Common.{ap, ◌∙◌}
use Rattle.body.specs.Seen.{with_written}
use Rattle.example_body.specs.Drift.{position}
use Rattle.example_body.proofs.Moves.{sums}
use Rattle.example_body.proofs.drift.drift_row.Goals as goal

pub returns : goal.returns
returns c =
    c.set.ensures ∙ ap (λ words. with_written c.args.view.now 0 c.args.row position words)
    (sums c.get.result c.get-2.result _ _ c.unwrap_or-place.result c.unwrap_or-step.result c.moved_by.result.x c.moved_by.result.y
    c.get.ensures c.get-2.ensures c.unwrap_or-place.ensures c.unwrap_or-step.ensures c.moved_by.ensures.x c.moved_by.ensures.y)
