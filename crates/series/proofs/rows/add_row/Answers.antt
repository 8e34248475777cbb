use Rattle.std.proofs.Common.{refl, ap, ◌∙◌}
use Rattle.model.specs.state.State.{World}
use Rattle.series.specs.Values.{values_of}
use Rattle.series.proofs.rows.add_row.Goals as goal

-- the row of the world of the state
pub returns : goal.returns
returns c = (
  record { run = c.args.run; values = c.in_ok-values.values },
  record { number = refl; values = c.in_ok-values.ensures ∙ ap (λ (world : World). values_of world c.args.series.now) c.world.ensures.world },
  c.in_ok-push.ensures.items,
)
