use Rattle.std.proofs.Common.{sym, ap, ◌∙◌, subst}
use Rattle.std.specs.Arc.{arc_value}
use Rattle.query_plan.specs.Places.{AreEvery}
use Rattle.query_plan.specs.Kept.{rows_kept}
use Rattle.query_plan.proofs.EveryRow.{are-every}
use Rattle.query_plan.proofs.kept_rows.Rows.archetype.Goals as goal

pub returns-in-All : goal.returns-in-All
returns-in-All c =
    let es = (arc_value c.in-All._entities).items in
    subst (AreEvery c.in-All.archetype) (sym (sym c.self.view_is ∙ ap rows_kept c.in-All.is)) (are-every c.in-All.archetype es)
