use Rattle.std.proofs.Common.{◌≡◌, length, sym, ap, ◌∙◌, subst}
use Rattle.std.specs.Arc.{arc_value}
use Rattle.query_plan.specs.Kept.{rows_kept, AreCounted}
use Rattle.query_plan.proofs.EveryRow.{length-every}
use Rattle.query_plan.proofs.kept_rows.Rows.len.Goals as goal

pub returns-in-All : goal.returns-in-All
returns-in-All c =
    let es = (arc_value c.in-All._entities).items in
    let counted : length es ≡ c.in-All.count = subst AreCounted c.in-All.is c.self.invariant in
    sym counted ∙ sym (length-every c.in-All._archetype 0 es) ∙ ap length (sym (ap rows_kept c.in-All.is) ∙ c.self.view_is)
