use Rattle.std.proofs.Common.{◌≡◌, not, length, sym, ap, ◌∙◌, subst}
use Rattle.model.specs.Lists.{is_there}
use Rattle.archetype_store.specs.Layout.{archetype_at}
use Rattle.query_plan.specs.Places.{rows_of_places, IsCounted}
use Rattle.query_plan.proofs.EveryRow.{none-every}
use Rattle.query_plan.proofs.matched_rows.MatchedRows.is_empty.Goals as goal

pub returns-in-All : goal.returns-in-All
returns-in-All c =
    let layout = c.args._world.now.layout in
    let es = (archetype_at layout c.in-All._archetype).entities in
    let counted : length es ≡ c.in-All.count = subst (IsCounted layout) c.in-All.is c.requires in
    none-every c.in-All._archetype c.in-All.count es counted ∙ ap (λ places. not (is_there (rows_of_places layout places))) (sym c.in-All.is)
