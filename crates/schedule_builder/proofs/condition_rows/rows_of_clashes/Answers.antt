use Rattle.std.proofs.Common.{ℕ, ◌+◌, List, length, ap, ◌∙◌, sym, subst}
use Rattle.model.specs.access.Condition.{access_of_condition}
use Rattle.model.specs.steps.Schedule.{ScheduledSystem, ScheduledCondition}
use Rattle.schedule_builder.specs.Rows.{AreRows}
use Rattle.schedule_builder.specs.Conditions.{IsClash}
use Rattle.schedule_builder.proofs.SystemSets.{rows_more}
use Rattle.schedule_builder.proofs.Listings.{read_condition, clashes_of}
use Rattle.schedule_builder.proofs.condition_rows.rows_of_clashes.Goals as goal

pub loop-condition-preserved : goal.loop-condition-preserved
loop-condition-preserved c =
    let systems : List ScheduledSystem = c.args.systems.now in
    let conditions : List ScheduledCondition = c.args.conditions.now in
    let n : ℕ = c.loop-condition.condition-index in
    let row = c.in_ok-row_of_clashes.field-0 in
    let same = c.access.ensures ∙ ap (λ (x : ScheduledCondition). access_of_condition x.condition) (sym (read_condition conditions n c.condition-item.result c.loop-condition-test.true c.condition-item.is)) in
    subst (λ (rows : List (List ℕ)). AreRows (length systems) (n + 1) (IsClash systems conditions) rows) (sym c.in_ok-push.ensures.items)
    (rows_more (length systems) n (IsClash systems conditions) c.loop-condition.rows.items row c.loop-condition.invariant
    (clashes_of (length systems) systems conditions n _ row same c.in_ok-row_of_clashes.ensures))
