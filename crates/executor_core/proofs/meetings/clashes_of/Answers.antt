use Rattle.std.proofs.Common.{ℕ, ◌+◌, List, length, sym, subst}
use Rattle.model.specs.steps.Schedule.{ScheduledSystem}
use Rattle.schedule_builder.specs.Rows.{IsRow, AreRows}
use Rattle.schedule_builder.specs.Conditions.{IsClash}
use Rattle.schedule_builder.proofs.SystemSets.{rows_more}
use Rattle.executor_core.proofs.meetings.clashes_of.Goals as goal

pub loop-number-preserved : goal.loop-number-preserved
loop-number-preserved c =
    let systems : List ScheduledSystem = c.args.built.now.systems in
    let n : ℕ = c.loop-number.number in
    let row = c.in_ok-copy.field-0 in
    subst (λ (rows : List (List ℕ)). AreRows (length systems) (n + 1) (IsClash systems c.args.built.now.conditions) rows) (sym c.in_ok-push.ensures.items)
    (rows_more (length systems) n (IsClash systems c.args.built.now.conditions) c.loop-number.rows.items row c.loop-number.invariant
    (subst (λ (r : List ℕ). IsRow (length systems) (IsClash systems c.args.built.now.conditions n) r) (sym c.in_ok-copy.ensures) c.clashes.ensures))
