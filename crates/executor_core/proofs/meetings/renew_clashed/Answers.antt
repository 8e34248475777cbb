use Rattle.std.proofs.Common.{◌<◌, ℕ, Some, length, ap, ◌∙◌, subst, arith}
use Rattle.model.specs.access.Access.{Params}
use Rattle.model.specs.access.Condition.{access_of_condition}
use Rattle.model.specs.access.Meeting.{Meet}
use Rattle.model.specs.steps.Schedule.{ScheduledCondition, params_of}
use Rattle.schedule_builder.specs.Rows.{IsRow}
use Rattle.executor_core.specs.Meetings.{IsClashing}
use Rattle.executor_core.proofs.Rows.{renewed_more}
use Rattle.executor_core.proofs.meetings.renew_clashed.Goals as goal

pub loop-number-preserved : goal.loop-number-preserved
loop-number-preserved c =
    let s = c.args.built.now in
    let count : ℕ = length c.args.built.now.systems in
    renewed_more count (length c.args.built.now.conditions) c.loop-number.number (IsClashing s c.args.sets.now) c.loop-number.rows c.renew_row.new.row
    (omega (arith, c.condition_count-number-end.ensures, c.loop-number-test.true)) c.loop-number.invariant
    (subst (λ (a : Params). IsRow count (λ m. (m < count) × Meet (Some c.args.sets.now) (params_of s m) a) c.renew_row.new.row)
    (c.access.ensures ∙ ap (λ (x : ScheduledCondition). access_of_condition x.condition) c.condition.ensures) c.renew_row.ensures)
