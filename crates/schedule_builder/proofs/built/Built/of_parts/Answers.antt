use Rattle.std.proofs.Common.{ℕ, List, length, subst}
use Rattle.model.specs.steps.Schedule.{ScheduledSystem, ScheduledCondition}
use Rattle.schedule_builder.specs.Rows.{IsBefore, IsRival, AreRows}
use Rattle.schedule_builder.specs.Conditions.{IsClash}
use Rattle.schedule_builder.proofs.Counted.{has_counts}
use Rattle.schedule_builder.proofs.Listings.{has_condition_rows}
use Rattle.std.proofs.lemmas.Result.{IfOk-from_err}
use Rattle.schedule_builder.proofs.built.Built.of_parts.Goals as goal

pub invariant_of-result : goal.invariant_of-result
invariant_of-result c =
    let systems : List ScheduledSystem = c.args.systems.items in
    let rows : List (List ℕ) = c.in_ok-before.before.items in
    let waited : AreRows (length systems) (length systems) (IsBefore systems) rows
    = subst (λ (xs : List ScheduledSystem). AreRows (length xs) (length xs) (IsBefore xs) rows) c.as_slice.ensures.value c.in_ok-before.ensures in
    let met : AreRows (length systems) (length systems) (IsRival systems) c.in_ok-rivals.rivals.items
    = subst (λ (xs : List ScheduledSystem). AreRows (length xs) (length xs) (IsRival xs) c.in_ok-rivals.rivals.items) c.as_slice-2.ensures.value c.in_ok-rivals.ensures in
    let sizes = rw c.as_slice-5.ensures.value at c.in_ok-sizes.ensures.each in
    let conditions : List ScheduledCondition = c.args.conditions.items in (
      c.requires.built,
      has_condition_rows systems conditions c.in_ok-asked_by.asked_by.items c.in_ok-clashes.clashes.items
          (rw c.as_slice-6.ensures.value at c.in_ok-asked_by.ensures.long)
          (rw c.as_slice-6.ensures.value at (rw c.as_slice-7.ensures.value at c.in_ok-asked_by.ensures.each))
          (subst (λ (xs : List ScheduledCondition). AreRows (length systems) (length xs) (IsClash systems xs) c.in_ok-clashes.clashes.items) c.as_slice-9.ensures.value
          (subst (λ (xs : List ScheduledSystem). AreRows (length xs) (length c.as_slice-9.result.now) (IsClash xs c.as_slice-9.result.now) c.in_ok-clashes.clashes.items) c.as_slice-8.ensures.value c.in_ok-clashes.ensures)),
      record { before = waited; rivals = met },
      c.requires.apart,
      has_counts systems rows c.in_ok-after.after.items c.args.syncs c.in_ok-waits.waits.items c.in_ok-sizes.sizes.items waited
          (rw c.as_slice-3.ensures.value at c.in_ok-after.ensures.long)
          (rw c.as_slice-3.ensures.value at c.in_ok-after.ensures.each)
          (rw c.as_slice-4.ensures.value at c.in_ok-waits.ensures)
          c.requires.built.levels c.in_ok-sizes.ensures.long sizes,
    )

pub returns-in_err-before : goal.returns-in_err-before
returns-in_err-before c = IfOk-from_err c.from_residual.result _ c.from_residual.ensures.0

pub returns-in_err-rivals : goal.returns-in_err-rivals
returns-in_err-rivals c = IfOk-from_err c.from_residual-in_err-rivals.result _ c.from_residual-in_err-rivals.ensures.0

pub returns-in_err-after : goal.returns-in_err-after
returns-in_err-after c = IfOk-from_err c.from_residual-in_err-after.result _ c.from_residual-in_err-after.ensures.0

pub returns-in_err-waits : goal.returns-in_err-waits
returns-in_err-waits c = IfOk-from_err c.from_residual-in_err-waits.result _ c.from_residual-in_err-waits.ensures.0

pub returns-in_err-sizes : goal.returns-in_err-sizes
returns-in_err-sizes c = IfOk-from_err c.from_residual-in_err-sizes.result _ c.from_residual-in_err-sizes.ensures.0

pub returns-in_err-asked_by : goal.returns-in_err-asked_by
returns-in_err-asked_by c = IfOk-from_err c.from_residual-in_err-asked_by.result _ c.from_residual-in_err-asked_by.ensures.0

pub returns-in_err-clashes : goal.returns-in_err-clashes
returns-in_err-clashes c = IfOk-from_err c.from_residual-in_err-clashes.result _ c.from_residual-in_err-clashes.ensures.0
