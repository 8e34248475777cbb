use Rattle.std.proofs.Common.{ℕ, ◌+◌, List, length, ap, ◌∙◌, sym, subst}
use Rattle.model.specs.steps.Schedule.{ScheduledSystem}
use Rattle.schedule_builder.specs.Rows.{IsRival, AreRows}
use Rattle.schedule_builder.proofs.SystemSets.{read_system, clashes_read, rows_more}
use Rattle.schedule_builder.proofs.relations.rows_of_rivals.Goals as goal

pub loop-number-preserved : goal.loop-number-preserved
loop-number-preserved c =
    let systems : List ScheduledSystem = c.args.systems.now in
    let n : ℕ = c.loop-number.number in
    let same = ap (λ (s : ScheduledSystem). s.params) (read_system systems n c.index-systems-number.result c.loop-number-test.true c.index-systems-number.is) ∙ sym c.params.ensures in
    let row = c.in_ok-row_of_clashes.field-0 in
    subst (λ (rows : List (List ℕ)). AreRows (length systems) (n + 1) (IsRival systems) rows) (sym c.in_ok-push.ensures.items)
    (rows_more (length systems) n (IsRival systems) c.loop-number.rows.items row c.loop-number.invariant
    (clashes_read (length systems) systems _ _ row same c.in_ok-row_of_clashes.ensures))
