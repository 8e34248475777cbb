use Rattle.std.proofs.Common.{ℕ, ◌+◌, true, ◌≡◌, List, length, ap, ◌∙◌, sym, subst}
use Rattle.model.specs.Lists.{has}
use Rattle.model.specs.steps.Schedule.{ScheduledSystem}
use Rattle.schedule_builder.specs.Rows.{system_in, IsBefore, AreRows}
use Rattle.schedule_builder.proofs.SystemSets.{read_system, listed_row, rows_more}
use Rattle.schedule_builder.proofs.relations.rows_before.Goals as goal

pub row_before-requires : goal.row_before-requires
row_before-requires c = λ m inside.
    let systems : List ScheduledSystem = c.args.systems.now in
    let n : ℕ = c.loop-system.system-index in
    let same : (system_in systems n).predecessors ≡ c.predecessors.result.now
    = ap (λ (s : ScheduledSystem). s.predecessors) (read_system systems n c.system-item.result c.loop-system-test.true c.system-item.is) ∙ sym c.predecessors.ensures in
    c.requires.sources m n (subst (λ (xs : List ℕ). has m xs ≡ true) (sym same) inside)

pub loop-system-preserved : goal.loop-system-preserved
loop-system-preserved c =
    let systems : List ScheduledSystem = c.args.systems.now in
    let n : ℕ = c.loop-system.system-index in
    let same : (system_in systems n).predecessors ≡ c.predecessors.result.now
    = ap (λ (s : ScheduledSystem). s.predecessors) (read_system systems n c.system-item.result c.loop-system-test.true c.system-item.is) ∙ sym c.predecessors.ensures in
    subst (λ (rows : List (List ℕ)). AreRows (length systems) (n + 1) (IsBefore systems) rows) (sym c.in_ok-push.ensures.items)
    (rows_more (length systems) n (IsBefore systems) c.loop-system.rows.items c.in_ok-row_before.field-0 c.loop-system.invariant
    (listed_row (length systems) systems n c.predecessors.result.now c.in_ok-row_before.field-0 (sym same) c.in_ok-row_before.ensures))
