use Rattle.std.proofs.Common.{ℕ, ◌<◌, ◌≡◌, List, length, ap, ◌∙◌, sym, subst, arith}
use Rattle.model.specs.steps.Schedule.{ScheduledSystem}
use Rattle.model.specs.access.Conflict.{Conflict}
use Rattle.schedule_builder.specs.Rows.{IsRow, system_in}
use Rattle.schedule_builder.proofs.SystemSets.{read_system, tells_conflict, clash_more}
use Rattle.schedule_builder.proofs.relations.row_of_clashes.Goals as goal

pub loop-other-preserved : goal.loop-other-preserved
loop-other-preserved c =
    let systems = c.args.systems.now in
    let other = c.loop-other.other in
    let first = ap (λ (s : ScheduledSystem). s.params) (read_system systems other c.index-systems-other.result c.loop-other-test.true c.index-systems-other.is) ∙ sym c.params.ensures in
    record {
      room = c.insert_if.ensures.room ∙ c.loop-other.invariant.room;
      members = clash_more systems c.loop-other.row c.insert_if.new.row c.args.access.now other c.conflicts.result
          (tells_conflict _ _ c.args.access.now c.conflicts.result first c.conflicts.ensures) c.insert_if.ensures.members c.loop-other.invariant.members;
    }

pub returns : goal.returns
returns c =
    let systems : List ScheduledSystem = c.args.systems.now in
    let all : c.loop-other.other ≡ length systems = omega arith in
    subst (λ (k : ℕ). IsRow (length systems) (λ m. (m < k) × Conflict (system_in systems m).params c.args.access.now) c.loop-other.row) all (record { room = c.loop-other.invariant.room; members = c.loop-other.invariant.members })
