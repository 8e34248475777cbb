use Rattle.std.proofs.Common.{ℕ, length, get_or, ◌∙◌}
use Rattle.cycle_search.proofs.Walks.{at_has}
use Rattle.schedule_builder.proofs.SystemSets.{list_more, within_room, row_of_list}
use Rattle.schedule_builder.proofs.relations.row_before.Goals as goal

pub insert-requires : goal.insert-requires
insert-requires c =
    let m : ℕ = get_or c.args.predecessors.now c.loop-system.system-index 0 in
    within_room m c.args.count (length c.loop-system.row)
    (c.requires m (at_has c.args.predecessors.now c.loop-system.system-index c.loop-system-test.true)) c.loop-system.invariant.room

pub loop-system-preserved : goal.loop-system-preserved
loop-system-preserved c = record {
  room = c.insert.ensures.room ∙ c.loop-system.invariant.room;
  members = list_more c.loop-system.row c.insert.new.self c.args.predecessors.now c.loop-system.system-index c.loop-system-test.true c.insert.ensures.members c.loop-system.invariant.members;
}

pub returns : goal.returns
returns c =
    row_of_list c.args.count c.loop-system.row c.args.predecessors.now c.loop-system.system-index c.loop-system-test.false
    c.loop-system.invariant.room c.loop-system.invariant.members
