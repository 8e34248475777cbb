use Rattle.archetype_store.proofs.ListSteps.{numbered_passed, numbered_next, numbered_all}
use Rattle.archetype_store.proofs.shapes.numbers_at.Goals as goal

pub loop-table-preserved-in_default : goal.loop-table-preserved-in_default
loop-table-preserved-in_default c =
    numbered_passed c.args.numbers.now c.args.tables.now c.loop-table.table-index c.loop-table.archetypes.items c.loop-table-test.true c.in_default.ensures c.loop-table.invariant

pub loop-table-preserved : goal.loop-table-preserved
loop-table-preserved c =
    numbered_next c.args.numbers.now c.args.tables.now c.loop-table.table-index c.loop-table.archetypes.items c.push.new.self.items c.in-Some.archetype c.loop-table-test.true c.in-Some.ensures c.in_ok-push.ensures.items c.loop-table.invariant

pub returns : goal.returns
returns c = numbered_all c.args.numbers.now c.args.tables.now c.loop-table.table-index c.loop-table.archetypes.items c.loop-table-test.false c.loop-table.invariant
