use Rattle.archetype_store.proofs.Common.{[], map, copied_next, mapped_all, kind_number, stamped_number}
use Rattle.archetype_store.proofs.tables.kinds_of.Goals as goal

pub loop-component-preserved : goal.loop-component-preserved
loop-component-preserved c =
    copied_next kind_number stamped_number c.args.components.now c.loop-component.component-index _ [] c.loop-component.kinds.items c.push.new.self.items c.kind.result c.loop-component-test.true c.loop-component.invariant c.kind.ensures c.in_ok-push.ensures.items

pub returns : goal.returns
returns c = mapped_all stamped_number c.args.components.now c.loop-component.component-index [] (map kind_number c.loop-component.kinds.items) c.loop-component-test.false c.loop-component.invariant
