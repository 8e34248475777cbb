use Rattle.std.proofs.Common.{map, ap, arith}
use Rattle.program.specs.Said.{item_said}
use Rattle.findings.proofs.SetsFound.{all_put, hierarchy_found, item_put}
use Rattle.findings.proofs.sets.hierarchy_from.Goals as goal

-- one item more
pub loop-number-preserved : goal.loop-number-preserved
loop-number-preserved c =
    item_put c.args.sets.now c.args.systems.now c.loop-number.number c.loop-number.hierarchy c.put_in.new.hierarchy _ (item_said c.item_of-item.result.now) c.loop-number-test.true
    (ap (map (λ name. name.now)) c.as_slice.ensures.value) c.item_of-item.ensures c.loop-number.invariant c.in_ok-put_in.ensures

-- all of them
pub returns-clause-declared : goal.returns-clause-declared
returns-clause-declared c = λ known.
    hierarchy_found c.args.sets.now c.args.systems.now c.loop-number.hierarchy (all_put c.args.sets.now c.args.systems.now c.loop-number.number c.loop-number.hierarchy (omega (arith, c.loop-number-test.false)) c.loop-number.invariant) known
