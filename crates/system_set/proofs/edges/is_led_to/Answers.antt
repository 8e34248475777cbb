use Rattle.std.proofs.Common.{arith}
use Rattle.system_set.proofs.EdgeLists.{led_by, led_none, not_led}
use Rattle.system_set.proofs.edges.is_led_to.Goals as goal

pub returns-then-is_member_of : goal.returns-then-is_member_of
returns-then-is_member_of c =
    led_by c.args.sets c.args.rows.now c.args.seconds.now c.loop-second.second-index c.args.system c.is_member_of.result (omega arith) c.is_member_of.ensures c.if-is_member_of.true

pub loop-second-preserved : goal.loop-second-preserved
loop-second-preserved c =
    led_none c.args.sets c.args.rows.now c.args.seconds.now c.loop-second.second-index c.args.system c.is_member_of.result (omega arith) c.is_member_of.ensures c.if-is_member_of.false c.loop-second.invariant

pub returns : goal.returns
returns c = not_led c.args.sets c.args.rows.now c.args.seconds.now c.args.system c.loop-second.second-index (omega arith) c.loop-second.invariant
