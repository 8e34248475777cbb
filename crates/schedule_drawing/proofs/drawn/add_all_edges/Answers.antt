use Rattle.std.proofs.Common.{map, refl, sym}
use Rattle.std.proofs.lemmas.List.{append-nil}
use Rattle.schedule_drawing.specs.Marks.{edges_shapes}
use Rattle.schedule_drawing.proofs.LoopSteps.{flat_next, flat_all}
use Rattle.schedule_drawing.proofs.drawn.add_all_edges.Goals as goal

pub loop-system-init : goal.loop-system-init
loop-system-init c = sym (append-nil c.args.shapes.now.items)

pub loop-system-preserved : goal.loop-system-preserved
loop-system-preserved c =
    flat_next (edges_shapes c.args.built.now c.args.leaders.now (map (λ members. members.items) c.args.sets.now) c.args.arrows.now) c.order-order.result.now c.loop-system.system-index 0 _ c.args.shapes.now.items c.loop-system.shapes.items c.add_edges.new.shapes.items
    c.loop-system-test.true refl c.loop-system.invariant c.in_ok-add_edges.ensures

pub returns : goal.returns
returns c = flat_all (edges_shapes c.args.built.now c.args.leaders.now (map (λ members. members.items) c.args.sets.now) c.args.arrows.now) c.order-order.result.now c.args.built.now.order c.loop-system.system-index c.args.shapes.now.items c.loop-system.shapes.items c.loop-system-test.false c.order-order.ensures c.loop-system.invariant
