use Rattle.std.proofs.Common.{refl, sym}
use Rattle.std.proofs.lemmas.List.{append-nil}
use Rattle.schedule_drawing.specs.Marks.{diamond_shapes}
use Rattle.schedule_drawing.proofs.LoopSteps.{flat_next, flat_all}
use Rattle.schedule_drawing.proofs.drawn.add_diamonds.Goals as goal

pub loop-system-init : goal.loop-system-init
loop-system-init c = sym (append-nil c.args.shapes.now.items)

pub loop-system-preserved : goal.loop-system-preserved
loop-system-preserved c =
    flat_next (diamond_shapes c.args.built.now c.args.leaders.now c.args.condition) c.args.covers.now c.loop-system.system-index 0 _ c.args.shapes.now.items c.loop-system.shapes.items c.add_diamond.new.shapes.items
    c.loop-system-test.true refl c.loop-system.invariant c.in_ok-add_diamond.ensures

pub returns : goal.returns
returns c = flat_all (diamond_shapes c.args.built.now c.args.leaders.now c.args.condition) c.args.covers.now c.args.covers.now c.loop-system.system-index c.args.shapes.now.items c.loop-system.shapes.items c.loop-system-test.false refl c.loop-system.invariant
