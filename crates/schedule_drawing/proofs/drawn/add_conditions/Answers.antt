use Rattle.std.proofs.Common.{◌≡◌, ◌++◌, flat_map, refl, ap, ◌∙◌}
use Rattle.schedule_drawing.specs.Marks.{diamond_shapes}
use Rattle.schedule_drawing.specs.Drawn.{conditions_from}
use Rattle.schedule_drawing.proofs.LoopSteps.{counted_next, counted_all}
use Rattle.schedule_drawing.proofs.drawn.add_conditions.Goals as goal

pub loop-condition-preserved : goal.loop-condition-preserved
loop-condition-preserved c =
    let more : c.add_diamonds.new.shapes.items ≡ c.loop-condition.shapes.items ++ flat_map (diamond_shapes c.args.built.now c.args.leaders.now c.loop-condition.number) c.condition-item.result.covers =
    c.in_ok-add_diamonds.ensures ∙ ap (λ ns. c.loop-condition.shapes.items ++ flat_map (diamond_shapes c.args.built.now c.args.leaders.now c.loop-condition.number) ns) c.covers.ensures in
    counted_next (conditions_from c.args.built.now c.args.leaders.now) (flat_map (diamond_shapes c.args.built.now c.args.leaders.now c.loop-condition.number) c.condition-item.result.covers) c.conditions-conditions.result.now c.loop-condition.condition-index c.condition-item.result c.condition-item.result c.loop-condition.number c.saturating_add-number.result c.loop-condition.shapes.items c.add_diamonds.new.shapes.items
    (c.args.shapes.now.items ++ conditions_from c.args.built.now c.args.leaders.now 0 c.args.built.now.conditions)
    c.loop-condition-test.true c.condition-item.is refl c.loop-condition.invariant more c.saturating_add-number.ensures

pub returns : goal.returns
returns c =
    counted_all (conditions_from c.args.built.now c.args.leaders.now c.loop-condition.number) c.conditions-conditions.result.now c.loop-condition.condition-index c.loop-condition.shapes.items
    (c.args.shapes.now.items ++ conditions_from c.args.built.now c.args.leaders.now 0 c.args.built.now.conditions) c.loop-condition-test.false refl c.loop-condition.invariant
