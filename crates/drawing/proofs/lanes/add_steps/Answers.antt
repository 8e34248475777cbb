use Rattle.std.proofs.Common.{◌++◌, [], false, get_or, ap, refl, ◌∙◌}
use Rattle.model.specs.declared.steps.Step.{Step}
use Rattle.model.specs.declared.steps.Step.TheVariants.{Cond}
use Rattle.drawing.specs.Lanes.{step_shapes, steps_shapes}
use Rattle.drawing.proofs.Stepping.{steps_next, steps_end}
use Rattle.drawing.proofs.lanes.add_steps.Goals as goal

pub loop-step-init : goal.loop-step-init
loop-step-init c = ap (λ lanes. c.args.shapes.now.items ++ steps_shapes c.args.top c.args.bottom lanes 0 c.args.steps.now) c.new-lanes.ensures.items

pub loop-step-preserved : goal.loop-step-preserved
loop-step-preserved c =
    let step : Step = get_or c.args.steps.now c.loop-step.step-index (Cond 0 false) in
    let more = c.in_ok-add_step.ensures ∙ ap (λ lanes. c.loop-step.shapes.items ++ step_shapes c.args.top c.args.bottom lanes c.loop-step.at step) c.as_slice.ensures.value in
    steps_next c.args.top c.args.bottom c.loop-step.lanes.items c.move_lanes.new.lanes.items c.loop-step.at c.saturating_add-at.result c.args.steps.now c.loop-step.step-index (Cond 0 false) step c.loop-step.shapes.items c.add_step.new.shapes.items
    (c.args.shapes.now.items ++ steps_shapes c.args.top c.args.bottom [] 0 c.args.steps.now) c.loop-step-test.true refl c.loop-step.invariant more c.in_ok-move_lanes.ensures c.saturating_add-at.ensures

pub returns : goal.returns
returns c =
    steps_end c.args.top c.args.bottom c.loop-step.lanes.items c.loop-step.at c.args.steps.now c.loop-step.step-index c.loop-step.shapes.items
    (c.args.shapes.now.items ++ steps_shapes c.args.top c.args.bottom [] 0 c.args.steps.now) c.loop-step-test.false c.loop-step.invariant
