use Rattle.std.proofs.Common.{◌≡◌, ◌++◌, ◌∙◌, ap, map, flat_map, refl}
use Rattle.schedule_drawing.specs.Marks.{frame_shapes}
use Rattle.schedule_drawing.specs.Drawn.{sets_from}
use Rattle.schedule_drawing.proofs.LoopSteps.{counted_next, counted_all}
use Rattle.schedule_drawing.proofs.drawn.add_sets.Goals as goal

pub loop-members-preserved : goal.loop-members-preserved
loop-members-preserved c =
    let more : c.add_frames.new.shapes.items ≡ c.loop-members.shapes.items ++ flat_map (frame_shapes c.args.built.now c.args.leaders.now c.members-item.result.items c.loop-members.number) c.members-item.result.items =
    c.in_ok-add_frames.ensures ∙ ap (λ ms. c.loop-members.shapes.items ++ flat_map (frame_shapes c.args.built.now c.args.leaders.now ms c.loop-members.number) ms) c.as_slice.ensures.value in
    counted_next (λ k sets. sets_from c.args.built.now c.args.leaders.now k (map (λ members. members.items) sets)) (flat_map (frame_shapes c.args.built.now c.args.leaders.now c.members-item.result.items c.loop-members.number) c.members-item.result.items) c.args.sets.now c.loop-members.members-index c.members-item.result c.members-item.result c.loop-members.number c.saturating_add-number.result c.loop-members.shapes.items c.add_frames.new.shapes.items
    (c.args.shapes.now.items ++ sets_from c.args.built.now c.args.leaders.now 0 (map (λ members. members.items) c.args.sets.now))
    c.loop-members-test.true c.members-item.is refl c.loop-members.invariant more c.saturating_add-number.ensures

pub returns : goal.returns
returns c =
    counted_all (λ sets. sets_from c.args.built.now c.args.leaders.now c.loop-members.number (map (λ members. members.items) sets)) c.args.sets.now c.loop-members.members-index c.loop-members.shapes.items
    (c.args.shapes.now.items ++ sets_from c.args.built.now c.args.leaders.now 0 (map (λ members. members.items) c.args.sets.now)) c.loop-members-test.false refl c.loop-members.invariant
