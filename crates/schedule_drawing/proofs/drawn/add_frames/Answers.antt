use Rattle.std.proofs.Common.{refl, sym}
use Rattle.std.proofs.lemmas.List.{append-nil}
use Rattle.schedule_drawing.specs.Marks.{frame_shapes}
use Rattle.schedule_drawing.proofs.LoopSteps.{flat_next, flat_all}
use Rattle.schedule_drawing.proofs.drawn.add_frames.Goals as goal

pub loop-member-init : goal.loop-member-init
loop-member-init c = sym (append-nil c.args.shapes.now.items)

pub loop-member-preserved : goal.loop-member-preserved
loop-member-preserved c =
    flat_next (frame_shapes c.args.built.now c.args.leaders.now c.args.members.now c.args.set) c.args.members.now c.loop-member.member-index 0 _ c.args.shapes.now.items c.loop-member.shapes.items c.add_frame.new.shapes.items
    c.loop-member-test.true refl c.loop-member.invariant c.in_ok-add_frame.ensures

pub returns : goal.returns
returns c = flat_all (frame_shapes c.args.built.now c.args.leaders.now c.args.members.now c.args.set) c.args.members.now c.args.members.now c.loop-member.member-index c.args.shapes.now.items c.loop-member.shapes.items c.loop-member-test.false refl c.loop-member.invariant
