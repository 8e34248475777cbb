use Rattle.std.proofs.Common.{◌++◌, List, ℕ, map, refl}
use Rattle.schedule_drawing.specs.Arrows.{arrow_if, arrows_to}
use Rattle.schedule_drawing.proofs.LoopSteps.{counted_next, counted_all}
use Rattle.schedule_drawing.proofs.arrows.add_arrows.Goals as goal

pub loop-members-preserved : goal.loop-members-preserved
loop-members-preserved c =
    let sets : List (List ℕ) = map (λ members. members.items) c.args.sets.now in
    let s = c.args.built.now in
    counted_next (λ k rest. arrows_to s sets c.args.from k (map (λ members. members.items) rest)) (arrow_if s sets c.args.from c.loop-members.number) c.args.sets.now c.loop-members._members-index c._members-item.result c._members-item.result c.loop-members.number c.saturating_add-number.result c.loop-members.arrows.items c.add_if.new.arrows.items
    (c.args.arrows.now.items ++ arrows_to s sets c.args.from 0 sets) c.loop-members-test.true c._members-item.is refl c.loop-members.invariant c.in_ok-add_if.ensures c.saturating_add-number.ensures

pub returns : goal.returns
returns c =
    let sets : List (List ℕ) = map (λ members. members.items) c.args.sets.now in
    counted_all (λ rest. arrows_to c.args.built.now sets c.args.from c.loop-members.number (map (λ members. members.items) rest)) c.args.sets.now c.loop-members._members-index c.loop-members.arrows.items
    (c.args.arrows.now.items ++ arrows_to c.args.built.now sets c.args.from 0 sets) c.loop-members-test.false refl c.loop-members.invariant
