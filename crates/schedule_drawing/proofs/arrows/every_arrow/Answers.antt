use Rattle.std.proofs.Common.{◌++◌, List, ℕ, map, refl, ap}
use Rattle.schedule_drawing.specs.Arrows.{arrows_from, arrows_to}
use Rattle.schedule_drawing.proofs.LoopSteps.{counted_next, counted_all}
use Rattle.schedule_drawing.proofs.arrows.every_arrow.Goals as goal

pub loop-members-init : goal.loop-members-init
loop-members-init c =
    let sets : List (List ℕ) = map (λ members. members.items) c.args.sets.now in
    ap (λ xs. xs ++ arrows_from c.args.built.now sets 0 sets) c.new-arrows.ensures.items

pub loop-members-preserved : goal.loop-members-preserved
loop-members-preserved c =
    let sets : List (List ℕ) = map (λ members. members.items) c.args.sets.now in
    let s = c.args.built.now in
    counted_next (λ k rest. arrows_from s sets k (map (λ members. members.items) rest)) (arrows_to s sets c.loop-members.number 0 sets) c.args.sets.now c.loop-members._members-index c._members-item.result c._members-item.result c.loop-members.number c.saturating_add-number.result c.loop-members.arrows.items c.add_arrows.new.arrows.items
    (arrows_from s sets 0 sets) c.loop-members-test.true c._members-item.is refl c.loop-members.invariant c.in_ok-add_arrows.ensures c.saturating_add-number.ensures

pub returns : goal.returns
returns c =
    let sets : List (List ℕ) = map (λ members. members.items) c.args.sets.now in
    counted_all (λ rest. arrows_from c.args.built.now sets c.loop-members.number (map (λ members. members.items) rest)) c.args.sets.now c.loop-members._members-index c.loop-members.arrows.items (arrows_from c.args.built.now sets 0 sets)
    c.loop-members-test.false refl c.loop-members.invariant
