use Rattle.std.proofs.Common.{◌≡◌, ◌++◌, ◌∷◌, [], List, ℕ, map, refl, ap, ◌∙◌}
use Rattle.schedule_drawing.specs.Folding.{first_from, holders_from}
use Rattle.schedule_drawing.proofs.LoopSteps.{counted_next, counted_all}
use Rattle.schedule_drawing.proofs.folding.every_holder.Goals as goal

pub loop-system-init : goal.loop-system-init
loop-system-init c =
    let sets : List (List ℕ) = map (λ members. members.items) c.args.sets.now in
    ap (λ hs. hs ++ holders_from sets 0 c.systems-systems.result.now) c.new-holders.ensures.items ∙ ap (holders_from sets 0) c.systems-systems.ensures

pub loop-system-preserved : goal.loop-system-preserved
loop-system-preserved c =
    let sets : List (List ℕ) = map (λ members. members.items) c.args.sets.now in
    let more : c.push.new.self.items ≡ c.loop-system.holders.items ++ first_from c.loop-system.number 0 sets ∷ [] =
    c.in_ok-push.ensures.items ∙ ap (λ h. c.loop-system.holders.items ++ h ∷ []) c.first_set.ensures in
    counted_next (holders_from sets) (first_from c.loop-system.number 0 sets ∷ []) c.systems-systems.result.now c.loop-system._system-index c._system-item.result c._system-item.result c.loop-system.number c.saturating_add-number.result c.loop-system.holders.items c.push.new.self.items
    (holders_from sets 0 c.args.built.now.systems) c.loop-system-test.true c._system-item.is refl c.loop-system.invariant more c.saturating_add-number.ensures

pub returns : goal.returns
returns c =
    let sets : List (List ℕ) = map (λ members. members.items) c.args.sets.now in
    counted_all (holders_from sets c.loop-system.number) c.systems-systems.result.now c.loop-system._system-index c.loop-system.holders.items (holders_from sets 0 c.args.built.now.systems)
    c.loop-system-test.false refl c.loop-system.invariant
