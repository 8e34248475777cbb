use Rattle.std.proofs.Common.{◌≡◌, ◌++◌, ◌∷◌, [], refl, ap, ◌∙◌}
use Rattle.schedule_drawing.specs.Folding.{leader_for, leaders_from, leaders_of}
use Rattle.schedule_drawing.proofs.LoopSteps.{counted_next, counted_all}
use Rattle.schedule_drawing.proofs.folding.leaders_of.Goals as goal

pub loop-system-init : goal.loop-system-init
loop-system-init c =
    ap (λ ns. ns ++ leaders_from c.args.built.now c.args.holders.now 0 c.systems-systems.result.now) c.new-leaders.ensures.items
    ∙ ap (leaders_from c.args.built.now c.args.holders.now 0) c.systems-systems.ensures

pub loop-system-preserved : goal.loop-system-preserved
loop-system-preserved c =
    let more : c.push.new.self.items ≡ c.loop-system.leaders.items ++ leader_for c.args.built.now c.args.holders.now c.loop-system.number ∷ [] =
    c.in_ok-push.ensures.items ∙ ap (λ n. c.loop-system.leaders.items ++ n ∷ []) c.leader_for.ensures in
    counted_next (leaders_from c.args.built.now c.args.holders.now) (leader_for c.args.built.now c.args.holders.now c.loop-system.number ∷ []) c.systems-systems.result.now c.loop-system._system-index c._system-item.result c._system-item.result c.loop-system.number c.saturating_add-number.result c.loop-system.leaders.items c.push.new.self.items
    (leaders_of c.args.built.now c.args.holders.now)
    c.loop-system-test.true c._system-item.is refl c.loop-system.invariant more c.saturating_add-number.ensures

pub returns : goal.returns
returns c =
    counted_all (leaders_from c.args.built.now c.args.holders.now c.loop-system.number) c.systems-systems.result.now c.loop-system._system-index c.loop-system.leaders.items (leaders_of c.args.built.now c.args.holders.now)
    c.loop-system-test.false refl c.loop-system.invariant
