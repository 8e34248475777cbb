use Rattle.std.proofs.Common.{◌≡◌, true, false, map, sym, ap, ◌∙◌, rules}
use Rattle.std.proofs.lemmas.List.{map-append}
use Rattle.kinds.specs.Kind.{kind_number}
use Rattle.query_plan.specs.Picks.{pick_seen}
use Rattle.query_plan.proofs.Picking.{passed_over, picked_one}
use Rattle.query_plan.proofs.picks.pick_in.Goals as goal

-- a kind that isn't touched is passed over
pub loop-kind-preserved-then-not-touches : goal.loop-kind-preserved-then-not-touches
loop-kind-preserved-then-not-touches c =
    let none : c.touches.result ≡ false = search rules in
    passed_over kind_number c.args.query.now c.args.archetype c.loop-kind.kind-index c.args.kinds.now _ (map pick_seen c.args.picks.now.items) (map pick_seen c.loop-kind.picks.items)
    c.loop-kind-test.true c.loop-kind.invariant (sym c.touches.ensures ∙ none)

-- one that is touched is picked
pub loop-kind-preserved : goal.loop-kind-preserved
loop-kind-preserved c =
    let one : c.touches.result ≡ true = search rules in
    picked_one kind_number c.args.query.now c.args.archetype c.loop-kind.kind-index c.args.kinds.now _ (map pick_seen c.args.picks.now.items) (map pick_seen c.loop-kind.picks.items)
    c.loop-kind-test.true c.loop-kind.invariant (map pick_seen c.push.new.self.items) c.writes.result (sym c.touches.ensures ∙ one) c.writes.ensures
    (ap (map pick_seen) c.in_ok-push.ensures.items ∙ map-append pick_seen c.loop-kind.picks.items _)
