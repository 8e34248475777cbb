use Rattle.std.proofs.Common.{◌≡◌, true, Some, map, sym, subst, ap, ◌∙◌}
use Rattle.std.specs.List.{AllByRecursion}
use Rattle.archetype_store.specs.Layout.{archetype_at, column_home}
use Rattle.query_plan.specs.Picks.{Picked, pick_seen}
use Rattle.calls.proofs.tests.again.health_column.Goals as goal

pub plan-requires : goal.plan-requires
plan-requires c = c.prove_picks_home.ensures c.args.world.now.state.slots c.args.world.now.layout c.in_ok-query.query c.prove_laid.ensures c.requires

pub only-requires : goal.only-requires
only-requires c =
    let layout = c.args.world.now.layout in
    let P : Picked → Type 0 = λ p. column_home (archetype_at layout p.archetype) p.kind ≡ Some true in
    subst (AllByRecursion P) (sym (ap (map pick_seen) c.as_slice.ensures.value ∙ c.in-Ok.ensures.picks))
    (c.prove_picks_home.ensures c.args.world.now.state.slots layout c.in_ok-query.query c.prove_laid.ensures c.requires)
