use Rattle.std.proofs.Common.{[], ◌∷◌, ◌++◌, map, sym, subst}
use Rattle.std.proofs.lemmas.List.{map_more, take_all}
use Rattle.model.proofs.lists.Each.{each-at}
use Rattle.archetype_store.specs.Layout.{archetype_at}
use Rattle.query.specs.Term.{term_of}
use Rattle.query_plan.specs.Standing.{IsFilterHome}
use Rattle.query_plan.specs.FilterLists.{filters_in}
use Rattle.query_plan.specs.Filters.{AreFiltersOf}
use Rattle.query_plan.proofs.Stamps.{filters_passed, filters_more, no_filters}
use Rattle.query_plan.proofs.filter.filters_of.Goals as goal

pub filter_of-requires : goal.filter_of-requires
filter_of-requires c =
    each-at (λ term. IsFilterHome (archetype_at c.args.world.now.layout c.args.archetype) (term_of term)) c.args.terms.now c.loop-term.term-index _ c.loop-term-test.true c.requires

pub loop-term-init : goal.loop-term-init
loop-term-init c = (no_filters c.args.world.now.state.slots (archetype_at c.args.world.now.layout c.args.archetype).entities)

pub loop-term-preserved-in_default : goal.loop-term-preserved-in_default
loop-term-preserved-in_default c =
    subst (λ ts. AreFiltersOf c.args.world.now.state.slots (archetype_at c.args.world.now.layout c.args.archetype).entities ts (filters_in c.loop-term.filters))
    (sym (map_more term_of c.args.terms.now c.loop-term.term-index _ c.loop-term-test.true))
    (filters_passed _ _ _ _ _ c.loop-term.invariant c.in_default.ensures.none)

pub loop-term-preserved : goal.loop-term-preserved
loop-term-preserved c =
    rw (c.in_ok-filters.ensures)
    (subst (λ ts. AreFiltersOf c.args.world.now.state.slots (archetype_at c.args.world.now.layout c.args.archetype).entities ts ((filters_in c.loop-term.filters) ++ c.in-Some.filter ∷ []))
    (sym (map_more term_of c.args.terms.now c.loop-term.term-index _ c.loop-term-test.true))
    (filters_more _ _ _ _ _ c.loop-term.invariant c.in-Some.filter c.in-Some.ensures.some))

pub returns : goal.returns
returns c =
    subst (λ ts. AreFiltersOf c.args.world.now.state.slots (archetype_at c.args.world.now.layout c.args.archetype).entities (map term_of ts) (filters_in c.loop-term.filters))
    (take_all c.loop-term.term-index c.args.terms.now c.loop-term-test.false) c.loop-term.invariant
