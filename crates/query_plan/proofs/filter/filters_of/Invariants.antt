use Rattle.std.proofs.Common.{map, take}
use Rattle.archetype_store.specs.Layout.{archetype_at}
use Rattle.query.specs.Term.{term_of}
use Rattle.query_plan.specs.FilterLists.{filters_in}
use Rattle.query_plan.specs.Filters.{AreFiltersOf}
use Rattle.query_plan.proofs.filter.filters_of.Given as goal

-- the filters so far are those of the terms so far
abbrev pub invariant-loop-term : goal.invariant-loop-term
invariant-loop-term l = AreFiltersOf l.world.state.slots (archetype_at l.world.layout l.archetype).entities (map term_of (take l.term-index l.terms)) (filters_in l.filters)
