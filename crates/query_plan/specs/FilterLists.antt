-- Filters as a list.
use Rattle.std.specs.Prelude.{List, [], ◌∷◌}
use Rattle.query_plan.specs.declared.filter.Filter.{Filter}
use Rattle.query_plan.specs.declared.filter.Filters.{Filters}
use Rattle.query_plan.specs.declared.filter.Filters.TheVariants as held

abbrev pub filters_in : Filters → List Filter
filters_in held.Without = []
filters_in (held.One filter) = filter ∷ []
filters_in (held.Two pair) = pair.filters
filters_in (held.Several filters) = filters.items
