use Rattle.std.proofs.Common.{◌≡◌, drop, slice_get}
use Rattle.std.specs.List.{list_all}
use Rattle.query_plan.specs.Standing.{is_newer}
use Rattle.query_plan.proofs.filter.passes_all.Given as goal

-- all pass just where the rest do
abbrev pub invariant-loop-filter : goal.invariant-loop-filter
invariant-loop-filter l =
    list_all (λ f. is_newer l.last_run f.is_added (slice_get f.column.now.cells l.place)) l.filters
    ≡ list_all (λ f. is_newer l.last_run f.is_added (slice_get f.column.now.cells l.place)) (drop l.filter-index l.filters)
