use Rattle.std.proofs.Common.{◌<◌, length, slice_get, sym, ap, ◌∙◌}
use Rattle.std.specs.List.{list_all}
use Rattle.std.proofs.lemmas.List.{drop_all}
use Rattle.model.proofs.lists.Each.{each-at}
use Rattle.query_plan.specs.declared.filter.Filter.{Filter}
use Rattle.query_plan.specs.Standing.{is_newer}
use Rattle.query_plan.proofs.Stamps.{all_drop, all_stops}
use Rattle.query_plan.proofs.filter.passes_all.Goals as goal

pub passes-requires : goal.passes-requires
passes-requires c =
    rw (c.filter-item.is) (each-at (λ (f : Filter). c.args.place < length f.column.now.cells) c.args.filters.now c.loop-filter.filter-index c.filter-item.result c.loop-filter-test.true c.requires)

pub loop-filter-preserved : goal.loop-filter-preserved
loop-filter-preserved c =
    let test = λ (f : Filter). is_newer c.args.last_run f.is_added (slice_get f.column.now.cells c.args.place) in
    all_drop test c.args.filters.now c.loop-filter.filter-index c.filter-item.result _ c.loop-filter-test.true
    (ap test (sym c.filter-item.is) ∙ sym c.passes.ensures ∙ c.if-not-passes.false) c.loop-filter.invariant

pub returns-then-not-passes : goal.returns-then-not-passes
returns-then-not-passes c =
    let test = λ (f : Filter). is_newer c.args.last_run f.is_added (slice_get f.column.now.cells c.args.place) in
    sym (all_stops test c.args.filters.now c.loop-filter.filter-index c.filter-item.result _ c.loop-filter-test.true
    (ap test (sym c.filter-item.is) ∙ sym c.passes.ensures ∙ c.if-not-passes.true) c.loop-filter.invariant)

pub returns : goal.returns
returns c =
    let test = λ (f : Filter). is_newer c.args.last_run f.is_added (slice_get f.column.now.cells c.args.place) in
    sym (c.loop-filter.invariant ∙ ap (list_all test) (drop_all c.loop-filter.filter-index c.args.filters.now c.loop-filter-test.false))
