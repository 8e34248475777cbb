use Rattle.std.proofs.Common.{ℕ, List, Option, Vec, sym, subst, ◌∙◌, ap}
use Rattle.std.specs.declared.alloc.Global.{Global}
use Rattle.cycle_search.specs.Cycles.{TellsRound}
use Rattle.model.specs.declarations.Edges.{IsReportedCycle}
use Rattle.system_set.specs.Pairs.{pairs_of, hierarchy_of}
use Rattle.system_set.specs.Nodes.{items_among}
use Rattle.system_set.proofs.Nodes.{steps_inside, tells_none, tells_some}
use Rattle.system_set.proofs.cycles.cycle_of_items.Goals as goal

pub find_cycle-requires : goal.find_cycle-requires
find_cycle-requires c =
    steps_inside c.args.sets c.args.items c.in_ok-count.count c.args.pairs.now c.args.orders.now c.as_slice.result.now c.requires.placed c.requires.between
    (c.as_slice.ensures.value ∙ c.in_ok-steps.ensures) c.in_ok-count.ensures

pub returns-in-None : goal.returns-in-None
returns-in-None c =
    let told = subst (λ (o : Option (Vec ℕ Global)). TellsRound c.as_slice.result.now o) c.in-None.is c.in_ok-find_cycle.ensures in
    tells_none c.args.sets c.args.items c.args.pairs.now c.args.orders.now c.as_slice.result.now (c.as_slice.ensures.value ∙ c.in_ok-steps.ensures) told

pub returns : goal.returns
returns c =
    let h = hierarchy_of c.args.sets c.args.items c.args.pairs.now in
    let told = subst (λ (o : Option (Vec ℕ Global)). TellsRound c.as_slice.result.now o) c.in-Some.is c.in_ok-find_cycle.ensures in
    let found : List ℕ = c.in_ok-items_in-in-Some.field-0.items in
    subst (λ (xs : List ℕ). IsReportedCycle h (pairs_of c.args.orders.now) xs) (sym (c.in_ok-items_in-in-Some.ensures ∙ ap (items_among c.args.items) c.as_slice-in-Some.ensures.value))
    (tells_some c.args.sets c.args.items c.args.pairs.now c.args.orders.now c.as_slice.result.now c.in-Some.nodes.items c.requires.placed c.requires.between c.requires.ranked
    c.requires.no_loop c.requires.no_crossing c.requires.apart (c.as_slice.ensures.value ∙ c.in_ok-steps.ensures) told.0 told.1)
