use Rattle.std.proofs.Common.{◌≡◌, ℕ, ◌^◌, ◌<◌, List, arith, length, subst, sym, ap, ◌∙◌}
use Rattle.std.specs.List.{All}
use Rattle.std.proofs.lemmas.Result.{IfOk-from_err}
use Rattle.model.specs.declarations.Declarations.{Declared, items_of, hierarchy_of, declared_orders, plain_orders, declared_silences}
use Rattle.model.specs.Lists.{IsIn}
use Rattle.model.specs.declarations.Hierarchy.{Hierarchy}
use Rattle.cycle_search.specs.declared.order.Order.{Order}
use Rattle.cycle_search.specs.Orders.{IsBetween}
use Rattle.system_set.specs.Pairs.{pairs_of}
use Rattle.system_set.specs.Edges.{AreEdges}
use Rattle.schedule_builder.specs.Asked.{AreSilences}
use Rattle.schedule_builder.proofs.Orderings.{between_of, told_of}
use Rattle.schedule_builder.proofs.Assembly.{items_count}
use Rattle.schedule_builder.proofs.Askings.{declared_silences_of, small_edges}
use Rattle.schedule_builder.proofs.builder.relations_of.Goals as goal

-- orders are of items
within : (d : Declared) (h : Hierarchy) (orders slice : List Order) (ps : List (ℕ × ℕ)) → h ≡ hierarchy_of d → slice ≡ orders → pairs_of orders ≡ ps → ((m n : ℕ) → IsIn (m, n) ps → (m < length (items_of d)) × (n < length (items_of d))) → All (IsBetween h.items) slice
within d h orders slice ps same read are known =
    subst (λ (x : Hierarchy). All (IsBetween x.items) slice) (sym same) (subst (λ (xs : List Order). All (IsBetween (length (items_of d))) xs) (sym read) (between_of (length (items_of d)) orders ps are known))

pub edges-requires : goal.edges-requires
edges-requires c = within c.args.desc.now c.args.hierarchy.now c.args.resolved.now.orders.items c.as_slice.result.now (declared_orders c.args.desc.now) c.requires.hierarchy c.as_slice.ensures.value c.requires.declared.ordered c.requires.whole.ordered

pub edges-requires-2 : goal.edges-requires-2
edges-requires-2 c = within c.args.desc.now c.args.hierarchy.now c.args.resolved.now.plain.items c.as_slice-2.result.now (plain_orders c.args.desc.now) c.requires.hierarchy c.as_slice-2.ensures.value c.requires.declared.plainly c.requires.whole.plainly

pub edges-requires-3 : goal.edges-requires-3
edges-requires-3 c = within c.args.desc.now c.args.hierarchy.now c.args.resolved.now.silences.items c.as_slice-4.result.now (declared_silences c.args.desc.now) c.requires.hierarchy c.as_slice-4.ensures.value c.requires.declared.silenced c.requires.whole.silenced

-- the pairs of systems that may be ambiguous
silenced : (d : Declared) (h : Hierarchy) (orders slice pairs : List Order) → h ≡ hierarchy_of d → slice ≡ orders → pairs_of orders ≡ declared_silences d → AreEdges h (pairs_of slice) pairs → AreEdges (hierarchy_of d) (declared_silences d) pairs
silenced d h orders slice pairs same read are edges = told_of (λ x ps. AreEdges x ps pairs) h (hierarchy_of d) (pairs_of slice) (declared_silences d) same (ap pairs_of read ∙ are) edges

pub silences_of-requires : goal.silences_of-requires
silences_of-requires c =
    let d = c.args.desc.now in
    let pairs : List Order = c.in_ok-pairs.pairs.items in
    let edges = silenced d c.args.hierarchy.now c.args.resolved.now.silences.items c.as_slice-4.result.now pairs c.requires.hierarchy c.as_slice-4.ensures.value c.requires.declared.silenced c.in_ok-pairs.ensures in
    let few : length (items_of d) < 2 ^ 32 = omega (arith, items_count d, c.requires.few_sets, c.requires.few_systems) in
    subst (λ (xs : List Order). All (IsBetween (2 ^ 32)) xs) (sym c.as_slice-5.ensures.value) (small_edges (hierarchy_of d) (declared_silences d) pairs few edges)

pub returns-clause-silences : goal.returns-clause-silences
returns-clause-silences c =
    let d = c.args.desc.now in
    let pairs : List Order = c.in_ok-pairs.pairs.items in
    let edges = silenced d c.args.hierarchy.now c.args.resolved.now.silences.items c.as_slice-4.result.now pairs c.requires.hierarchy c.as_slice-4.ensures.value c.requires.declared.silenced c.in_ok-pairs.ensures in
    let count : length c.systems.result.now ≡ length d.systems = ap length c.systems.ensures in
    declared_silences_of d pairs c.in_ok-silences.silences.items edges
    (subst (λ (k : ℕ). AreSilences k pairs c.in_ok-silences.silences.items) count (subst (λ (xs : List Order). AreSilences (length c.systems.result.now) xs c.in_ok-silences.silences.items) c.as_slice-5.ensures.value c.in_ok-silences.ensures))

pub returns-in_err-owners : goal.returns-in_err-owners
returns-in_err-owners c =
    let failed = c.from_residual.ensures.0 in
    record { edges = IfOk-from_err c.from_residual.result _ failed; plain = IfOk-from_err c.from_residual.result _ failed; coverage = IfOk-from_err c.from_residual.result _ failed; silences = IfOk-from_err c.from_residual.result _ failed }

pub returns-in_err-edges : goal.returns-in_err-edges
returns-in_err-edges c =
    let failed = c.from_residual-in_err-edges.ensures.0 in
    record { edges = IfOk-from_err c.from_residual-in_err-edges.result _ failed; plain = IfOk-from_err c.from_residual-in_err-edges.result _ failed; coverage = IfOk-from_err c.from_residual-in_err-edges.result _ failed; silences = IfOk-from_err c.from_residual-in_err-edges.result _ failed }

pub returns-in_err-plain : goal.returns-in_err-plain
returns-in_err-plain c =
    let failed = c.from_residual-in_err-plain.ensures.0 in
    record { edges = IfOk-from_err c.from_residual-in_err-plain.result _ failed; plain = IfOk-from_err c.from_residual-in_err-plain.result _ failed; coverage = IfOk-from_err c.from_residual-in_err-plain.result _ failed; silences = IfOk-from_err c.from_residual-in_err-plain.result _ failed }

pub returns-in_err-coverage : goal.returns-in_err-coverage
returns-in_err-coverage c =
    let failed = c.from_residual-in_err-coverage.ensures.0 in
    record { edges = IfOk-from_err c.from_residual-in_err-coverage.result _ failed; plain = IfOk-from_err c.from_residual-in_err-coverage.result _ failed; coverage = IfOk-from_err c.from_residual-in_err-coverage.result _ failed; silences = IfOk-from_err c.from_residual-in_err-coverage.result _ failed }

pub returns-in_err-pairs : goal.returns-in_err-pairs
returns-in_err-pairs c =
    let failed = c.from_residual-in_err-pairs.ensures.0 in
    record { edges = IfOk-from_err c.from_residual-in_err-pairs.result _ failed; plain = IfOk-from_err c.from_residual-in_err-pairs.result _ failed; coverage = IfOk-from_err c.from_residual-in_err-pairs.result _ failed; silences = IfOk-from_err c.from_residual-in_err-pairs.result _ failed }

pub returns-in_err-silences : goal.returns-in_err-silences
returns-in_err-silences c =
    let failed = c.from_residual-in_err-silences.ensures.0 in
    record { edges = IfOk-from_err c.from_residual-in_err-silences.result _ failed; plain = IfOk-from_err c.from_residual-in_err-silences.result _ failed; coverage = IfOk-from_err c.from_residual-in_err-silences.result _ failed; silences = IfOk-from_err c.from_residual-in_err-silences.result _ failed }
