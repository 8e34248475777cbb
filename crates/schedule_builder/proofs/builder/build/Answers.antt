use Rattle.std.proofs.Common.{◌≡◌, ℕ, ◌^◌, ◌≤◌, List, ap, [], map, length, true, arith, sym, subst, ◌∙◌}
use Rattle.std.specs.List.{All}
use Rattle.model.specs.Lists.{has}
use Rattle.model.specs.access.Access.{Params}
use Rattle.model.specs.declarations.Declarations.{Declared, DeclaredSystem}
use Rattle.model.specs.steps.Schedule.{Schedule, ScheduledSystem, ScheduledCondition}
use Rattle.model.specs.declarations.ScheduleOrder.{IsScheduleOrder, HasLevels, HasDeclaredSystems, HasDeclaredEdges, HasDeclaredConditions, HasDeclaredSilences}
use Rattle.cycle_search.specs.declared.order.Order.{Order}
use Rattle.cycle_search.specs.Orders.{IsBetween}
use Rattle.cycle_search.specs.Cycles.{IsRankable}
use Rattle.schedule_builder.specs.ScheduleOrder.{schedule_with, schedule_of, system_with, AreScheduled, IsEdge, HasSourcesBelow, AreRising}
use Rattle.schedule_builder.specs.Levels.{deferring_before, AreLevels, AreLevelledBy, AreSyncs}
use Rattle.schedule_builder.proofs.Assembly.{scheduled_as, edges_rankable, edges_from, edges_small, flat_rises, is_built, are_apart, declared_systems, declared_edges}
use Rattle.schedule_builder.proofs.Levelling.{deferring_within, levelled_scheduled, levels_rise, levels_below, has_levels, order_with}
use Rattle.schedule_builder.proofs.Askings.{asked_all, owners_count, conditions_declared, covered_known, asks_reading, has_silences}
use Rattle.std.proofs.lemmas.Result.{IfOk-from_err}
use Rattle.schedule_builder.proofs.Exits.{told, told_memory}
use Rattle.schedule_builder.proofs.builder.build.Goals as goal

-- the systems of the schedule are those of the declared ones
are_scheduled : (edges edges' : List Order) (systems : List DeclaredSystem) (params : List Params) (built : List ScheduledSystem) → edges' ≡ edges → params ≡ map (λ s. s.params) systems → AreScheduled edges' [] (map system_with params) built → AreScheduled edges [] systems built
are_scheduled edges edges' systems params built e f a =
    scheduled_as edges systems built (subst (λ (ps : List Params). AreScheduled edges [] (map system_with ps) built) f (subst (λ (xs : List Order). AreScheduled xs [] (map system_with params) built) e a))

pub scheduled-requires : goal.scheduled-requires
scheduled-requires c =
    let d : Declared = c.args.desc in
    let edges : List Order = c.in_ok-found.found.edges.items in
    let all = c.in_ok-found.ensures.edges in
    subst (λ (xs : List Order). All (IsBetween (2 ^ 32)) xs) (sym c.as_slice.ensures.value) (edges_small edges d all c.in_ok-found.ensures.buildable.within.systems)

pub found_levels-requires-clause-few : goal.found_levels-requires-clause-few
found_levels-requires-clause-few c =
    let d : Declared = c.args.desc in
    let edges : List Order = c.in_ok-found.found.edges.items in
    let plain : List Order = c.in_ok-found.found.plain.items in
    let all = c.in_ok-found.ensures.edges in
    let plainly = c.in_ok-found.ensures.plain in
    let flat : List ScheduledSystem = c.in_ok-flat.flat.items in
    let a : AreScheduled edges [] d.systems flat = are_scheduled edges c.as_slice.result.now d.systems c.in_ok-parts.parts.params.items flat c.as_slice.ensures.value c.in_ok-parts.ensures.params c.in_ok-flat.ensures in
    let same : c.as_slice-2.result.now ≡ flat = c.as_slice-2.ensures.value in rw same (omega (arith, a.long, c.in_ok-found.ensures.buildable.within.systems))

pub found_levels-requires-clause-falls : goal.found_levels-requires-clause-falls
found_levels-requires-clause-falls c =
    let d : Declared = c.args.desc in
    let edges : List Order = c.in_ok-found.found.edges.items in
    let all = c.in_ok-found.ensures.edges in
    let flat : List ScheduledSystem = c.in_ok-flat.flat.items in
    let a : AreScheduled edges [] d.systems flat = are_scheduled edges c.as_slice.result.now d.systems c.in_ok-parts.parts.params.items flat c.as_slice.ensures.value c.in_ok-parts.ensures.params c.in_ok-flat.ensures in
    subst (λ (xs : List ScheduledSystem). IsRankable (IsEdge xs)) (sym c.as_slice-2.ensures.value) (edges_rankable edges d flat all a c.in_ok-found.ensures.rankable)

pub found_levels-requires-clause-sources : goal.found_levels-requires-clause-sources
found_levels-requires-clause-sources c =
    let d : Declared = c.args.desc in
    let edges : List Order = c.in_ok-found.found.edges.items in
    let all = c.in_ok-found.ensures.edges in
    let flat : List ScheduledSystem = c.in_ok-flat.flat.items in
    let a : AreScheduled edges [] d.systems flat = are_scheduled edges c.as_slice.result.now d.systems c.in_ok-parts.parts.params.items flat c.as_slice.ensures.value c.in_ok-parts.ensures.params c.in_ok-flat.ensures in
    subst (λ (xs : List ScheduledSystem). HasSourcesBelow xs) (sym c.as_slice-2.ensures.value) (edges_from edges d flat all a)

pub found_levels-requires-clause-rising : goal.found_levels-requires-clause-rising
found_levels-requires-clause-rising c =
    let d : Declared = c.args.desc in
    let edges : List Order = c.in_ok-found.found.edges.items in
    let flat : List ScheduledSystem = c.in_ok-flat.flat.items in
    let a : AreScheduled edges [] d.systems flat = are_scheduled edges c.as_slice.result.now d.systems c.in_ok-parts.parts.params.items flat c.as_slice.ensures.value c.in_ok-parts.ensures.params c.in_ok-flat.ensures in
    subst (λ (xs : List ScheduledSystem). AreRising xs) (sym c.as_slice-2.ensures.value) (flat_rises edges d.systems flat a)

pub found_levels-requires-clause-within : goal.found_levels-requires-clause-within
found_levels-requires-clause-within c =
    let d : Declared = c.args.desc in
    let edges : List Order = c.in_ok-found.found.edges.items in
    let plain : List Order = c.in_ok-found.found.plain.items in
    let all = c.in_ok-found.ensures.edges in
    let plainly = c.in_ok-found.ensures.plain in
    let flat : List ScheduledSystem = c.in_ok-flat.flat.items in
    let a : AreScheduled edges [] d.systems flat = are_scheduled edges c.as_slice.result.now d.systems c.in_ok-parts.parts.params.items flat c.as_slice.ensures.value c.in_ok-parts.ensures.params c.in_ok-flat.ensures in
    subst (λ (xs : List ScheduledSystem). (m n : ℕ) → has m (deferring_before xs c.as_slice-3.result.now n) ≡ true → IsEdge xs m n) (sym c.as_slice-2.ensures.value)
    (subst (λ (xs : List Order). (m n : ℕ) → has m (deferring_before flat xs n) ≡ true → IsEdge flat m n) (sym c.as_slice-3.ensures.value) (deferring_within edges plain d flat all a plainly))

pub syncs_of-syncs-requires : goal.syncs_of-syncs-requires
syncs_of-syncs-requires c = λ n. rw c.as_slice-4.ensures.value (c.in_ok-levels.ensures.low n)

pub order_of-requires-clause-few : goal.order_of-requires-clause-few
order_of-requires-clause-few c =
    let d : Declared = c.args.desc in
    let edges : List Order = c.in_ok-found.found.edges.items in
    let plain : List Order = c.in_ok-found.found.plain.items in
    let all = c.in_ok-found.ensures.edges in
    let plainly = c.in_ok-found.ensures.plain in
    let flat : List ScheduledSystem = c.in_ok-flat.flat.items in
    let a : AreScheduled edges [] d.systems flat = are_scheduled edges c.as_slice.result.now d.systems c.in_ok-parts.parts.params.items flat c.as_slice.ensures.value c.in_ok-parts.ensures.params c.in_ok-flat.ensures in
    let levels : List ℕ = c.in_ok-levels.levels.items in
    let found : AreLevels flat plain levels =
    subst (λ (xs : List ScheduledSystem). AreLevels xs plain levels) c.as_slice-2.ensures.value (subst (λ (xs : List Order). AreLevels c.as_slice-2.result.now xs levels) c.as_slice-3.ensures.value c.in_ok-levels.ensures) in
    let syncs : AreSyncs levels c.syncs_of-syncs.result = subst (λ (xs : List ℕ). AreSyncs xs c.syncs_of-syncs.result) c.as_slice-4.ensures.value c.syncs_of-syncs.ensures.syncs in
    let systems : List ScheduledSystem = c.in_ok-systems.systems.items in
    let b : AreScheduled edges levels d.systems systems =
    levelled_scheduled edges levels d.systems flat systems a (subst (λ (xs : List ℕ). AreLevelledBy xs flat systems) c.as_slice-5.ensures.value c.in_ok-systems.ensures) in
    let same : c.as_slice-6.result.now ≡ systems = c.as_slice-6.ensures.value in rw same (omega (arith, b.long, c.in_ok-found.ensures.buildable.within.systems))

pub order_of-requires-clause-falls : goal.order_of-requires-clause-falls
order_of-requires-clause-falls c =
    let d : Declared = c.args.desc in
    let edges : List Order = c.in_ok-found.found.edges.items in
    let plain : List Order = c.in_ok-found.found.plain.items in
    let all = c.in_ok-found.ensures.edges in
    let flat : List ScheduledSystem = c.in_ok-flat.flat.items in
    let a : AreScheduled edges [] d.systems flat = are_scheduled edges c.as_slice.result.now d.systems c.in_ok-parts.parts.params.items flat c.as_slice.ensures.value c.in_ok-parts.ensures.params c.in_ok-flat.ensures in
    let levels : List ℕ = c.in_ok-levels.levels.items in
    let found : AreLevels flat plain levels =
    subst (λ (xs : List ScheduledSystem). AreLevels xs plain levels) c.as_slice-2.ensures.value (subst (λ (xs : List Order). AreLevels c.as_slice-2.result.now xs levels) c.as_slice-3.ensures.value c.in_ok-levels.ensures) in
    let systems : List ScheduledSystem = c.in_ok-systems.systems.items in
    let b : AreScheduled edges levels d.systems systems =
    levelled_scheduled edges levels d.systems flat systems a (subst (λ (xs : List ℕ). AreLevelledBy xs flat systems) c.as_slice-5.ensures.value c.in_ok-systems.ensures) in
    subst (λ (xs : List ScheduledSystem). IsRankable (IsEdge xs)) (sym c.as_slice-6.ensures.value) (edges_rankable edges d systems all b c.in_ok-found.ensures.rankable)

pub order_of-requires-clause-sources : goal.order_of-requires-clause-sources
order_of-requires-clause-sources c =
    let d : Declared = c.args.desc in
    let edges : List Order = c.in_ok-found.found.edges.items in
    let plain : List Order = c.in_ok-found.found.plain.items in
    let all = c.in_ok-found.ensures.edges in
    let flat : List ScheduledSystem = c.in_ok-flat.flat.items in
    let a : AreScheduled edges [] d.systems flat = are_scheduled edges c.as_slice.result.now d.systems c.in_ok-parts.parts.params.items flat c.as_slice.ensures.value c.in_ok-parts.ensures.params c.in_ok-flat.ensures in
    let levels : List ℕ = c.in_ok-levels.levels.items in
    let found : AreLevels flat plain levels =
    subst (λ (xs : List ScheduledSystem). AreLevels xs plain levels) c.as_slice-2.ensures.value (subst (λ (xs : List Order). AreLevels c.as_slice-2.result.now xs levels) c.as_slice-3.ensures.value c.in_ok-levels.ensures) in
    let systems : List ScheduledSystem = c.in_ok-systems.systems.items in
    let b : AreScheduled edges levels d.systems systems =
    levelled_scheduled edges levels d.systems flat systems a (subst (λ (xs : List ℕ). AreLevelledBy xs flat systems) c.as_slice-5.ensures.value c.in_ok-systems.ensures) in
    subst (λ (xs : List ScheduledSystem). HasSourcesBelow xs) (sym c.as_slice-6.ensures.value) (edges_from edges d systems all b)

pub order_of-requires-clause-rising : goal.order_of-requires-clause-rising
order_of-requires-clause-rising c =
    let d : Declared = c.args.desc in
    let edges : List Order = c.in_ok-found.found.edges.items in
    let plain : List Order = c.in_ok-found.found.plain.items in
    let all = c.in_ok-found.ensures.edges in
    let plainly = c.in_ok-found.ensures.plain in
    let flat : List ScheduledSystem = c.in_ok-flat.flat.items in
    let a : AreScheduled edges [] d.systems flat = are_scheduled edges c.as_slice.result.now d.systems c.in_ok-parts.parts.params.items flat c.as_slice.ensures.value c.in_ok-parts.ensures.params c.in_ok-flat.ensures in
    let levels : List ℕ = c.in_ok-levels.levels.items in
    let found : AreLevels flat plain levels =
    subst (λ (xs : List ScheduledSystem). AreLevels xs plain levels) c.as_slice-2.ensures.value (subst (λ (xs : List Order). AreLevels c.as_slice-2.result.now xs levels) c.as_slice-3.ensures.value c.in_ok-levels.ensures) in
    let systems : List ScheduledSystem = c.in_ok-systems.systems.items in
    let b : AreScheduled edges levels d.systems systems =
    levelled_scheduled edges levels d.systems flat systems a (subst (λ (xs : List ℕ). AreLevelledBy xs flat systems) c.as_slice-5.ensures.value c.in_ok-systems.ensures) in
    subst (λ (xs : List ScheduledSystem). AreRising xs) (sym c.as_slice-6.ensures.value) (levels_rise edges plain d flat systems levels all a plainly found b)

pub of_parts-requires-clause-built : goal.of_parts-requires-clause-built
of_parts-requires-clause-built c =
    let d : Declared = c.args.desc in
    let edges : List Order = c.in_ok-found.found.edges.items in
    let plain : List Order = c.in_ok-found.found.plain.items in
    let all = c.in_ok-found.ensures.edges in
    let plainly = c.in_ok-found.ensures.plain in
    let flat : List ScheduledSystem = c.in_ok-flat.flat.items in
    let a : AreScheduled edges [] d.systems flat = are_scheduled edges c.as_slice.result.now d.systems c.in_ok-parts.parts.params.items flat c.as_slice.ensures.value c.in_ok-parts.ensures.params c.in_ok-flat.ensures in
    let levels : List ℕ = c.in_ok-levels.levels.items in
    let found : AreLevels flat plain levels =
    subst (λ (xs : List ScheduledSystem). AreLevels xs plain levels) c.as_slice-2.ensures.value (subst (λ (xs : List Order). AreLevels c.as_slice-2.result.now xs levels) c.as_slice-3.ensures.value c.in_ok-levels.ensures) in
    let syncs : AreSyncs levels c.syncs_of-syncs.result = subst (λ (xs : List ℕ). AreSyncs xs c.syncs_of-syncs.result) c.as_slice-4.ensures.value c.syncs_of-syncs.ensures.syncs in
    let systems : List ScheduledSystem = c.in_ok-systems.systems.items in
    let b : AreScheduled edges levels d.systems systems =
    levelled_scheduled edges levels d.systems flat systems a (subst (λ (xs : List ℕ). AreLevelledBy xs flat systems) c.as_slice-5.ensures.value c.in_ok-systems.ensures) in
    let order : List ℕ = c.in_ok-order.order.items in
    let ordered : IsScheduleOrder (schedule_of systems order) = subst (λ (xs : List ScheduledSystem). IsScheduleOrder (schedule_of xs order)) c.as_slice-6.ensures.value c.in_ok-order.ensures.order in
    let conditions : List ScheduledCondition = c.in_ok-conditions.conditions.items in
    let s : Schedule = schedule_with systems conditions c.syncs_of-syncs.result order c.in_ok-found.found.silences.items in
    let declared : HasDeclaredConditions d s = conditions_declared d c.in_ok-found.found.coverage.items c.as_slice-7.result.now c.in_ok-parts.parts.conditions.items conditions systems c.syncs_of-syncs.result order c.in_ok-found.found.silences.items c.in_ok-found.ensures.coverage c.as_slice-7.ensures.value c.in_ok-parts.ensures.conditions c.in_ok-conditions.ensures in
    let few : length conditions ≤ 512 = omega (arith, declared.count, c.in_ok-found.ensures.buildable.within.conditions) in
    is_built edges d systems conditions c.syncs_of-syncs.result order c.in_ok-found.found.silences.items all b c.in_ok-found.ensures.buildable.within.systems few ordered (levels_rise edges plain d flat systems levels all a plainly found b)
    (levels_below edges d systems levels c.syncs_of-syncs.result b (found.long ∙ a.long) syncs) c.syncs_of-syncs.ensures.few (covered_known d s declared) (asks_reading d s declared c.in_ok-found.ensures.buildable.reading)

pub of_parts-requires-clause-apart : goal.of_parts-requires-clause-apart
of_parts-requires-clause-apart c =
    let d : Declared = c.args.desc in
    let edges : List Order = c.in_ok-found.found.edges.items in
    let plain : List Order = c.in_ok-found.found.plain.items in
    let flat : List ScheduledSystem = c.in_ok-flat.flat.items in
    let a : AreScheduled edges [] d.systems flat = are_scheduled edges c.as_slice.result.now d.systems c.in_ok-parts.parts.params.items flat c.as_slice.ensures.value c.in_ok-parts.ensures.params c.in_ok-flat.ensures in
    let levels : List ℕ = c.in_ok-levels.levels.items in
    let found : AreLevels flat plain levels =
    subst (λ (xs : List ScheduledSystem). AreLevels xs plain levels) c.as_slice-2.ensures.value (subst (λ (xs : List Order). AreLevels c.as_slice-2.result.now xs levels) c.as_slice-3.ensures.value c.in_ok-levels.ensures) in
    let systems : List ScheduledSystem = c.in_ok-systems.systems.items in
    let b : AreScheduled edges levels d.systems systems =
    levelled_scheduled edges levels d.systems flat systems a (subst (λ (xs : List ℕ). AreLevelledBy xs flat systems) c.as_slice-5.ensures.value c.in_ok-systems.ensures) in
    are_apart edges d systems b c.in_ok-found.ensures.buildable.no_self_conflict

pub returns-clause-systems : goal.returns-clause-systems
returns-clause-systems c =
    let d : Declared = c.args.desc in
    let edges : List Order = c.in_ok-found.found.edges.items in
    let plain : List Order = c.in_ok-found.found.plain.items in
    let flat : List ScheduledSystem = c.in_ok-flat.flat.items in
    let a : AreScheduled edges [] d.systems flat = are_scheduled edges c.as_slice.result.now d.systems c.in_ok-parts.parts.params.items flat c.as_slice.ensures.value c.in_ok-parts.ensures.params c.in_ok-flat.ensures in
    let levels : List ℕ = c.in_ok-levels.levels.items in
    let found : AreLevels flat plain levels =
    subst (λ (xs : List ScheduledSystem). AreLevels xs plain levels) c.as_slice-2.ensures.value (subst (λ (xs : List Order). AreLevels c.as_slice-2.result.now xs levels) c.as_slice-3.ensures.value c.in_ok-levels.ensures) in
    let systems : List ScheduledSystem = c.in_ok-systems.systems.items in
    let b : AreScheduled edges levels d.systems systems =
    levelled_scheduled edges levels d.systems flat systems a (subst (λ (xs : List ℕ). AreLevelledBy xs flat systems) c.as_slice-5.ensures.value c.in_ok-systems.ensures) in
    let order : List ℕ = c.in_ok-order.order.items in
    subst (λ (s : Schedule). HasDeclaredSystems d s) (sym c.in_ok-built.ensures) (declared_systems edges d systems order b)

pub returns-clause-edges : goal.returns-clause-edges
returns-clause-edges c =
    let d : Declared = c.args.desc in
    let edges : List Order = c.in_ok-found.found.edges.items in
    let plain : List Order = c.in_ok-found.found.plain.items in
    let all = c.in_ok-found.ensures.edges in
    let flat : List ScheduledSystem = c.in_ok-flat.flat.items in
    let a : AreScheduled edges [] d.systems flat = are_scheduled edges c.as_slice.result.now d.systems c.in_ok-parts.parts.params.items flat c.as_slice.ensures.value c.in_ok-parts.ensures.params c.in_ok-flat.ensures in
    let levels : List ℕ = c.in_ok-levels.levels.items in
    let found : AreLevels flat plain levels =
    subst (λ (xs : List ScheduledSystem). AreLevels xs plain levels) c.as_slice-2.ensures.value (subst (λ (xs : List Order). AreLevels c.as_slice-2.result.now xs levels) c.as_slice-3.ensures.value c.in_ok-levels.ensures) in
    let systems : List ScheduledSystem = c.in_ok-systems.systems.items in
    let b : AreScheduled edges levels d.systems systems =
    levelled_scheduled edges levels d.systems flat systems a (subst (λ (xs : List ℕ). AreLevelledBy xs flat systems) c.as_slice-5.ensures.value c.in_ok-systems.ensures) in
    let order : List ℕ = c.in_ok-order.order.items in
    subst (λ (s : Schedule). HasDeclaredEdges d s) (sym c.in_ok-built.ensures) (declared_edges edges d systems order all b)

pub returns-clause-levels : goal.returns-clause-levels
returns-clause-levels c =
    let d : Declared = c.args.desc in
    let edges : List Order = c.in_ok-found.found.edges.items in
    let plain : List Order = c.in_ok-found.found.plain.items in
    let all = c.in_ok-found.ensures.edges in
    let plainly = c.in_ok-found.ensures.plain in
    let flat : List ScheduledSystem = c.in_ok-flat.flat.items in
    let a : AreScheduled edges [] d.systems flat = are_scheduled edges c.as_slice.result.now d.systems c.in_ok-parts.parts.params.items flat c.as_slice.ensures.value c.in_ok-parts.ensures.params c.in_ok-flat.ensures in
    let levels : List ℕ = c.in_ok-levels.levels.items in
    let found : AreLevels flat plain levels =
    subst (λ (xs : List ScheduledSystem). AreLevels xs plain levels) c.as_slice-2.ensures.value (subst (λ (xs : List Order). AreLevels c.as_slice-2.result.now xs levels) c.as_slice-3.ensures.value c.in_ok-levels.ensures) in
    let syncs : AreSyncs levels c.syncs_of-syncs.result = subst (λ (xs : List ℕ). AreSyncs xs c.syncs_of-syncs.result) c.as_slice-4.ensures.value c.syncs_of-syncs.ensures.syncs in
    let systems : List ScheduledSystem = c.in_ok-systems.systems.items in
    let b : AreScheduled edges levels d.systems systems =
    levelled_scheduled edges levels d.systems flat systems a (subst (λ (xs : List ℕ). AreLevelledBy xs flat systems) c.as_slice-5.ensures.value c.in_ok-systems.ensures) in
    let order : List ℕ = c.in_ok-order.order.items in
    subst (λ (s : Schedule). HasLevels d s) (sym c.in_ok-built.ensures) (has_levels {conditions = c.in_ok-conditions.conditions.items} {silences = c.in_ok-found.found.silences.items} edges plain d flat systems levels order c.syncs_of-syncs.result all a plainly c.in_ok-found.ensures.rankable found b syncs)

pub returns-clause-order : goal.returns-clause-order
returns-clause-order c =
    let d : Declared = c.args.desc in
    let edges : List Order = c.in_ok-found.found.edges.items in
    let plain : List Order = c.in_ok-found.found.plain.items in
    let flat : List ScheduledSystem = c.in_ok-flat.flat.items in
    let a : AreScheduled edges [] d.systems flat = are_scheduled edges c.as_slice.result.now d.systems c.in_ok-parts.parts.params.items flat c.as_slice.ensures.value c.in_ok-parts.ensures.params c.in_ok-flat.ensures in
    let levels : List ℕ = c.in_ok-levels.levels.items in
    let found : AreLevels flat plain levels =
    subst (λ (xs : List ScheduledSystem). AreLevels xs plain levels) c.as_slice-2.ensures.value (subst (λ (xs : List Order). AreLevels c.as_slice-2.result.now xs levels) c.as_slice-3.ensures.value c.in_ok-levels.ensures) in
    let systems : List ScheduledSystem = c.in_ok-systems.systems.items in
    let b : AreScheduled edges levels d.systems systems =
    levelled_scheduled edges levels d.systems flat systems a (subst (λ (xs : List ℕ). AreLevelledBy xs flat systems) c.as_slice-5.ensures.value c.in_ok-systems.ensures) in
    let order : List ℕ = c.in_ok-order.order.items in
    let ordered : IsScheduleOrder (schedule_of systems order) = subst (λ (xs : List ScheduledSystem). IsScheduleOrder (schedule_of xs order)) c.as_slice-6.ensures.value c.in_ok-order.ensures.order in
    subst (λ (s : Schedule). IsScheduleOrder s) (sym c.in_ok-built.ensures) (order_with {conditions = c.in_ok-conditions.conditions.items} {silences = c.in_ok-found.found.silences.items} systems c.syncs_of-syncs.result order ordered)

pub scheduled_conditions-requires : goal.scheduled_conditions-requires
scheduled_conditions-requires c =
    let d : Declared = c.args.desc in
    rw c.as_slice-7.ensures.value (c.in_ok-found.ensures.coverage.long ∙ (owners_count d ∙ sym (ap length (c.in_ok-parts.ensures.conditions ∙ asked_all d))))

pub returns-clause-conditions : goal.returns-clause-conditions
returns-clause-conditions c =
    let d : Declared = c.args.desc in
    let conditions : List ScheduledCondition = c.in_ok-conditions.conditions.items in
    subst (λ (s : Schedule). HasDeclaredConditions d s) (sym c.in_ok-built.ensures)
    (conditions_declared d c.in_ok-found.found.coverage.items c.as_slice-7.result.now c.in_ok-parts.parts.conditions.items conditions c.in_ok-systems.systems.items c.syncs_of-syncs.result c.in_ok-order.order.items c.in_ok-found.found.silences.items
    c.in_ok-found.ensures.coverage c.as_slice-7.ensures.value c.in_ok-parts.ensures.conditions c.in_ok-conditions.ensures)

pub returns-clause-silences : goal.returns-clause-silences
returns-clause-silences c =
    let d : Declared = c.args.desc in
    let edges : List Order = c.in_ok-found.found.edges.items in
    let flat : List ScheduledSystem = c.in_ok-flat.flat.items in
    let a : AreScheduled edges [] d.systems flat = are_scheduled edges c.as_slice.result.now d.systems c.in_ok-parts.parts.params.items flat c.as_slice.ensures.value c.in_ok-parts.ensures.params c.in_ok-flat.ensures in
    let levels : List ℕ = c.in_ok-levels.levels.items in
    let systems : List ScheduledSystem = c.in_ok-systems.systems.items in
    let b : AreScheduled edges levels d.systems systems =
    levelled_scheduled edges levels d.systems flat systems a (subst (λ (xs : List ℕ). AreLevelledBy xs flat systems) c.as_slice-5.ensures.value c.in_ok-systems.ensures) in
    subst (λ (s : Schedule). HasDeclaredSilences d s) (sym c.in_ok-built.ensures)
    (has_silences d systems c.in_ok-conditions.conditions.items c.syncs_of-syncs.result c.in_ok-order.order.items c.in_ok-found.found.silences.items b.long c.in_ok-found.ensures.silences)

pub returns-in_err-found : goal.returns-in_err-found
returns-in_err-found c =
    let failed = c.from_residual.ensures.0 in
    record {
      buildable = IfOk-from_err c.from_residual.result _ failed;
      systems = IfOk-from_err c.from_residual.result _ failed;
      edges = IfOk-from_err c.from_residual.result _ failed;
      levels = IfOk-from_err c.from_residual.result _ failed;
      order = IfOk-from_err c.from_residual.result _ failed;
      conditions = IfOk-from_err c.from_residual.result _ failed;
      silences = IfOk-from_err c.from_residual.result _ failed;
      refused = told c.from_residual.result c.args.desc c.in_err-found.field-0.0 c.from_residual.ensures.1 c.in_err-found.ensures.refused;
    }

pub returns-in_err-parts : goal.returns-in_err-parts
returns-in_err-parts c =
    let failed = c.from_residual-in_err-parts.ensures.0 in
    record {
      buildable = IfOk-from_err c.from_residual-in_err-parts.result _ failed;
      systems = IfOk-from_err c.from_residual-in_err-parts.result _ failed;
      edges = IfOk-from_err c.from_residual-in_err-parts.result _ failed;
      levels = IfOk-from_err c.from_residual-in_err-parts.result _ failed;
      order = IfOk-from_err c.from_residual-in_err-parts.result _ failed;
      conditions = IfOk-from_err c.from_residual-in_err-parts.result _ failed;
      silences = IfOk-from_err c.from_residual-in_err-parts.result _ failed;
      refused = told_memory c.from_residual-in_err-parts.result c.args.desc c.from_residual-in_err-parts.ensures.1;
    }

pub returns-in_err-flat : goal.returns-in_err-flat
returns-in_err-flat c =
    let failed = c.from_residual-in_err-flat.ensures.0 in
    record {
      buildable = IfOk-from_err c.from_residual-in_err-flat.result _ failed;
      systems = IfOk-from_err c.from_residual-in_err-flat.result _ failed;
      edges = IfOk-from_err c.from_residual-in_err-flat.result _ failed;
      levels = IfOk-from_err c.from_residual-in_err-flat.result _ failed;
      order = IfOk-from_err c.from_residual-in_err-flat.result _ failed;
      conditions = IfOk-from_err c.from_residual-in_err-flat.result _ failed;
      silences = IfOk-from_err c.from_residual-in_err-flat.result _ failed;
      refused = told_memory c.from_residual-in_err-flat.result c.args.desc c.from_residual-in_err-flat.ensures.1;
    }

pub returns-in_err-levels : goal.returns-in_err-levels
returns-in_err-levels c =
    let failed = c.from_residual-in_err-levels.ensures.0 in
    record {
      buildable = IfOk-from_err c.from_residual-in_err-levels.result _ failed;
      systems = IfOk-from_err c.from_residual-in_err-levels.result _ failed;
      edges = IfOk-from_err c.from_residual-in_err-levels.result _ failed;
      levels = IfOk-from_err c.from_residual-in_err-levels.result _ failed;
      order = IfOk-from_err c.from_residual-in_err-levels.result _ failed;
      conditions = IfOk-from_err c.from_residual-in_err-levels.result _ failed;
      silences = IfOk-from_err c.from_residual-in_err-levels.result _ failed;
      refused = told_memory c.from_residual-in_err-levels.result c.args.desc c.from_residual-in_err-levels.ensures.1;
    }

pub returns-in_err-systems : goal.returns-in_err-systems
returns-in_err-systems c =
    let failed = c.from_residual-in_err-systems.ensures.0 in
    record {
      buildable = IfOk-from_err c.from_residual-in_err-systems.result _ failed;
      systems = IfOk-from_err c.from_residual-in_err-systems.result _ failed;
      edges = IfOk-from_err c.from_residual-in_err-systems.result _ failed;
      levels = IfOk-from_err c.from_residual-in_err-systems.result _ failed;
      order = IfOk-from_err c.from_residual-in_err-systems.result _ failed;
      conditions = IfOk-from_err c.from_residual-in_err-systems.result _ failed;
      silences = IfOk-from_err c.from_residual-in_err-systems.result _ failed;
      refused = told_memory c.from_residual-in_err-systems.result c.args.desc c.from_residual-in_err-systems.ensures.1;
    }

pub returns-in_err-order : goal.returns-in_err-order
returns-in_err-order c =
    let failed = c.from_residual-in_err-order.ensures.0 in
    record {
      buildable = IfOk-from_err c.from_residual-in_err-order.result _ failed;
      systems = IfOk-from_err c.from_residual-in_err-order.result _ failed;
      edges = IfOk-from_err c.from_residual-in_err-order.result _ failed;
      levels = IfOk-from_err c.from_residual-in_err-order.result _ failed;
      order = IfOk-from_err c.from_residual-in_err-order.result _ failed;
      conditions = IfOk-from_err c.from_residual-in_err-order.result _ failed;
      silences = IfOk-from_err c.from_residual-in_err-order.result _ failed;
      refused = told_memory c.from_residual-in_err-order.result c.args.desc c.from_residual-in_err-order.ensures.1;
    }

pub returns-in_err-conditions : goal.returns-in_err-conditions
returns-in_err-conditions c =
    let failed = c.from_residual-in_err-conditions.ensures.0 in
    record {
      buildable = IfOk-from_err c.from_residual-in_err-conditions.result _ failed;
      systems = IfOk-from_err c.from_residual-in_err-conditions.result _ failed;
      edges = IfOk-from_err c.from_residual-in_err-conditions.result _ failed;
      levels = IfOk-from_err c.from_residual-in_err-conditions.result _ failed;
      order = IfOk-from_err c.from_residual-in_err-conditions.result _ failed;
      conditions = IfOk-from_err c.from_residual-in_err-conditions.result _ failed;
      silences = IfOk-from_err c.from_residual-in_err-conditions.result _ failed;
      refused = told_memory c.from_residual-in_err-conditions.result c.args.desc c.from_residual-in_err-conditions.ensures.1;
    }

pub returns-in_err-built : goal.returns-in_err-built
returns-in_err-built c =
    let failed = c.from_residual-in_err-built.ensures.0 in
    record {
      buildable = IfOk-from_err c.from_residual-in_err-built.result _ failed;
      systems = IfOk-from_err c.from_residual-in_err-built.result _ failed;
      edges = IfOk-from_err c.from_residual-in_err-built.result _ failed;
      levels = IfOk-from_err c.from_residual-in_err-built.result _ failed;
      order = IfOk-from_err c.from_residual-in_err-built.result _ failed;
      conditions = IfOk-from_err c.from_residual-in_err-built.result _ failed;
      silences = IfOk-from_err c.from_residual-in_err-built.result _ failed;
      refused = told_memory c.from_residual-in_err-built.result c.args.desc c.from_residual-in_err-built.ensures.1;
    }
