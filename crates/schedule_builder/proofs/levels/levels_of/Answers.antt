use Rattle.std.proofs.Common.{◌≡◌, ◌<◌, ◌≤◌, ℕ, List, [], length, get_or, ap, ◌∙◌, arith}
use Rattle.std.proofs.lemmas.List.{get_or_default}
use Rattle.model.specs.access.Access.{no_params}
use Rattle.model.specs.steps.Schedule.{ScheduledSystem, system_at}
use Rattle.schedule_builder.specs.ScheduleOrder.{schedule_of}
use Rattle.schedule_builder.proofs.LevelSteps.{levels_none, levels_more, levels_all, next_known, greatest_as}
use Rattle.schedule_builder.proofs.levels.levels_of.Goals as goal

pub loop-number-init : goal.loop-number-init
loop-number-init c = levels_none c.args.systems.now c.args.plain.now c.args.order.now c.in_ok-levels.levels.items c.in_ok-levels.ensures.long c.in_ok-levels.ensures.zero

pub bounds-systems-number : goal.bounds-systems-number
bounds-systems-number c = next_known c.args.systems.now c.args.order.now c.loop-number.number-index 0 (omega arith) c.requires.order

pub greatest-level-requires-clause-low : goal.greatest-level-requires-clause-low
greatest-level-requires-clause-low c = λ n. let low : get_or c.loop-number.levels.items n 0 ≤ c.loop-number.number-index = c.loop-number.invariant.low n in rw c.as_slice.ensures.value (omega (arith, low, c.requires.short, c.requires.few))

pub greatest-requires-clause-low : goal.greatest-requires-clause-low
greatest-requires-clause-low c = λ n. let low : get_or c.loop-number.levels.items n 0 ≤ c.loop-number.number-index = c.loop-number.invariant.low n in rw c.as_slice-in-loop-number-2.ensures.value (omega (arith, low, c.requires.short, c.requires.few))

pub index_mut-requires : goal.index_mut-requires
index_mut-requires c =
    let known : get_or c.args.order.now c.loop-number.number-index 0 < length c.args.systems.now = next_known c.args.systems.now c.args.order.now c.loop-number.number-index 0 (omega arith) c.requires.order in
    let long : length c.loop-number.levels.items ≡ length c.args.systems.now = c.loop-number.invariant.long in
    omega (arith, c.loop-number.levels.ok)

pub loop-number-preserved : goal.loop-number-preserved
loop-number-preserved c =
    let systems : List ScheduledSystem = c.args.systems.now in
    let i : ℕ = c.loop-number.number-index in
    let n : ℕ = get_or c.args.order.now i 0 in
    let known : n < length systems = next_known systems c.args.order.now i 0 (omega arith) c.requires.order in
    let read : c.predecessors-predecessors.result.now ≡ (system_at (schedule_of systems []) n).predecessors =
    c.predecessors-predecessors.ensures ∙ ap (λ (x : ScheduledSystem). x.predecessors)
    (c.index-systems-number.is ∙ get_or_default systems n c.index-systems-number.result (record { params = no_params; predecessors = []; level = 0 }) known) in
    levels_more systems c.args.plain.now c.args.order.now c.loop-number.levels.items i 0 c.greatest-level.result c.greatest.result (omega arith) c.requires.order c.requires.sources c.requires.within c.loop-number.invariant
    (greatest_as 0 _ _ _ _ 0 c.greatest-level.result read c.as_slice.ensures.value c.greatest-level.ensures)
    (greatest_as c.greatest-level.result _ _ _ _ 1 c.greatest.result (c.as_slice-in-loop-number.ensures.value ∙ c.in_ok-deferring.ensures) c.as_slice-in-loop-number-2.ensures.value c.greatest.ensures)

pub returns : goal.returns
returns c = levels_all c.args.systems.now c.args.plain.now c.args.order.now c.loop-number.levels.items c.loop-number.number-index (omega arith) (omega (arith, c.requires.short, c.requires.few)) c.requires.order c.loop-number.invariant
