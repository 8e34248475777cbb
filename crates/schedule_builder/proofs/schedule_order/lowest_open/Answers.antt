use Rattle.std.proofs.Common.{◌≡◌, ◌+◌, ℕ, List, [], Option, false, get_or, refl, subst, sym, ap, ◌∙◌, arith}
use Rattle.std.proofs.lemmas.List.{get_or_default}
use Rattle.model.specs.access.Access.{no_params}
use Rattle.model.specs.steps.Schedule.{ScheduledSystem, level_of}
use Rattle.schedule_builder.specs.ScheduleOrder.{schedule_of, TellsLowestAmong, lower_level}
use Rattle.schedule_builder.proofs.ScheduleOrders.{lowest_more, lowest_all}
use Rattle.schedule_builder.proofs.schedule_order.lowest_open.Goals as goal

pub loop-number-init : goal.loop-number-init
loop-number-init c = λ m l. absurd (omega arith)

pub loop-number-preserved : goal.loop-number-preserved
loop-number-preserved c =
    let systems : List ScheduledSystem = c.args.systems.now in
    let placed = c.args.placed.now in
    let n : ℕ = c.loop-number.number in
    let level : c.level.result ≡ level_of (schedule_of systems []) n =
    c.level.ensures ∙ ap (λ (x : ScheduledSystem). x.level)
    (c.index-systems-number.is ∙ get_or_default systems n c.index-systems-number.result (record { params = no_params; predecessors = []; level = 0 }) (omega arith)) in
    subst (λ (o : Option ℕ). TellsLowestAmong systems placed (n + 1) o) (sym (c.lower-lowest.ensures ∙ ap (lower_level c.loop-number.lowest (get_or placed n false)) level))
    (lowest_more systems placed n c.loop-number.lowest (get_or placed n false) refl c.loop-number.invariant)

pub returns : goal.returns
returns c = lowest_all c.args.systems.now c.args.placed.now c.loop-number.number c.loop-number.lowest (omega arith) c.loop-number.invariant
