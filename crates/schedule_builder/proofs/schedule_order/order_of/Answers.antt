use Rattle.std.proofs.Common.{◌≡◌, ℕ, ◌<◌, ◌+◌, ◌++◌, ◌∷◌, [], List, Bool, length, get_or, not, true, false, arith, subst, ◌∙◌}
use Rattle.std.specs.List.{count_by}
use Rattle.std.proofs.lemmas.List.{length-set, length_push}
use Rattle.std.proofs.Math.ListN.{set}
use Rattle.model.specs.steps.Schedule.{ScheduledSystem}
use Rattle.schedule_builder.specs.ScheduleOrder.{can_place, IsLowest, IsNextOpen}
use Rattle.cycle_search.proofs.Walks.{seen_more, unseen_less}
use Rattle.schedule_builder.proofs.ScheduleOrders.{next_is, sequence_more, schedule_order, never_stuck}
use Rattle.schedule_builder.proofs.schedule_order.order_of.Goals as goal

pub unreachable-requires : goal.unreachable-requires
unreachable-requires c =
    let systems : List ScheduledSystem = c.args.systems.now in
    let placed : List Bool = c.loop-lowest.placed.items in
    let lowest : ℕ = c.in-Some.lowest in
    let low : IsLowest systems placed (length systems) lowest = subst (λ (xs : List Bool). IsLowest systems xs (length systems) lowest) c.as_slice.ensures.value c.in-Some.ensures in
    let none : (k : ℕ) → k < length systems → can_place systems placed lowest k ≡ false =
    λ k l. subst (λ (xs : List Bool). can_place systems xs lowest k ≡ false) c.as_slice-in-loop-lowest.ensures.value (c.in_default-next_placed.ensures.none k l) in
    never_stuck systems placed lowest c.requires.falls c.requires.sources c.requires.rising low none

pub loop-lowest-preserved : goal.loop-lowest-preserved
loop-lowest-preserved c =
    let systems : List ScheduledSystem = c.args.systems.now in
    let placed : List Bool = c.loop-lowest.placed.items in
    let order : List ℕ = c.loop-lowest.order.items in
    let lowest : ℕ = c.in-Some.lowest in
    let n : ℕ = c.in-Some-next_placed.number in
    let inv = c.loop-lowest.invariant in
    let low : IsLowest systems placed (length systems) lowest = subst (λ (xs : List Bool). IsLowest systems xs (length systems) lowest) c.as_slice.ensures.value c.in-Some.ensures in
    let same = c.as_slice-in-loop-lowest.ensures.value in
    let found = c.in-Some-next_placed.ensures.found in
    let can : can_place systems placed lowest n ≡ true = subst (λ (xs : List Bool). can_place systems xs lowest n ≡ true) same found.1 in
    let below : (k : ℕ) → k < n → can_place systems placed lowest k ≡ false = λ k l. subst (λ (xs : List Bool). can_place systems xs lowest k ≡ false) same (found.2 k l) in
    let next : IsNextOpen systems order n = next_is systems placed order lowest n inv.placed low found.0 can below in
    let fresh : get_or placed n false ≡ false = inv.placed n ∙ next.is_open.open_yet in
    let inside : n < length placed = omega (arith, inv.long, found.0) in
    let less : count_by not (set placed n true) + 1 ≡ count_by not placed = unseen_less placed n inside fresh in
    let pushed : c.push.new.self.items ≡ order ++ n ∷ [] = c.in_ok-push.ensures.items in
    rw pushed (record {
      long = length-set placed n true ∙ inv.long;
      placed = seen_more placed order n inside inv.placed;
      sequence = sequence_more systems order n inv.sequence next;
      room = omega (arith, inv.room, less, length_push order n);
    })

pub returns-in_default-clause-order : goal.returns-in_default-clause-order
returns-in_default-clause-order c =
    let systems : List ScheduledSystem = c.args.systems.now in
    let placed : List Bool = c.loop-lowest.placed.items in
    let inv = c.loop-lowest.invariant in
    let all : (k : ℕ) → k < length systems → get_or placed k false ≡ true = λ k l. subst (λ (xs : List Bool). get_or xs k false ≡ true) c.as_slice.ensures.value (c.in_default.ensures k l) in
    schedule_order systems placed c.loop-lowest.order.items c.requires.sources inv.placed inv.sequence all

pub returns-in_default-clause-short : goal.returns-in_default-clause-short
returns-in_default-clause-short c = omega (arith, c.loop-lowest.invariant.room)
