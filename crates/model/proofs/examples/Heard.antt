-- A settled schedule with a condition and an event, run twice in two orders: one system sends, a second one counts, and a third one counts where
-- a condition hears what was sent. What the two runs leave in one order differs in stamps and last runs from what they leave in the
-- other, and agrees with it.
use Rattle.std.specs.Option.{is_some}
use Rattle.std.proofs.Common.{option_map, ◌≡◌, ◌≢◌, ◌⊎◌, ℕ, zero, suc, ◌<◌, ℤ, pos, true, false, List, [], ◌∷◌, ◌++◌, length, get_or, Option, Some, None, Ok, Result, inl, inr, refl, sym, subst, arith, true≢false}
use Rattle.model.specs.declared.steps.Step.{Step}
use Rattle.model.specs.declared.steps.Step.TheVariants.{Cond, Start, Finish, Sync}
use Rattle.model.specs.Lists.{has, IsIn}
use Rattle.model.specs.state.State.{Entity as Id, State, Resource, Memory, EventQueue, empty_queue, no_memory}
use Rattle.model.specs.runs.RunState.{body_of, memory_of_system}
use Rattle.model.specs.access.Access.{Params, no_params}
use Rattle.model.specs.access.Query.{Term, writes}
use Rattle.model.specs.access.Condition.Condition.{OnEvent}
use Rattle.model.specs.access.Conflict.{Conflict}
use Rattle.model.specs.shown.Input.{Shown, shown}
use Rattle.model.specs.shown.Outcome.{Outcome, BodyMeaning, IsWithin, untouched}
use Rattle.model.specs.steps.Schedule.{Schedule, ScheduledSystem, params_of, access_of, has_edge, level_of, covers}
use Rattle.model.specs.steps.Built.{IsBuilt}
use Rattle.model.specs.steps.Ambiguity.{HasNoFilter, IsMember, AmbiguousCondition, Before, Settled}
use Rattle.model.specs.steps.Ambiguity.Reaches.{Edge}
use Rattle.model.specs.steps.Ambiguity.Before.{ByPath}
use Rattle.model.specs.state.Shape.{IsStateOf, BodiesKeepWithin, AreMemoriesOfSystems}
use Rattle.model.specs.runs.Meaning.{HasTrueAnswers, Interleaved, interleaved}
use Rattle.model.specs.steps.Judged.{is_lawful, is_complete}
use Rattle.model.specs.state.Agreement.{IsRun, Agrees, AgreesWithAll}
use Rattle.model.specs.state.Loaded.{loaded}
use Rattle.model.proofs.order.Histories.{same_or}
use Rattle.model.proofs.faults.Judging.{lists_are_computed}
use Rattle.model.proofs.agreement.OneWithAll.{LeaveAs, run_before, all_agree}
use Rattle.model.proofs.shape.Loaded.{loaded-shape}
use Rattle.model.proofs.progress.Unrecorded.{none_told}
use Rattle.model.proofs.examples.Bodies.{round, total, hit, system, system_after, condition, zeros, adds, history, unrecorded, computed}
use Rattle.model.proofs.examples.Orders.{no_conflict, each_below_three}

-- ---- the schedule

abbrev sending : Params
sending = record no_params { writes = hit ∷ [] }

abbrev turning : Params
turning = record no_params { res_mut = round ∷ [] }

abbrev hearing : Params
hearing = record no_params { res_mut = total ∷ [] }

-- the third system stands after the first, and its condition hears what that one sent; the second one stands in no order with them
abbrev heard : Schedule
heard = record {
  systems = system sending ∷ system turning ∷ system_after (0 ∷ []) hearing ∷ [];
  conditions = condition (OnEvent hit) (2 ∷ []) ∷ [];
  syncs = 1;
  order = 0 ∷ 1 ∷ 2 ∷ [];
  silences = [];
  sets = None;
}

abbrev sends : BodyMeaning
sends shown = Ok (record (untouched sending shown) { events = (pos 4 ∷ []) ∷ [] })

abbrev bodies : List BodyMeaning
bodies = sends ∷ adds (pos 1) turning ∷ adds (pos 1) hearing ∷ []

abbrev start : State
start = loaded heard [] zeros

abbrev widths : ℕ → ℕ
widths kind = 0

-- ---- it is built

-- a number among one
among_one : (m n : ℕ) → has n (m ∷ []) ≡ true → m ≡ n
among_one m n e = elim (same_or m n false e) [ inl q ↦ q | inr none ↦ absurd (true≢false (sym none)) ]

-- the only edge
only_edge : (m n : ℕ) → has_edge heard m n ≡ true → (0 ≡ m) × (n ≡ 2)
only_edge m zero e = absurd (true≢false (sym e))
only_edge m (suc zero) e = absurd (true≢false (sym e))
only_edge m (suc (suc zero)) e = (among_one 0 m e, refl)
only_edge m (suc (suc (suc n))) e = absurd (true≢false (sym e))

-- a number in the order is one of three
in_order : (n : ℕ) → has n (0 ∷ 1 ∷ 2 ∷ []) ≡ true → n < 3
in_order n e = elim (same_or 0 n (has n (1 ∷ 2 ∷ [])) e) [
  | inl q ↦ omega arith
  | inr other ↦ elim (same_or 1 n (has n (2 ∷ [])) other) [ inl q ↦ omega arith | inr last ↦ let q = among_one 2 n last in omega arith ]
]

-- what stands in the order before each
before_each : (front rest : List ℕ) (n : ℕ) → 0 ∷ 1 ∷ 2 ∷ [] ≡ front ++ n ∷ rest → ((n ≡ 0) × (front ≡ [])) ⊎ (((n ≡ 1) × (front ≡ 0 ∷ [])) ⊎ ((n ≡ 2) × (front ≡ 0 ∷ 1 ∷ [])))
before_each [] rest n e = inl (cc, refl)
before_each (x ∷ []) rest n e = inr (inl (cc, cc))
before_each (x ∷ y ∷ []) rest n e = inr (inr (cc, cc))
before_each (x ∷ y ∷ z ∷ []) rest n e = absurd (cc)
before_each (x ∷ y ∷ z ∷ v ∷ front) rest n e = absurd (cc)

none_twice : (front rest : List ℕ) (n : ℕ) → 0 ∷ 1 ∷ 2 ∷ [] ≡ front ++ n ∷ rest → has n front ≡ false
none_twice front rest n e = elim (before_each front rest n e) [
  | inl p ↦ rw (p.0, p.1) refl
  | inr other ↦ elim other [ inl p ↦ rw (p.0, p.1) refl | inr p ↦ rw (p.0, p.1) refl ]
]

-- the first system stands before the third
first_stands : (front rest : List ℕ) (n : ℕ) → 0 ∷ 1 ∷ 2 ∷ [] ≡ front ++ n ∷ rest → (m : ℕ) → has_edge heard m n ≡ true → has m front ≡ true
first_stands front rest n e m edge = let is = only_edge m n edge in elim (before_each front rest n e) [
  | inl p ↦ absurd (let q = p.0 in let r = is.1 in omega arith)
  | inr other ↦ elim other [ inl p ↦ absurd (let q = p.0 in let r = is.1 in omega arith) | inr p ↦ rw (sym is.0, p.1) refl ]
]

-- the only member
only_member : (c n : ℕ) → covers heard c n ≡ true → 2 ≡ n
only_member zero n e = among_one 2 n e
only_member (suc c) n e = absurd (true≢false (sym e))

no_queries : (c : ℕ) (query : List Term) → IsIn query (access_of heard c).queries → (kind : ℕ) → writes query kind ≡ false
no_queries zero query among kind = absurd among
no_queries (suc c) query among kind = absurd among

heard_built : IsBuilt heard
heard_built = record {
  few_systems = omega arith;
  few_conditions = omega arith;
  few_syncs = omega arith;
  sources = λ m n e. let q = (only_edge m n e).0 in omega arith;
  rising = λ m n e. let p = only_edge m n e in rw (sym p.0, p.1) (omega arith);
  levels = each_below_three (λ n. level_of heard n < 1) (omega arith) (omega arith) (omega arith);
  listed = each_below_three (λ n. has n (0 ∷ 1 ∷ 2 ∷ []) ≡ true) refl refl refl;
  known = in_order;
  once = none_twice;
  after = first_stands;
  covered = λ c n e. let q = only_member c n e in omega arith;
  reading = no_queries;
}

-- ---- it is settled

-- no two systems conflict
systems_apart : (m n : ℕ) → m < 3 → n < 3 → m ≢ n → Conflict (params_of heard m) (params_of heard n) → ⊥
systems_apart m n l k = each_below_three (λ i. i ≢ n → Conflict (params_of heard i) (params_of heard n) → ⊥)
    (each_below_three (λ j. 0 ≢ j → Conflict sending (params_of heard j) → ⊥) (λ differ c. differ refl) (λ differ. no_conflict sending turning refl) (λ differ. no_conflict sending hearing refl) n k)
    (each_below_three (λ j. 1 ≢ j → Conflict turning (params_of heard j) → ⊥) (λ differ. no_conflict turning sending refl) (λ differ c. differ refl) (λ differ. no_conflict turning hearing refl) n k)
    (each_below_three (λ j. 2 ≢ j → Conflict hearing (params_of heard j) → ⊥) (λ differ. no_conflict hearing sending refl) (λ differ. no_conflict hearing turning refl) (λ differ c. differ refl) n k)
    m l

-- the sender, which the condition conflicts with, is before its member
sender_before : (m : ℕ) → IsMember heard 0 m → Before heard 0 m
sender_before m member = subst (Before heard 0) (only_member 0 m member.covered) (ByPath (Edge 0 2 refl))

condition_settled : (n : ℕ) → n < 3 → Conflict (params_of heard n) (access_of heard 0) → (((m : ℕ) → IsMember heard 0 m → Before heard n m) → ⊥) → ⊥
condition_settled = each_below_three (λ n. Conflict (params_of heard n) (access_of heard 0) → (((m : ℕ) → IsMember heard 0 m → Before heard n m) → ⊥) → ⊥)
    (λ conflict not_before. not_before sender_before)
    (λ conflict not_before. no_conflict turning (access_of heard 0) refl conflict)
    (λ conflict not_before. no_conflict hearing (access_of heard 0) refl conflict)

conditions_settled : (c n : ℕ) → AmbiguousCondition heard c n → ⊥
conditions_settled zero n pair = condition_settled n pair.system_known pair.conflict pair.not_before
conditions_settled (suc c) n pair = absurd (omega (arith, pair.condition_known))

heard_settled : Settled heard
heard_settled = record {
  systems = λ m n pair. systems_apart m n pair.first_known pair.second_known pair.differ pair.conflict;
  conditions = conditions_settled;
  unfiltered = each_below_three (λ n. is_some (params_of heard n).spawns ≡ true → HasNoFilter heard) (λ e. absurd (true≢false (sym e))) (λ e. absurd (true≢false (sym e))) (λ e. absurd (true≢false (sym e)));
}

-- ---- its bodies keep within

-- what is answered without queries and commands
plain_within : (params : Params) (seen : Shown) (values : List (Option ℤ)) (sent : List (List ℤ)) → params.queries ≡ [] → seen.rows ≡ [] → length values ≡ length params.res_mut → length sent ≡ length params.writes →
    length seen.registers ≡ 8 → IsWithin widths params seen (record { cells = []; res_mut = values; events = sent; commands = []; registers = seen.registers })
plain_within params seen values sent no_query no_rows as_many_values as_many_sent registers = record {
  cells = rw (no_query, no_rows) tt;
  res_mut = as_many_values;
  events = as_many_sent;
  commands = λ e. refl;
  spawns = tt;
  inserts = tt;
  registers = registers;
}

-- the memory of each of three systems has eight registers
registers_of : (clock : ℕ) (x y z : ScheduledSystem) (ms : List Memory) → AreMemoriesOfSystems clock (x ∷ y ∷ z ∷ []) ms →
    (n : ℕ) → n < 3 → length (get_or ms n no_memory).registers ≡ 8
registers_of clock x y z [] h = absurd h
registers_of clock x y z (m ∷ []) h = absurd h.1
registers_of clock x y z (m ∷ o ∷ []) h = absurd h.1.1
registers_of clock x y z (m ∷ o ∷ p ∷ ms) h = each_below_three (λ n. length (get_or (m ∷ o ∷ p ∷ ms) n no_memory).registers ≡ 8) h.0.registers h.1.0.registers h.1.1.0.registers

-- what a system is shown of a state
abbrev seen_by : State → List Id → ℕ → Shown
seen_by w ids n = shown (params_of heard n) (memory_of_system w n) w ids

-- what a body answers is what it computes
same_outcome : (answer : Result Outcome ℕ) (o p : Outcome) → answer ≡ Ok o → answer ≡ Ok p → o ≡ p
same_outcome answer o p e f = cc

bodies_within : BodiesKeepWithin widths heard bodies
unfolding shown
bodies_within n w ids o l shape given =
    let registers = registers_of w.world.clock (system sending) (system turning) (system_after (0 ∷ []) hearing) w.systems shape.systems in
    each_below_three
    (λ i. body_of bodies i (seen_by w ids i) ≡ Ok o → IsWithin widths (params_of heard i) (seen_by w ids i) o)
    (λ e. subst (IsWithin widths sending (seen_by w ids 0)) (same_outcome _ _ o refl e) (plain_within sending (seen_by w ids 0) [] ((pos 4 ∷ []) ∷ []) refl refl refl refl (registers 0 (omega arith))))
    (λ e. subst (IsWithin widths turning (seen_by w ids 1)) (same_outcome _ _ o refl e) (plain_within turning (seen_by w ids 1) _ [] refl refl refl refl (registers 1 (omega arith))))
    (λ e. subst (IsWithin widths hearing (seen_by w ids 2)) (same_outcome _ _ o refl e) (plain_within hearing (seen_by w ids 2) _ [] refl refl refl refl (registers 2 (omega arith))))
    n l

-- ---- the runs

abbrev one_way : List Step
one_way = Start 0 ∷ Finish 0 ∷ Start 1 ∷ Finish 1 ∷ Cond 0 true ∷ Start 2 ∷ Finish 2 ∷ Sync 0 ∷ []

abbrev other_way : List Step
other_way = Start 1 ∷ Start 0 ∷ Finish 0 ∷ Cond 0 true ∷ Start 2 ∷ Finish 2 ∷ Finish 1 ∷ Sync 0 ∷ []

-- a resource that nobody wrote, and one that was written
abbrev value : ℤ → ℕ → Resource
value n tick = record { value = n; changed = tick }

abbrev remembered : ℕ → List ℕ → Memory
remembered last_run cursors = record { last_run = last_run; cursors = cursors; registers = zeros }

-- the events that are kept after the first run, and after the second
abbrev once : EventQueue
once = record { kept = record { number = 0; value = pos 4 } ∷ []; newer = 0; next = 1 }

abbrev twice : EventQueue
twice = record { kept = record { number = 0; value = pos 4 } ∷ record { number = 1; value = pos 4 } ∷ []; newer = 1; next = 2 }

-- the state after a run: these hits are kept, so many runs counted, the sender started at one tick and the counter at another, the condition
-- was asked at the tick after these
abbrev left_at : EventQueue → ℕ → ℕ → ℕ → ℕ → State
left_at hits runs sender counter asked = record {
  world = record {
    slots = [];
    resources = value (pos runs) counter ∷ value (pos 0) 1 ∷ value (pos runs) (suc asked) ∷ value (pos 0) 1 ∷ value (pos 0) 1 ∷ value (pos 0) 1 ∷ value (pos 0) 1 ∷ value (pos 0) 1 ∷ [];
    clock = suc (suc asked);
  };
  events = hits ∷ empty_queue ∷ empty_queue ∷ empty_queue ∷ [];
  systems = remembered sender [] ∷ remembered counter [] ∷ remembered (suc asked) [] ∷ [];
  conditions = remembered asked (runs ∷ []) ∷ [];
  passed_over = 0;
}

-- the state after an interleaved run
abbrev left_by : State → List Step → Option State
left_by w steps = option_map (λ (x : Interleaved). x.run.state) (interleaved heard bodies w (history steps))

-- in one order: the sender first, then the counter first
one_first : left_by start one_way ≡ Some (left_at once 1 3 4 5)
unfolding computed
one_first = refl

one_second : left_by (left_at once 1 3 4 5) other_way ≡ Some (left_at twice 2 10 9 11)
unfolding computed
one_second = refl

-- in the other
other_first : left_by start other_way ≡ Some (left_at once 1 4 3 5)
unfolding computed
other_first = refl

other_second : left_by (left_at once 1 4 3 5) one_way ≡ Some (left_at twice 2 9 10 11)
unfolding computed
other_second = refl

-- a list that the tests take, with true answers
run_from : (w : State) (steps : List Step) → is_lawful heard (history steps) ≡ true → is_complete heard (history steps) ≡ true → HasTrueAnswers heard bodies w (history steps) → IsRun heard bodies w (history steps)
run_from w steps lawful complete answers = record {
  lawful = (lists_are_computed heard (history steps)).0 lawful;
  complete = (lists_are_computed heard (history steps)).1 complete;
  answers = answers;
  sets = none_told heard bodies w (history steps);
}

one_first_run : IsRun heard bodies start (history one_way)
unfolding computed
one_first_run = run_from start one_way refl refl (tt, (tt, (tt, (refl, (tt, (tt, (tt, (tt, tt))))))))

one_second_run : IsRun heard bodies (left_at once 1 3 4 5) (history other_way)
unfolding computed
one_second_run = run_from (left_at once 1 3 4 5) other_way refl refl (tt, (tt, (tt, (tt, (refl, (tt, (tt, (tt, tt))))))))

other_first_run : IsRun heard bodies start (history other_way)
unfolding computed
other_first_run = run_from start other_way refl refl (tt, (tt, (tt, (tt, (refl, (tt, (tt, (tt, tt))))))))

other_second_run : IsRun heard bodies (left_at once 1 4 3 5) (history one_way)
unfolding computed
other_second_run = run_from (left_at once 1 4 3 5) one_way refl refl (tt, (tt, (tt, (refl, (tt, (tt, (tt, (tt, tt))))))))

-- what an interleaved run ends in
leaves : (o : Option Interleaved) (w : State) → option_map (λ (x : Interleaved). x.run.state) o ≡ Some w → (end : Interleaved) × (o ≡ Some end) × (end.run.state ≡ w)
leaves None w e = absurd (cc)
leaves (Some end) w e = (end, refl, cc)

-- two runs, one after the other
two_runs : (first second : List Step) (middle last : State) → IsRun heard bodies start (history first) → left_by start first ≡ Some middle → IsRun heard bodies middle (history second) → left_by middle second ≡ Some last →
    LeaveAs heard bodies start (unrecorded first ∷ unrecorded second ∷ []) last
two_runs first second middle last r e q f =
    let a = leaves (interleaved heard bodies start (history first)) middle e in
    let b = leaves (interleaved heard bodies middle (history second)) last f in
    run_before heard bodies start (unrecorded first) (unrecorded second ∷ []) a.0 middle last r a.1 a.2
    (run_before heard bodies middle (unrecorded second) [] b.0 last last q b.1 b.2 (record { are = tt; leaves = refl }))

one_end : LeaveAs heard bodies start (unrecorded one_way ∷ unrecorded other_way ∷ []) (left_at twice 2 10 9 11)
one_end = two_runs one_way other_way (left_at once 1 3 4 5) (left_at twice 2 10 9 11) one_first_run one_first one_second_run one_second

other_end : LeaveAs heard bodies start (unrecorded other_way ∷ unrecorded one_way ∷ []) (left_at twice 2 9 10 11)
other_end = two_runs other_way one_way (left_at once 1 4 3 5) (left_at twice 2 9 10 11) other_first_run other_first other_second_run other_second

-- ---- what they leave agrees

start_shape : IsStateOf widths heard start
start_shape = loaded-shape widths heard [] zeros tt (omega arith) refl

start_agrees : Agrees heard start start
start_agrees = record { same = refl; never = λ a. refl; terms = λ a query term e in_access in_query lives matches. refl; newer = λ c number e. refl }

-- what the two runs leave in the one order agrees with what any two runs leave
one_with_all : AgreesWithAll widths heard bodies start 2 (left_at twice 2 10 9 11)
one_with_all = all_agree widths heard bodies start (unrecorded one_way ∷ unrecorded other_way ∷ []) (left_at twice 2 10 9 11) heard_built bodies_within start_shape one_end

-- so with what they leave in the other
ends_agree : Agrees heard (left_at twice 2 10 9 11) (left_at twice 2 9 10 11)
ends_agree = one_with_all start (unrecorded other_way ∷ unrecorded one_way ∷ []) (left_at twice 2 9 10 11) heard_settled start_shape start_agrees refl other_end.are other_end.leaves
