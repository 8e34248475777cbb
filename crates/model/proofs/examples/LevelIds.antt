-- Ids by level: what systems are granted at an opening and at a sync point, whatever the order of their starts, which schedules with
-- commands are settled, and two systems with commands in two orders whose ends agree.
use Rattle.std.proofs.Common.{option_map, option_and_then, ◌≡◌, ℕ, ℤ, pos, Bool, true, false, List, [], ◌∷◌, map, length, Option, None, Some, Ok, inl, refl, sym, subst, arith, true≢false}
use Rattle.model.specs.declared.steps.Step.{Step}
use Rattle.model.specs.declared.steps.Step.TheVariants.{Cond, Start, Skip, Finish, Sync}
use Rattle.model.specs.Lists.{head_or, tail_of}
use Rattle.model.specs.state.State.{Entity as Id, State, Slot}
use Rattle.model.specs.state.Rows.{new_component}
use Rattle.model.specs.access.Query.{Term}
use Rattle.model.specs.access.Query.Term.{Entity, Read, Mut, With, Without, Changed}
use Rattle.model.specs.access.Access.{Params, no_params, has_filter}
use Rattle.model.specs.access.Condition.Condition.{ResourceEquals, AnyWith}
use Rattle.model.specs.shown.Input.{Shown, ShownRow, shown, value_of}
use Rattle.model.specs.shown.Outcome.{Command, BodyMeaning, IsWithin, AreCells, AreSpawns, untouched}
use Rattle.model.specs.shown.Outcome.Command.{Spawn, Insert}
use Rattle.model.specs.steps.Schedule.{Schedule, params_of}
use Rattle.model.specs.steps.Judged.{is_lawful, is_complete}
use Rattle.model.specs.steps.Ambiguity.{HasNoFilter, Settled}
use Rattle.model.specs.state.Shape.{IsStateOf, AreIdsFor, BodiesKeepWithin}
use Rattle.model.specs.runs.RunState.{RunState, begin_run, answer_of, body_of}
use Rattle.model.specs.runs.Meaning.{serial}
use Rattle.model.specs.state.Agreement.{IsRun, Agrees, after_runs}
use Rattle.model.specs.state.Loaded.{loaded}
use Rattle.model.proofs.faults.Judging.{lists_are_computed}
use Rattle.model.proofs.agreement.Agreement.{agrees_refl}
use Rattle.model.proofs.agreement.SerialRuns.{runs_agree}
use Rattle.model.proofs.shape.Loaded.{loaded-shape}
use Rattle.model.proofs.progress.Unrecorded.{none_told}
use Rattle.model.proofs.examples.Bodies.{health, score, frozen, round, total, asks, system, condition, given, zeros, adds, issues, adds_to_first, first_granted, entities_of, history, unrecorded, serially, woven, runs_from, computed}
use Rattle.model.proofs.examples.Commands.{seen, living, vacant, granting}
use Rattle.model.proofs.examples.Agreement.{of_two, each_below_two, two_built, none_ambiguous, registers_of, seen_by, same_outcome}

-- the id of an index at a generation
abbrev id : ℕ → ℕ → Id
id index generation = record { index = index; generation = generation }

-- an entity that a sync point made at this tick, with this score
abbrev scored : ℕ → ℕ → ℤ → Slot
scored generation tick n = living generation (new_component tick score (n ∷ []) ∷ [])

-- spawns the first granted id, with this score
abbrev spawns_scored : ℤ → Shown → List Command
spawns_scored n shown = Spawn (first_granted shown) ∷ Insert (first_granted shown) score (n ∷ []) ∷ []

-- the ids that systems 0 and 1 have after a list of steps
abbrev granted_after : Schedule → List BodyMeaning → State → List Step → Option (List Id × List Id)
granted_after s bodies state steps = option_map (λ (run : RunState). (run.grants 0, run.grants 1)) (serial s bodies state (history steps))

-- ---- two systems without an order that both spawn: in both orders the first in schedule order has the first index

abbrev pair : Schedule
pair = of_two (granting 1) (granting 1)

abbrev spawners : List BodyMeaning
spawners = issues (spawns_scored (pos 1)) (granting 1) ∷ issues (spawns_scored (pos 2)) (granting 1) ∷ []

abbrev nobody : State
nobody = loaded pair [] zeros

abbrev one_way : List Step
one_way = Start 0 ∷ Finish 0 ∷ Start 1 ∷ Finish 1 ∷ Sync 0 ∷ []

abbrev other_way : List Step
other_way = Start 1 ∷ Finish 1 ∷ Start 0 ∷ Finish 0 ∷ Sync 0 ∷ []

abbrev at_once : List Step
at_once = Start 1 ∷ Start 0 ∷ Finish 0 ∷ Finish 1 ∷ Sync 0 ∷ []

granted_at_opening : granted_after pair spawners nobody [] ≡ Some (id 0 1 ∷ [], id 1 1 ∷ [])
unfolding computed
granted_at_opening = refl

-- a start leaves what is granted as it is
granted_after_start : granted_after pair spawners nobody (Start 1 ∷ []) ≡ Some (id 0 1 ∷ [], id 1 1 ∷ [])
unfolding computed
granted_after_start = refl

-- the sync point takes the tick after the opening and two starts
abbrev both_scored : List Slot × ℕ
both_scored = (scored 1 5 (pos 1) ∷ scored 1 5 (pos 2) ∷ [], 0)

spawned_one_way : option_map seen (serially pair spawners nobody one_way) ≡ Some both_scored
unfolding computed
spawned_one_way = refl

spawned_other_way : option_map seen (serially pair spawners nobody other_way) ≡ Some both_scored
unfolding computed
spawned_other_way = refl

spawned_at_once : option_map seen (woven pair spawners nobody at_once) ≡ Some both_scored
unfolding computed
spawned_at_once = refl

-- ---- the first of them skipped by its condition: its id is granted all the same, and freed by the sync point

abbrev guarded : Schedule
guarded = record {
  systems = system (granting 1) ∷ system (granting 1) ∷ [];
  conditions = condition (ResourceEquals round (pos 9)) (0 ∷ []) ∷ [];
  syncs = 1;
  order = 0 ∷ 1 ∷ [];
  silences = [];
  sets = None;
}

abbrev guarded_start : State
guarded_start = loaded guarded [] zeros

abbrev skips_first : List Step
skips_first = Cond 0 false ∷ Skip 0 ∷ Start 1 ∷ Finish 1 ∷ Sync 0 ∷ []

guarded_answer : option_map (answer_of guarded 0) (serial guarded spawners guarded_start (history [])) ≡ Some false
unfolding computed
guarded_answer = refl

skipped_once : option_map seen (runs_from guarded spawners guarded_start (skips_first ∷ [])) ≡ Some (vacant 2 ∷ scored 1 5 (pos 2) ∷ [], 0)
unfolding computed
skipped_once = refl

skipped_twice : option_map seen (runs_from guarded spawners guarded_start (skips_first ∷ skips_first ∷ []))
    ≡ Some (vacant 3 ∷ scored 1 5 (pos 2) ∷ scored 1 9 (pos 2) ∷ [], 0)
unfolding computed
skipped_twice = refl

granted_in_third_run : option_and_then (λ w. granted_after guarded spawners w []) (runs_from guarded spawners guarded_start (skips_first ∷ skips_first ∷ []))
    ≡ Some (id 0 3 ∷ [], id 3 1 ∷ [])
unfolding computed
granted_in_third_run = refl

-- ---- two levels: an index that the lower one didn't spawn comes back for the upper one

-- the first system is granted two ids and spawns one; the second stands at level 1
abbrev levelled : Schedule
levelled = record {
  systems = system (granting 2) ∷ record { params = granting 1; predecessors = 0 ∷ []; level = 1 } ∷ [];
  conditions = [];
  syncs = 2;
  order = 0 ∷ 1 ∷ [];
  silences = [];
  sets = None;
}

abbrev levelled_bodies : List BodyMeaning
levelled_bodies = issues (spawns_scored (pos 1)) (granting 2) ∷ issues (spawns_scored (pos 2)) (granting 1) ∷ []

abbrev levelled_start : State
levelled_start = loaded levelled [] zeros

abbrev lower_level : List Step
lower_level = Start 0 ∷ Finish 0 ∷ []

abbrev both_levels : List Step
both_levels = Start 0 ∷ Finish 0 ∷ Sync 0 ∷ Start 1 ∷ Finish 1 ∷ Sync 1 ∷ []

granted_to_lower : granted_after levelled levelled_bodies levelled_start lower_level ≡ Some (id 0 1 ∷ id 1 1 ∷ [], [])
unfolding computed
granted_to_lower = refl

granted_to_upper : granted_after levelled levelled_bodies levelled_start (Start 0 ∷ Finish 0 ∷ Sync 0 ∷ []) ≡ Some ([], id 1 2 ∷ [])
unfolding computed
granted_to_upper = refl

-- after the last sync point nobody has an id
granted_at_end : granted_after levelled levelled_bodies levelled_start both_levels ≡ Some ([], [])
unfolding computed
granted_at_end = refl

levelled_end : option_map seen (serially levelled levelled_bodies levelled_start both_levels) ≡ Some (scored 1 4 (pos 1) ∷ scored 2 6 (pos 2) ∷ [], 0)
unfolding computed
levelled_end = refl

-- ---- a change filter beside commands: what a system counts in the second run depends on the order in the first

-- w: adds 1 to each row that isn't frozen, and freezes it; s: adds to Total for each frozen row of this term
abbrev freezing : Params
freezing = record (asks ((Entity ∷ Mut health ∷ Without frozen ∷ []) ∷ [])) { spawns = Some 0 }

abbrev tallying : Term → Params
tallying term = record (asks ((term ∷ With frozen ∷ []) ∷ [])) { res_mut = total ∷ [] }

abbrev freezes : BodyMeaning
freezes shown = Ok (record (untouched freezing shown) {
  cells = map (λ (row : ShownRow). None ∷ adds_to_first (pos 1) (tail_of row.values)) (head_or [] shown.rows) ∷ [];
  commands = map (λ e. Insert e frozen []) (entities_of shown);
})

abbrev tallies : Term → BodyMeaning
tallies term shown = adds (pos (length (head_or [] shown.rows))) (tallying term) shown

abbrev tallied : Term → Schedule
tallied term = of_two freezing (tallying term)

abbrev tallied_bodies : Term → List BodyMeaning
tallied_bodies term = freezes ∷ tallies term ∷ []

abbrev tallied_start : Term → State
tallied_start term = loaded (tallied term) ((given health (pos 1 ∷ []) ∷ []) ∷ []) zeros

-- the value of Total after these runs
abbrev total_after : Term → List (List Step) → Option ℤ
total_after term runs = option_map (λ (w : State). value_of w.world.resources total) (runs_from (tallied term) (tallied_bodies term) (tallied_start term) runs)

both_lists_are_runs : (is_lawful (tallied (Changed health)) (history one_way) ≡ true) × (is_complete (tallied (Changed health)) (history one_way) ≡ true)
    × (is_lawful (tallied (Changed health)) (history other_way) ≡ true) × (is_complete (tallied (Changed health)) (history other_way) ≡ true)
both_lists_are_runs = (refl, refl, refl, refl)

freezing_first : total_after (Changed health) (one_way ∷ one_way ∷ []) ≡ Some (pos 0)
unfolding computed
freezing_first = refl

tallying_first : total_after (Changed health) (other_way ∷ one_way ∷ []) ≡ Some (pos 1)
unfolding computed
tallying_first = refl

-- a schedule with commands and a filter isn't settled, with an order between the two systems either
filter_unsettled : Settled (tallied (Changed health)) → ⊥
filter_unsettled settled = true≢false ((settled.unfiltered 0 (omega arith) refl).systems 1 (omega arith))

abbrev tallied_above : Schedule
tallied_above = record {
  systems = system freezing ∷ record { params = tallying (Changed health); predecessors = 0 ∷ []; level = 1 } ∷ [];
  conditions = [];
  syncs = 2;
  order = 0 ∷ 1 ∷ [];
  silences = [];
  sets = None;
}

ordered_filter_unsettled : Settled tallied_above → ⊥
ordered_filter_unsettled settled = true≢false ((settled.unfiltered 0 (omega arith) refl).systems 1 (omega arith))

-- ---- the same without the filter: both orders count one, and the schedule is settled

reading_last : total_after (Read health) (one_way ∷ one_way ∷ []) ≡ Some (pos 1)
unfolding computed
reading_last = refl

reading_first : total_after (Read health) (other_way ∷ one_way ∷ []) ≡ Some (pos 1)
unfolding computed
reading_first = refl

-- no system and no condition of it compares a stamp
reading_unfiltered : HasNoFilter (tallied (Read health))
reading_unfiltered = record {
  systems = each_below_two (λ n. has_filter (params_of (tallied (Read health)) n) ≡ false) refl refl;
  conditions = λ c l. absurd (omega (arith, l));
}

reading_settled : Settled (tallied (Read health))
reading_settled = record {
  systems = λ m n. none_ambiguous freezing (tallying (Read health)) m n refl refl;
  conditions = λ c n pair. absurd (omega (arith, pair.condition_known));
  unfiltered = λ n l e. reading_unfiltered;
}

-- ---- a filter of a condition: its answer in the second run depends on when it was asked in the first

abbrev watching : Schedule
watching = record {
  systems = system freezing ∷ system (record no_params { res_mut = total ∷ [] }) ∷ [];
  conditions = condition (AnyWith (Changed health ∷ With frozen ∷ [])) (1 ∷ []) ∷ [];
  syncs = 1;
  order = 0 ∷ 1 ∷ [];
  silences = [];
  sets = None;
}

abbrev watching_bodies : List BodyMeaning
watching_bodies = freezes ∷ adds (pos 1) (record no_params { res_mut = total ∷ [] }) ∷ []

abbrev watching_start : State
watching_start = loaded watching ((given health (pos 1 ∷ []) ∷ []) ∷ []) zeros

abbrev asks_after : List Step
asks_after = Start 0 ∷ Finish 0 ∷ Cond 0 false ∷ Skip 1 ∷ Sync 0 ∷ []

abbrev asks_before : List Step
asks_before = Cond 0 false ∷ Start 0 ∷ Finish 0 ∷ Skip 1 ∷ Sync 0 ∷ []

-- what the condition answers at the opening of a second run
abbrev answer_then : List Step → Option Bool
answer_then steps = option_and_then (λ w. option_map (answer_of watching 0) (begin_run watching w)) (runs_from watching watching_bodies watching_start (steps ∷ []))

asked_both_ways : (is_lawful watching (history asks_after) ≡ true) × (is_complete watching (history asks_after) ≡ true)
    × (is_lawful watching (history asks_before) ≡ true) × (is_complete watching (history asks_before) ≡ true)
asked_both_ways = (refl, refl, refl, refl)

-- the recorded answers of the first run are true ones
answers_of_first_run : (option_map (answer_of watching 0) (serial watching watching_bodies watching_start (history (Start 0 ∷ Finish 0 ∷ []))) ≡ Some false)
    × (option_map (answer_of watching 0) (serial watching watching_bodies watching_start (history [])) ≡ Some false)
unfolding computed
answers_of_first_run = (refl, refl)

asked_late : answer_then asks_after ≡ Some false
unfolding computed
asked_late = refl

asked_early : answer_then asks_before ≡ Some true
unfolding computed
asked_early = refl

condition_unsettled : Settled watching → ⊥
condition_unsettled settled = true≢false ((settled.unfiltered 0 (omega arith) refl).conditions 0 (omega arith))

-- ---- the law of agreement at two systems that spawn: the premises

-- each kind has one word
abbrev widths : ℕ → ℕ
widths kind = 1

pair_unfiltered : HasNoFilter pair
pair_unfiltered = record {
  systems = each_below_two (λ n. has_filter (params_of pair n) ≡ false) refl refl;
  conditions = λ c l. absurd (omega (arith, l));
}

pair_settled : Settled pair
pair_settled = record {
  systems = λ m n. none_ambiguous (granting 1) (granting 1) m n refl refl;
  conditions = λ c n pair. absurd (omega (arith, pair.condition_known));
  unfiltered = λ n l e. pair_unfiltered;
}

-- the first granted id is spawned, where there is one
spawns_granted : (ids : List Id) → length ids ≡ 1 → AreSpawns ids (head_or (id 0 0) ids ∷ [])
spawns_granted [] e = absurd (omega (arith, e))
spawns_granted (x ∷ ids) e = (inl refl, (λ h. h), tt)

-- the outcome of a spawner keeps within its parameters
spawner_within : (n : ℤ) (shown : Shown) → shown.rows ≡ [] → length shown.granted ≡ 1 → length shown.registers ≡ 8 →
    IsWithin widths (granting 1) shown (record (untouched (granting 1) shown) { commands = spawns_scored n shown })
spawner_within n shown no_rows given_one registers = record {
  cells = subst (λ rows. AreCells widths [] rows []) (sym no_rows) tt;
  res_mut = refl;
  events = refl;
  commands = λ e. absurd (true≢false e);
  spawns = spawns_granted shown.granted given_one;
  inserts = (tt, (refl, tt));
  registers = registers;
}

spawners_within : BodiesKeepWithin widths pair spawners
unfolding shown
spawners_within n w ids o l shape given_ids = each_below_two
    (λ i. AreIdsFor pair i ids → body_of spawners i (seen_by pair w ids i) ≡ Ok o → IsWithin widths (params_of pair i) (seen_by pair w ids i) o)
    (λ g e. subst (IsWithin widths (granting 1) (seen_by pair w ids 0)) (same_outcome _ _ o refl e)
    (spawner_within (pos 1) (seen_by pair w ids 0) refl g.count (registers_of w.world.clock (system (granting 1)) (system (granting 1)) w.systems shape.systems).0))
    (λ g e. subst (IsWithin widths (granting 1) (seen_by pair w ids 1)) (same_outcome _ _ o refl e)
    (spawner_within (pos 2) (seen_by pair w ids 1) refl g.count (registers_of w.world.clock (system (granting 1)) (system (granting 1)) w.systems shape.systems).1))
    n l given_ids

nobody_shape : IsStateOf widths pair nobody
nobody_shape = loaded-shape widths pair [] zeros tt (omega arith) refl

-- ---- the law of agreement at two systems that spawn: both lists are runs, and their ends agree

one_run : IsRun pair spawners nobody (history one_way)
one_run = record {
  lawful = (lists_are_computed pair (history one_way)).0 refl;
  complete = (lists_are_computed pair (history one_way)).1 refl;
  answers = (tt, (tt, (tt, (tt, (tt, tt)))));
  sets = none_told pair spawners nobody (history one_way);
}

other_run : IsRun pair spawners nobody (history other_way)
other_run = record {
  lawful = (lists_are_computed pair (history other_way)).0 refl;
  complete = (lists_are_computed pair (history other_way)).1 refl;
  answers = (tt, (tt, (tt, (tt, (tt, tt)))));
  sets = none_told pair spawners nobody (history other_way);
}

-- the end where the two systems started at these ticks
abbrev end_at : ℕ → ℕ → State
end_at a b = record {
  world = record { slots = scored 1 5 (pos 1) ∷ scored 1 5 (pos 2) ∷ []; resources = nobody.world.resources; clock = 5 };
  events = nobody.events;
  systems = record { last_run = a; cursors = []; registers = zeros } ∷ record { last_run = b; cursors = []; registers = zeros } ∷ [];
  conditions = [];
  passed_over = 0;
}

one_end : after_runs pair spawners nobody (unrecorded one_way ∷ []) ≡ Some (end_at 3 4)
unfolding computed
one_end = refl

other_end : after_runs pair spawners nobody (unrecorded other_way ∷ []) ≡ Some (end_at 4 3)
unfolding computed
other_end = refl

-- the two ends differ in last runs and agree
ends_agree : Agrees pair (end_at 3 4) (end_at 4 3)
ends_agree = runs_agree widths pair spawners nobody nobody (unrecorded one_way ∷ []) (unrecorded other_way ∷ []) (end_at 3 4) (end_at 4 3)
    (two_built (granting 1) (granting 1)) pair_settled spawners_within nobody_shape nobody_shape (agrees_refl pair nobody) refl
    (one_run, λ end e. tt) (other_run, λ end e. tt) one_end other_end
