-- What the computed examples are made of: kinds, resources and events by number, systems with few parts, and bodies.
use Rattle.std.proofs.Common.{ℕ, ℤ, pos, ◌+ℤ◌, List, [], ◌∷◌, map, replicate, reverse, Option, Some, None, Ok, option_map, option_and_then}
use Rattle.model.specs.declared.steps.Step.{Step}
use Rattle.model.specs.Lists.{head_or}
use Rattle.model.specs.state.State.{State, Entity}
use Rattle.model.specs.access.Query.{Term}
use Rattle.model.specs.access.Access.{Params, no_params}
use Rattle.model.specs.shown.Input.{Shown, ShownRow}
use Rattle.model.specs.shown.Outcome.{Command, BodyMeaning, untouched}
use Rattle.model.specs.access.Condition.{Condition}
use Rattle.model.specs.steps.Schedule.{Schedule, ScheduledSystem, ScheduledCondition, Recorded}
use Rattle.model.specs.runs.Meaning.{serial, interleaved}
use Rattle.model.specs.state.Loaded.{Given}
use Rattle.model.specs.shown.Input.{shown, rows_from}
use Rattle.model.specs.shown.Overlay.{slots_after, resources_after, queues_after, has_event_numbers}
use Rattle.model.specs.state.Ids.{with_room, has_ids, granted_ids, grant, has_ids_for_each, ids_of_each, grant_each}
use Rattle.model.specs.state.Commands.{release}
use Rattle.model.specs.runs.RunState.{has_ids_for_level, after_grant, has_ids_to_open, can_open, after_opening, started_system, after_start, can_finish, overlaid, asked_of, answer_of, after_condition, after_commands, has_ids_to_sync, can_sync, after_sync}

-- ---- numbers of kinds, resources, events

abbrev pub position : ℕ
position = 0

abbrev pub velocity : ℕ
velocity = 1

abbrev pub health : ℕ
health = 2

abbrev pub score : ℕ
score = 6

abbrev pub frozen : ℕ
frozen = 10

abbrev pub hidden : ℕ
hidden = 11

abbrev pub round : ℕ
round = 0

abbrev pub total : ℕ
total = 2

abbrev pub hit : ℕ
hit = 0

-- ---- schedules

-- parameters with these queries alone
abbrev pub asks : List (List Term) → Params
asks queries = record no_params { queries = queries }

-- a system of level 0 after these
abbrev pub system_after : List ℕ → Params → ScheduledSystem
system_after predecessors params = record { params = params; predecessors = predecessors; level = 0 }

-- a system of level 0
abbrev pub system : Params → ScheduledSystem
system params = system_after [] params

-- a schedule of one level and these systems in this order, without conditions
abbrev pub plain : List ScheduledSystem → List ℕ → Schedule
plain systems order = record { systems = systems; conditions = []; syncs = 1; order = order; silences = []; sets = None }

-- a condition that covers these
abbrev pub condition : Condition → List ℕ → ScheduledCondition
condition c covers = record { condition = c; covers = covers }

-- ---- states

-- a component of a file
abbrev pub given : ℕ → List ℤ → Given
given kind words = record { kind = kind; words = words }

-- resources, 0 but for these first ones
abbrev pub zeros : List ℤ
zeros = replicate 8 (pos 0)

-- ---- bodies

-- a body that does nothing
abbrev pub idle : Params → BodyMeaning
idle params shown = Ok (untouched params shown)

-- a body that adds to its first written resource
abbrev pub adds : ℤ → Params → BodyMeaning
adds n params shown = Ok (record (untouched params shown) { res_mut = Some (head_or (pos 0) shown.res_mut +ℤ n) ∷ [] })

-- a body that sets its first written resource
abbrev pub sets : ℤ → Params → BodyMeaning
sets n params shown = Ok (record (untouched params shown) { res_mut = Some n ∷ [] })

-- a body that issues commands, made from the ids that it is granted and the rows that it is shown
abbrev pub issues : (Shown → List Command) → Params → BodyMeaning
issues commands params shown = Ok (record (untouched params shown) { commands = commands shown })

-- a body that changes the values of each row of its first query
abbrev pub changes : (List (Option (List ℤ)) → List (Option (List ℤ))) → Params → BodyMeaning
changes change params shown = Ok (record (untouched params shown) { cells = map (λ (row : ShownRow). change row.values) (head_or [] shown.rows) ∷ [] })

-- the words with a number added to the first
abbrev pub add_first : ℤ → List ℤ → List ℤ
add_first n [] = []
add_first n (x ∷ xs) = (x +ℤ n) ∷ xs

-- a written first term, its words with a number added to the first; nothing written at the terms after it
abbrev pub adds_to_first : ℤ → List (Option (List ℤ)) → List (Option (List ℤ))
adds_to_first n [] = []
adds_to_first n (v ∷ vs) = option_map (add_first n) v ∷ map (λ x. None) vs

-- the first granted id, and the first row's entity
abbrev pub first_granted : Shown → Entity
first_granted shown = head_or (record { index = 0; generation = 0 }) shown.granted

abbrev pub entities_of : Shown → List Entity
entities_of shown = map (λ (row : ShownRow). row.entity) (head_or [] shown.rows)

-- ---- lists

-- named on an `unfolding` line, it opens all that a run computes with
unfoldable pub computed : Unit {0}
unfolding shown rows_from slots_after resources_after queues_after has_event_numbers with_room has_ids granted_ids grant has_ids_for_each ids_of_each grant_each release has_ids_for_level after_grant has_ids_to_open can_open after_opening started_system after_start can_finish overlaid asked_of answer_of after_condition after_commands has_ids_to_sync can_sync after_sync
computed = tt

-- the history of a list of steps
abbrev pub history : List Step → List Step
history steps = reverse steps

-- a run of these steps that records no kind sets
abbrev pub unrecorded : List Step → Recorded
unrecorded steps = record { steps = history steps; sets = None }

-- the state after a serial run
abbrev pub serially : Schedule → List BodyMeaning → State → List Step → Option State
serially s bodies state steps = option_map (λ run. run.state) (serial s bodies state (history steps))

-- the state after an interleaved run
abbrev pub woven : Schedule → List BodyMeaning → State → List Step → Option State
woven s bodies state steps = option_map (λ w. w.run.state) (interleaved s bodies state (history steps))

-- the states that serial runs of these lists leave, one after the other
abbrev pub runs_from : Schedule → List BodyMeaning → State → List (List Step) → Option State
runs_from s bodies state [] = Some state
runs_from s bodies state (steps ∷ more) = option_and_then (λ next. runs_from s bodies next more) (serially s bodies state steps)
