-- Conditions, change filters and events over several runs.
use Rattle.std.proofs.Common.{◌≡◌, ℕ, ℤ, pos, ◌+ℤ◌, Bool, true, false, List, [], ◌∷◌, ◌++◌, map, length, fold, Option, Some, None, option_map, option_and_then, Ok, refl}
use Rattle.model.specs.declared.steps.Step.{Step}
use Rattle.model.specs.declared.steps.Step.TheVariants.{Cond, Start, Skip, Finish, Sync}
use Rattle.model.specs.Lists.{head_or}
use Rattle.model.specs.state.State.{State, Memory, EventQueue, empty_queue}
use Rattle.model.specs.access.Query.Term.{Mut, Changed}
use Rattle.model.specs.access.Access.{Params, no_params}
use Rattle.model.specs.shown.Input.{value_of}
use Rattle.model.specs.shown.Outcome.{BodyMeaning, untouched}
use Rattle.model.specs.access.Condition.{Condition}
use Rattle.model.specs.access.Condition.Condition.{RunOnce, ResourceEquals, ResourceAtLeast, OnEvent, And, Not}
use Rattle.model.specs.state.Events.{send, send_all, unread, updated_queue}
use Rattle.model.specs.steps.Schedule.{Schedule}
use Rattle.model.specs.runs.RunState.{answer_of, begin_run}
use Rattle.model.specs.runs.Meaning.{serial}
use Rattle.model.specs.state.Loaded.{loaded}
use Rattle.model.proofs.examples.Bodies.{health, round, total, hit, asks, system, system_after, condition, given, zeros, idle, adds, changes, adds_to_first, serially, runs_from, history, computed}

-- the values of Total and Round
abbrev totals : State → ℤ × ℤ
totals w = (value_of w.world.resources total, value_of w.world.resources round)

-- what a condition answers after a list of steps
abbrev answer_after : Schedule → List BodyMeaning → State → List Step → ℕ → Option Bool
answer_after s bodies state steps c = option_map (answer_of s c) (serial s bodies state (history steps))

-- the body that counts a run in Round
abbrev turns : Params
turns = record no_params { res_mut = round ∷ [] }

-- ---- a set of three systems that a condition of Round skips; a fourth one after the first of them

abbrev pub guarded : Schedule
guarded = record {
  systems = system no_params ∷ system no_params ∷ system no_params ∷ system_after (0 ∷ []) (record no_params { res_mut = total ∷ [] }) ∷ [];
  conditions = condition (ResourceEquals round (pos 9)) (0 ∷ 1 ∷ 2 ∷ []) ∷ [];
  syncs = 1;
  order = 0 ∷ 1 ∷ 2 ∷ 3 ∷ [];
  silences = [];
  sets = None;
}

abbrev guarded_bodies : List BodyMeaning
guarded_bodies = idle no_params ∷ idle no_params ∷ idle no_params ∷ adds (pos 1) (record no_params { res_mut = total ∷ [] }) ∷ []

skipped : option_map totals (serially guarded guarded_bodies (loaded guarded [] zeros)
    (Cond 0 false ∷ Skip 0 ∷ Skip 1 ∷ Skip 2 ∷ Start 3 ∷ Finish 3 ∷ Sync 0 ∷ [])) ≡ Some (pos 1, pos 0)
unfolding computed
skipped = refl

-- the true answer is no: Round is 0
guarded_answer : answer_after guarded guarded_bodies (loaded guarded [] zeros) [] 0 ≡ Some false
unfolding computed
guarded_answer = refl

-- ---- writing counts as a change: a writer that sees changed rows, a second writer in the second run alone

-- w: adds 1 to Total for each changed row, and sets it; x: sets its rows; t: counts the run
abbrev watching : Params
watching = record (asks ((Mut health ∷ Changed health ∷ []) ∷ [])) { res_mut = total ∷ [] }

abbrev healing : Params
healing = asks ((Mut health ∷ []) ∷ [])

abbrev watcher : BodyMeaning
watcher shown = Ok (record (untouched watching shown) {
  cells = map (λ row. Some (pos 5 ∷ []) ∷ None ∷ []) (head_or [] shown.rows) ∷ [];
  res_mut = Some (head_or (pos 0) shown.res_mut +ℤ pos (length (head_or [] shown.rows))) ∷ [];
})

abbrev changing : Schedule
changing = record {
  systems = system watching ∷ system_after (0 ∷ []) healing ∷ system_after (1 ∷ []) turns ∷ [];
  conditions = condition (ResourceEquals round (pos 1)) (1 ∷ []) ∷ [];
  syncs = 1;
  order = 0 ∷ 1 ∷ 2 ∷ [];
  silences = [];
  sets = None;
}

abbrev changers : List BodyMeaning
changers = watcher ∷ changes (adds_to_first (pos 0)) healing ∷ adds (pos 1) turns ∷ []

abbrev change_start : State
change_start = loaded changing ((given health (pos 5 ∷ []) ∷ []) ∷ []) zeros

abbrev skips_healing : List Step
skips_healing = Start 0 ∷ Finish 0 ∷ Cond 0 false ∷ Skip 1 ∷ Start 2 ∷ Finish 2 ∷ Sync 0 ∷ []

abbrev heals : List Step
heals = Start 0 ∷ Finish 0 ∷ Cond 0 true ∷ Start 1 ∷ Finish 1 ∷ Start 2 ∷ Finish 2 ∷ Sync 0 ∷ []

changed_once : option_map totals (runs_from changing changers change_start (skips_healing ∷ [])) ≡ Some (pos 1, pos 1)
unfolding computed
changed_once = refl

changed_twice : option_map totals (runs_from changing changers change_start (skips_healing ∷ heals ∷ [])) ≡ Some (pos 1, pos 2)
unfolding computed
changed_twice = refl

changed_thrice : option_map totals (runs_from changing changers change_start (skips_healing ∷ heals ∷ skips_healing ∷ [])) ≡ Some (pos 2, pos 3)
unfolding computed
changed_thrice = refl

-- the answers of the three runs
healing_answers : (answer_after changing changers change_start (Start 0 ∷ Finish 0 ∷ []) 0 ≡ Some false)
    × (option_and_then (λ w. answer_after changing changers w (Start 0 ∷ Finish 0 ∷ []) 0) (runs_from changing changers change_start (skips_healing ∷ [])) ≡ Some true)
unfolding computed
healing_answers = (refl, refl)

-- ---- events: sent once, read in the first run by a reader that a condition then admits

abbrev emitting : Params
emitting = record no_params { writes = hit ∷ [] }

abbrev listening : Params
listening = record no_params { reads = hit ∷ []; res_mut = total ∷ [] }

abbrev emitter : BodyMeaning
emitter shown = Ok (record (untouched emitting shown) { events = (pos 4 ∷ []) ∷ [] })

abbrev listener : BodyMeaning
listener shown = Ok (record (untouched listening shown) { res_mut = Some (fold (λ a b. a +ℤ b) (head_or (pos 0) shown.res_mut) (head_or [] shown.unread)) ∷ [] })

-- a runs once and sends 4; b after a reads where Round has come to a value; t counts the run
abbrev telling : ℤ → Schedule
telling least = record {
  systems = system emitting ∷ system_after (0 ∷ []) listening ∷ system_after (1 ∷ []) turns ∷ [];
  conditions = condition RunOnce (0 ∷ []) ∷ condition (ResourceAtLeast round least) (1 ∷ []) ∷ [];
  syncs = 1;
  order = 0 ∷ 1 ∷ 2 ∷ [];
  silences = [];
  sets = None;
}

abbrev tellers : List BodyMeaning
tellers = emitter ∷ listener ∷ adds (pos 1) turns ∷ []

-- a system that starts and finishes, or is skipped
abbrev begin_or_skip : Bool → ℕ → List Step
begin_or_skip true n = Start n ∷ Finish n ∷ []
begin_or_skip false n = Skip n ∷ []

-- a run with these answers
abbrev run_of : Bool → Bool → List Step
run_of first second = (Cond 0 first ∷ begin_or_skip first 0) ++ ((Cond 1 second ∷ begin_or_skip second 1) ++ (Start 2 ∷ Finish 2 ∷ Sync 0 ∷ []))

-- the run after which the event is read: it was kept by the newer buffer
heard : option_map totals (runs_from (telling (pos 1)) tellers (loaded (telling (pos 1)) [] zeros) (run_of true false ∷ run_of false true ∷ run_of false true ∷ []))
    ≡ Some (pos 4, pos 3)
unfolding computed
heard = refl

-- a reader that comes a run later finds it dropped
not_heard : option_map totals (runs_from (telling (pos 2)) tellers (loaded (telling (pos 2)) [] zeros) (run_of true false ∷ run_of false false ∷ run_of false true ∷ []))
    ≡ Some (pos 0, pos 3)
unfolding computed
not_heard = refl

abbrev remembered : ℕ → List ℕ → Memory
remembered last_run cursors = record { last_run = last_run; cursors = cursors; registers = zeros }

-- the memories of systems and conditions, and the clock
abbrev memories : State → List Memory × List Memory × ℕ
memories w = (w.systems, w.conditions, w.world.clock)

-- every memory after the three runs: last runs, cursors, registers
heard_memories : option_map memories
    (runs_from (telling (pos 1)) tellers (loaded (telling (pos 1)) [] zeros) (run_of true false ∷ run_of false true ∷ run_of false true ∷ []))
    ≡ Some (remembered 4 [] ∷ remembered 17 (1 ∷ []) ∷ remembered 18 [] ∷ [], remembered 15 [] ∷ remembered 16 [] ∷ [], 19)
unfolding computed
heard_memories = refl

-- the buffers by themselves: two events, an update, a third one, an update, an update
abbrev two_hits : EventQueue
two_hits = send_all (pos 4 ∷ pos 5 ∷ []) empty_queue

abbrev third_hit : EventQueue
third_hit = send (pos 6) (updated_queue two_hits)

unread_from_one : unread third_hit 1 ≡ pos 5 ∷ pos 6 ∷ []
unread_from_one = refl

unread_after_update : unread (updated_queue third_hit) 0 ≡ pos 6 ∷ []
unread_after_update = refl

none_left : updated_queue (updated_queue third_hit) ≡ record { kept = []; newer = 3; next = 3 }
none_left = refl

-- ---- each reader of a condition has a cursor of its own

-- one event of number 0 is kept; the first reader has not read it, the second one has
abbrev two_readers : Condition
two_readers = And (OnEvent hit) (Not (OnEvent hit))

abbrev asking : Schedule
asking = record { systems = system no_params ∷ []; conditions = condition two_readers (0 ∷ []) ∷ []; syncs = 1; order = 0 ∷ []; silences = []; sets = None }

abbrev one_kept : State
one_kept = record (loaded asking [] zeros) {
  events = send (pos 4) empty_queue ∷ empty_queue ∷ empty_queue ∷ empty_queue ∷ [];
  conditions = record { last_run = 1; cursors = 0 ∷ 1 ∷ []; registers = zeros } ∷ [];
}

own_cursors : option_map (answer_of asking 0) (begin_run asking one_kept) ≡ Some true
unfolding computed
own_cursors = refl

-- ---- a schedule without systems: one sync point

abbrev empty : Schedule
empty = record { systems = []; conditions = []; syncs = 1; order = []; silences = []; sets = None }

empty_run : option_map (λ (w : State). w.world.clock) (serially empty [] (loaded empty [] zeros) (Sync 0 ∷ [])) ≡ Some 3
unfolding computed
empty_run = refl
