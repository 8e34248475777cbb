-- Readers and registers over several runs: a reader before and after the writer, one system with two readers, registers that stay;
-- and change filters over three runs.
use Rattle.std.proofs.Common.{◌≡◌, ℤ, pos, ◌+ℤ◌, List, [], ◌∷◌, map, fold, length, get_or, Option, Some, None, Ok, option_map, refl}
use Rattle.model.specs.declared.steps.Step.{Step}
use Rattle.model.specs.declared.steps.Step.TheVariants.{Start, Finish, Sync}
use Rattle.model.specs.Lists.{head_or}
use Rattle.model.specs.state.State.{State, empty_queue, no_memory}
use Rattle.model.specs.access.Query.{Term}
use Rattle.model.specs.access.Query.Term.{Mut, Changed, Added}
use Rattle.model.specs.access.Access.{Params, no_params}
use Rattle.model.specs.state.Events.{send, send_all}
use Rattle.model.specs.shown.Input.{shown, value_of}
use Rattle.model.specs.shown.Outcome.{BodyMeaning, untouched}
use Rattle.model.specs.steps.Schedule.{Schedule}
use Rattle.model.specs.state.Loaded.{loaded}
use Rattle.model.proofs.examples.Bodies.{health, total, hit, asks, system, system_after, plain, given, zeros, changes, adds_to_first, add_first, runs_from, serially, computed}

abbrev total_of : State → ℤ
total_of w = value_of w.world.resources total

-- ---- one sends 4 in each run, another adds what it reads to Total

abbrev sending : Params
sending = record no_params { writes = hit ∷ [] }

abbrev adding : Params
adding = record no_params { reads = hit ∷ []; res_mut = total ∷ [] }

abbrev sender : BodyMeaning
sender seen = Ok (record (untouched sending seen) { events = (pos 4 ∷ []) ∷ [] })

abbrev adder : BodyMeaning
adder seen = Ok (record (untouched adding seen) { res_mut = Some (fold (λ a b. a +ℤ b) (head_or (pos 0) seen.res_mut) (head_or [] seen.unread)) ∷ [] })

abbrev reader_after : Schedule
reader_after = plain (system sending ∷ system_after (0 ∷ []) adding ∷ []) (0 ∷ 1 ∷ [])

abbrev reader_before : Schedule
reader_before = plain (system_after (1 ∷ []) sending ∷ system adding ∷ []) (1 ∷ 0 ∷ [])

abbrev sender_first : List Step
sender_first = Start 0 ∷ Finish 0 ∷ Start 1 ∷ Finish 1 ∷ Sync 0 ∷ []

abbrev adder_first : List Step
adder_first = Start 1 ∷ Finish 1 ∷ Start 0 ∷ Finish 0 ∷ Sync 0 ∷ []

-- after the writer each event is read in its own run, and once
after_one : option_map total_of (runs_from reader_after (sender ∷ adder ∷ []) (loaded reader_after [] zeros) (sender_first ∷ [])) ≡ Some (pos 4)
unfolding computed
after_one = refl

after_three : option_map total_of (runs_from reader_after (sender ∷ adder ∷ []) (loaded reader_after [] zeros) (sender_first ∷ sender_first ∷ sender_first ∷ [])) ≡ Some (pos 12)
unfolding computed
after_three = refl

-- before the writer each is read a run later
before_one : option_map total_of (runs_from reader_before (sender ∷ adder ∷ []) (loaded reader_before [] zeros) (adder_first ∷ [])) ≡ Some (pos 0)
unfolding computed
before_one = refl

before_three : option_map total_of (runs_from reader_before (sender ∷ adder ∷ []) (loaded reader_before [] zeros) (adder_first ∷ adder_first ∷ adder_first ∷ [])) ≡ Some (pos 8)
unfolding computed
before_three = refl

-- the cursor goes to the end of the queue, past the newer buffer
cursor_of : option_map (λ (w : State). (get_or w.systems 1 no_memory).cursors) (serially reader_after (sender ∷ adder ∷ []) (loaded reader_after [] zeros) sender_first)
    ≡ Some (1 ∷ [])
unfolding computed
cursor_of = refl

-- ---- a system with two readers has two cursors, in the order of its readers

abbrev hearing : Params
hearing = record no_params { reads = hit ∷ 1 ∷ hit ∷ [] }

abbrev kept : State
kept = record (loaded (plain [] []) [] zeros) {
  events = send_all (pos 4 ∷ pos 5 ∷ []) empty_queue ∷ send (pos 6) empty_queue ∷ empty_queue ∷ empty_queue ∷ [];
}

own_unread : (shown hearing (record { last_run = 1; cursors = 1 ∷ 0 ∷ 2 ∷ []; registers = zeros }) kept []).unread ≡ (pos 5 ∷ []) ∷ (pos 6 ∷ []) ∷ [] ∷ []
unfolding computed
own_unread = refl

-- ---- registers are kept from run to run

abbrev counter : BodyMeaning
counter seen = Ok (record (untouched no_params seen) { registers = add_first (pos 1) seen.registers })

counted : option_map (λ (w : State). (get_or w.systems 0 no_memory).registers)
    (runs_from (plain (system no_params ∷ []) (0 ∷ [])) (counter ∷ []) (loaded (plain (system no_params ∷ []) (0 ∷ [])) [] zeros)
    ((Start 0 ∷ Finish 0 ∷ Sync 0 ∷ []) ∷ (Start 0 ∷ Finish 0 ∷ Sync 0 ∷ []) ∷ []))
    ≡ Some (pos 2 ∷ pos 0 ∷ pos 0 ∷ pos 0 ∷ pos 0 ∷ pos 0 ∷ pos 0 ∷ pos 0 ∷ [])
unfolding computed
counted = refl

-- ---- who watches a filter: it writes its rows and adds 1 to Total for each; another writes them after it, or nobody does

abbrev watching : Term → Params
watching filter = record (asks ((Mut health ∷ filter ∷ []) ∷ [])) { res_mut = total ∷ [] }

abbrev writing : Params
writing = asks ((Mut health ∷ []) ∷ [])

abbrev watcher : Term → BodyMeaning
watcher filter seen = Ok (record (untouched (watching filter) seen) {
  cells = map (λ row. Some (pos 5 ∷ []) ∷ None ∷ []) (head_or [] seen.rows) ∷ [];
  res_mut = Some (head_or (pos 0) seen.res_mut +ℤ pos (length (head_or [] seen.rows))) ∷ [];
})

abbrev watched_alone : Term → Schedule
watched_alone filter = plain (system (watching filter) ∷ []) (0 ∷ [])

abbrev watched : Term → Schedule
watched filter = plain (system (watching filter) ∷ system_after (0 ∷ []) writing ∷ []) (0 ∷ 1 ∷ [])

-- Total after so many runs of a schedule from one entity with health
abbrev total_after : Schedule → List BodyMeaning → List (List Step) → Option ℤ
total_after s bodies runs = option_map total_of (runs_from s bodies (loaded s ((given health (pos 5 ∷ []) ∷ []) ∷ []) zeros) runs)

abbrev alone : List Step
alone = Start 0 ∷ Finish 0 ∷ Sync 0 ∷ []

-- its own writes of the run before are not seen
own_writes : total_after (watched_alone (Changed health)) (watcher (Changed health) ∷ []) (alone ∷ alone ∷ alone ∷ []) ≡ Some (pos 1)
unfolding computed
own_writes = refl

-- another's are, in each run after them
others_twice : total_after (watched (Changed health)) (watcher (Changed health) ∷ changes (adds_to_first (pos 0)) writing ∷ []) (sender_first ∷ sender_first ∷ []) ≡ Some (pos 2)
unfolding computed
others_twice = refl

others_thrice : total_after (watched (Changed health)) (watcher (Changed health) ∷ changes (adds_to_first (pos 0)) writing ∷ []) (sender_first ∷ sender_first ∷ sender_first ∷ []) ≡ Some (pos 3)
unfolding computed
others_thrice = refl

-- what is written was not added
added_once : total_after (watched (Added health)) (watcher (Added health) ∷ changes (adds_to_first (pos 0)) writing ∷ []) (sender_first ∷ sender_first ∷ sender_first ∷ []) ≡ Some (pos 1)
unfolding computed
added_once = refl
