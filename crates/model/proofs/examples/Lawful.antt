-- Which lists of steps are lawful, and which fault is told of a step that may not come.
use Rattle.std.proofs.Common.{◌≡◌, pos, Bool, true, false, List, [], ◌∷◌, Option, Some, None, refl}
use Rattle.model.specs.declared.steps.Step.{Step}
use Rattle.model.specs.declared.steps.Step.TheVariants.{Cond, Start, Skip, Finish, Sync}
use Rattle.model.specs.declared.steps.StepFault.{StepFault}
use Rattle.model.specs.declared.steps.StepFault.TheVariants.{Unknown, ConditionOpen, ConditionFalse, ConditionTrue, Conflict, NotRunning, LevelOpen, Repeated, NotReady}
use Rattle.model.specs.access.Query.Term.{Mut}
use Rattle.model.specs.access.Access.{no_params}
use Rattle.model.specs.access.Condition.Condition.{ResourceAtLeast, ResourceEquals}
use Rattle.model.specs.steps.Schedule.{Schedule}
use Rattle.model.specs.steps.Lawful.{IsLawful, runs}
use Rattle.model.specs.steps.Judged.{fault_of, is_lawful, is_complete}
use Rattle.model.proofs.faults.Judging.{lists_are_computed}
use Rattle.model.proofs.examples.Bodies.{position, round, asks, system, condition, plain, history}
use Rattle.model.proofs.examples.Filters.{two_writers}
use Rattle.model.proofs.examples.Conditions.{guarded}
use Rattle.model.proofs.examples.Commands.{deferring, ignoring}

-- the fault of a step after a list
abbrev fault_after : Schedule → List Step → Step → Option StepFault
fault_after s steps step = fault_of s (history steps) step

-- whether a list is lawful and complete
abbrev is_whole : Schedule → List Step → Bool × Bool
is_whole s steps = (is_lawful s (history steps), is_complete s (history steps))

-- ---- two writers that filters keep apart run at once

at_once : is_whole two_writers (Start 0 ∷ Start 1 ∷ Finish 1 ∷ Finish 0 ∷ Sync 0 ∷ []) ≡ (true, true)
at_once = refl

-- both run, and the list is lawful: what the law of running systems speaks of
pub both_run : IsLawful two_writers (Start 1 ∷ Start 0 ∷ []) × (runs (Start 1 ∷ Start 0 ∷ []) 0 ≡ true) × (runs (Start 1 ∷ Start 0 ∷ []) 1 ≡ true)
both_run = ((lists_are_computed two_writers (Start 1 ∷ Start 0 ∷ [])).0 refl, refl, refl)

-- ---- two writers of the same rows do not

abbrev rivals : Schedule
rivals = plain (system (asks ((Mut position ∷ []) ∷ [])) ∷ system (asks ((Mut position ∷ []) ∷ [])) ∷ []) (0 ∷ 1 ∷ [])

rival_waits : fault_after rivals (Start 0 ∷ []) (Start 1) ≡ Some Conflict
rival_waits = refl

one_after_the_other : is_whole rivals (Start 0 ∷ Finish 0 ∷ Start 1 ∷ Finish 1 ∷ Sync 0 ∷ []) ≡ (true, true)
one_after_the_other = refl

-- ---- a condition is not asked while a system runs that writes what it reads

abbrev writer_and_asker : Schedule
writer_and_asker = record {
  systems = system (record no_params { res_mut = round ∷ [] }) ∷ system no_params ∷ [];
  conditions = condition (ResourceAtLeast round (pos 0)) (1 ∷ []) ∷ [];
  syncs = 1;
  order = 0 ∷ 1 ∷ [];
  silences = [];
  sets = None;
}

asked_too_early : fault_after writer_and_asker (Start 0 ∷ []) (Cond 0 true) ≡ Some Conflict
asked_too_early = refl

asked_in_time : is_whole writer_and_asker (Start 0 ∷ Finish 0 ∷ Cond 0 true ∷ Start 1 ∷ Finish 1 ∷ Sync 0 ∷ []) ≡ (true, true)
asked_in_time = refl

-- ---- faults of one system without a condition, and of one with it

abbrev unconditional : Schedule
unconditional = plain (system no_params ∷ []) (0 ∷ [])

abbrev conditional : Schedule
conditional = record { systems = system no_params ∷ []; conditions = condition (ResourceEquals round (pos 9)) (0 ∷ []) ∷ []; syncs = 1; order = 0 ∷ []; silences = []; sets = None }

skip_without_condition : fault_after unconditional [] (Skip 0) ≡ Some ConditionTrue
skip_without_condition = refl

start_before_asked : fault_after conditional [] (Start 0) ≡ Some ConditionOpen
start_before_asked = refl

start_after_no : fault_after conditional (Cond 0 false ∷ []) (Start 0) ≡ Some ConditionFalse
start_after_no = refl

finish_of_skipped : fault_after conditional (Cond 0 false ∷ Skip 0 ∷ []) (Finish 0) ≡ Some NotRunning
finish_of_skipped = refl

skip_again : fault_after conditional (Cond 0 false ∷ Skip 0 ∷ []) (Skip 0) ≡ Some Repeated
skip_again = refl

no_such_system : fault_after conditional [] (Start 1) ≡ Some Unknown
no_such_system = refl

sync_before_skip : fault_after conditional (Cond 0 false ∷ []) (Sync 0) ≡ Some LevelOpen
sync_before_skip = refl

-- a condition and a skip: the list goes on until it is complete
skipped_list : is_whole conditional (Cond 0 false ∷ Skip 0 ∷ Sync 0 ∷ []) ≡ (true, true)
skipped_list = refl

skip_is_open : fault_after conditional (Cond 0 false ∷ []) (Skip 0) ≡ None
skip_is_open = refl

-- ---- a condition of a set is asked once, and its members are skipped

guarded_list : is_whole guarded (Cond 0 false ∷ Skip 0 ∷ Skip 1 ∷ Skip 2 ∷ Start 3 ∷ Finish 3 ∷ Sync 0 ∷ []) ≡ (true, true)
guarded_list = refl

asked_twice : fault_after guarded (Cond 0 false ∷ Skip 0 ∷ []) (Cond 0 false) ≡ Some Repeated
asked_twice = refl

-- ---- levels: the second system stands behind the first sync point, or not

two_levels : is_whole deferring (Start 0 ∷ Finish 0 ∷ Sync 0 ∷ Start 1 ∷ Finish 1 ∷ Sync 1 ∷ []) ≡ (true, true)
two_levels = refl

before_its_sync : fault_after deferring (Start 0 ∷ Finish 0 ∷ []) (Start 1) ≡ Some NotReady
before_its_sync = refl

one_level : is_whole ignoring (Start 0 ∷ Finish 0 ∷ Start 1 ∷ Finish 1 ∷ Sync 0 ∷ []) ≡ (true, true)
one_level = refl

-- a predecessor that has only started is not enough
before_its_predecessor : fault_after ignoring (Start 0 ∷ []) (Start 1) ≡ Some NotReady
before_its_predecessor = refl

-- an unanswered condition is told before a conflict, and a conflict only once it is answered
abbrev asked_rivals : Schedule
asked_rivals = record {
  systems = rivals.systems;
  conditions = condition (ResourceEquals round (pos 0)) (1 ∷ []) ∷ [];
  syncs = 1;
  order = 0 ∷ 1 ∷ [];
  silences = [];
  sets = None;
}

open_before_conflict : fault_after asked_rivals (Start 0 ∷ []) (Start 1) ≡ Some ConditionOpen
open_before_conflict = refl

false_before_conflict : fault_after asked_rivals (Start 0 ∷ Cond 0 false ∷ []) (Start 1) ≡ Some ConditionFalse
false_before_conflict = refl

then_conflict : fault_after asked_rivals (Start 0 ∷ Cond 0 true ∷ []) (Start 1) ≡ Some Conflict
then_conflict = refl
