-- The laws of a run.
use Rattle.std.specs.List.{AllByRecursion}
use Rattle.std.specs.Prelude.{ℕ, ℤ, Bool, true, ◌≡◌, ◌<◌, List, ◌∷◌, ◌++◌, map, length, Option, Some, None, IsSome, MatchOption, option_map, ◌⊎◌, ◌↔◌, ◌+◌, ◌*◌, ◌≤◌}
use Rattle.model.specs.declared.steps.Step.{Step}
use Rattle.model.specs.declared.steps.Step.TheVariants.{Cond, Start, Finish}
use Rattle.model.specs.declared.steps.Ready.{Ready}
use Rattle.model.specs.declared.steps.StepFault.{StepFault}
use Rattle.model.specs.Lists.{has}
use Rattle.model.specs.state.State.{State, most_indices, resource_count}
use Rattle.model.specs.state.Loaded.{Given, loaded}
use Rattle.model.specs.access.Access.{Params}
use Rattle.model.specs.access.Conflict.{Conflict, conflicts, IsLeastDatum, least_datum}
use Rattle.model.specs.access.Meeting.{Meet, meet}
use Rattle.model.specs.access.Condition.{means}
use Rattle.model.specs.shown.Outcome.{BodyMeaning}
use Rattle.model.specs.steps.Schedule.{Schedule, Recorded, recording, condition_of}
use Rattle.model.specs.steps.Built.{IsBuilt}
use Rattle.model.specs.steps.Lawful.{May, IsLawful, IsComplete, NoneRuns, runs}
use Rattle.model.specs.steps.Faults.{IsFirstFault}
use Rattle.model.specs.steps.Judged.{fault_of, is_lawful, is_complete}
use Rattle.model.specs.steps.Ready.{IsReady, OnlyFinish, step_of}
use Rattle.model.specs.steps.Widths.{IsSingle, IsWide, running_after}
use Rattle.model.specs.runs.RunState.{RunState, started_system, asked_of, answer_of}
use Rattle.model.specs.runs.Meaning.{Interleaved, serial, interleaved, HasTrueSets}
use Rattle.model.specs.runs.Causes.{Cause, serial_cause, interleaved_cause}
use Rattle.model.specs.steps.Ambiguity.{Settled}
use Rattle.model.specs.steps.Order.{KeepsOrder}
use Rattle.model.specs.state.Shape.{IsStateOf, IsRunStateOf, BodiesKeepWithin}
use Rattle.model.specs.runs.Runs.{IsSingleRun, AreSingleRuns, HasRuns, IsStopped, IsSoundRun, AreSoundRuns}
use Rattle.model.specs.runs.WideRuns.{AreWideRuns, IsWideStopped}
use Rattle.model.specs.runs.Replays.{Replay, IsReplayed, ComesTo}
use Rattle.model.specs.state.Agreement.{AreRuns, Agrees, after_runs, AgreesWithAll}

-- ---- order

-- a lawful list keeps the order that the schedule asks for
abbrev pub ListsKeepOrder : Type 0
ListsKeepOrder = (s : Schedule) (h : List Step) → IsLawful s h → KeepsOrder s h

-- ---- one thread

-- the run state of a complete list, interleaved, is that of one thread, and the one is defined exactly where the other is. What the list
-- records of kind sets is true
abbrev pub InterleavedIsSerial : Type 0
InterleavedIsSerial = (s : Schedule) (bodies : List BodyMeaning) (start : State) (h : List Step) → IsLawful s h → IsComplete s h →
    HasTrueSets s bodies start h → option_map (λ w. w.run) (interleaved s bodies start h) ≡ serial s bodies start h

-- what a start shows and a condition is asked about is the same, interleaved and serial
abbrev pub SameIsShown : Type 0
SameIsShown = (s : Schedule) (bodies : List BodyMeaning) (start : State) (h : List Step) (w : Interleaved) (run : RunState) → IsLawful s h →
    HasTrueSets s bodies start h → interleaved s bodies start h ≡ Some w → serial s bodies start h ≡ Some run →
    ((n : ℕ) → May s h (Start n) → started_system s n w.run ≡ started_system s n run)
    × ((c : ℕ) (answer : Bool) → May s h (Cond c answer) → asked_of s c w.run ≡ asked_of s c run)

-- ---- agreement

-- under the same bodies any two lists of as many runs of a settled schedule, from states that agree, leave states that agree
abbrev pub RunsAgree : Type 0
RunsAgree = (widths : ℕ → ℕ) (s : Schedule) (bodies : List BodyMeaning) (v w : State) (hs gs : List Recorded) (v' w' : State) →
    IsBuilt s → Settled s → BodiesKeepWithin widths s bodies →
    IsStateOf widths s v → IsStateOf widths s w → Agrees s v w → length hs ≡ length gs →
    AreRuns s bodies v hs → AreRuns s bodies w gs →
    after_runs s bodies v hs ≡ Some v' → after_runs s bodies w gs ≡ Some w' → Agrees s v' w'

-- so what the runs of a coordinator leave agrees with what any as many runs leave
abbrev pub WideRunsAgree : Type 0
WideRunsAgree = (widths : ℕ → ℕ) (width : ℕ) (s : Schedule) (bodies : List BodyMeaning) (v : State) (hs : List Recorded) (v' : State) →
    IsBuilt s → BodiesKeepWithin widths s bodies → IsStateOf widths s v →
    AreWideRuns width s bodies v hs v' → AgreesWithAll widths s bodies v (length hs) v'

-- and what a run leaves that was taken again agrees with what any run leaves
abbrev pub ReplayedRunAgrees : Type 0
ReplayedRunAgrees = (widths : ℕ → ℕ) (s : Schedule) (bodies : List BodyMeaning) (v : State) (r : Recorded) (v' : State) →
    IsBuilt s → BodiesKeepWithin widths s bodies → IsStateOf widths s v →
    IsReplayed (recording s r.sets) bodies v r.steps v' → AgreesWithAll widths s bodies v 1 v'

-- ---- continuation

-- a lawful list that isn't complete has a next step
abbrev pub ListsGoOn : Type 0
ListsGoOn = (s : Schedule) (h : List Step) → IsBuilt s → IsLawful s h → (IsComplete s h → ⊥) → (step : Step) × May s h step

-- a lawful list is no longer than its conditions, twice its systems and its sync points
abbrev pub ListsEnd : Type 0
ListsEnd = (s : Schedule) (h : List Step) → IsLawful s h → length h ≤ length s.conditions + 2 * length s.systems + s.syncs

-- where nothing runs and nothing is ready the list is complete
abbrev pub ListsComplete : Type 0
ListsComplete = (s : Schedule) (h : List Step) → IsBuilt s → IsLawful s h → NoneRuns h → IsReady s h None → IsComplete s h

-- what is ready is accepted, and where nothing is ready no step but a finish is
abbrev pub ReadyIsAccepted : Type 0
ReadyIsAccepted = (s : Schedule) (h : List Step) → IsBuilt s → IsLawful s h →
    ((r : Ready) (answer : Bool) → IsReady s h (Some r) → May s h (step_of r answer))
    × (IsReady s h None → OnlyFinish s h)

-- ---- faults

-- a step that may not come has a fault that is told, one that may has none, and no step has two
abbrev pub FaultsAreExact : Type 0
FaultsAreExact = (s : Schedule) (h : List Step) (step : Step) → IsLawful s h →
    (May s h step ⊎ ((fault : StepFault) × IsFirstFault s h step fault))
    × ((fault : StepFault) → IsFirstFault s h step fault → May s h step → ⊥)
    × ((fault other : StepFault) → IsFirstFault s h step fault → IsFirstFault s h step other → fault ≡ other)

-- the computed fault of a step is the one that is told, and where none is computed the step may come
abbrev pub FaultsAreComputed : Type 0
FaultsAreComputed = (s : Schedule) (h : List Step) (step : Step) → IsLawful s h →
    MatchOption (fault_of s h step) (May s h step) (λ fault. IsFirstFault s h step fault)

-- a list that passes the computed tests is lawful, and complete
abbrev pub ListsAreComputed : Type 0
ListsAreComputed = (s : Schedule) (h : List Step) → (is_lawful s h ≡ true → IsLawful s h) × (is_complete s h ≡ true → IsComplete s h)

-- ---- the lists of a coordinator

-- each front of the single-threaded list is a list in which at most one system runs
abbrev pub SingleIsWide : Type 0
SingleIsWide = (s : Schedule) (h : List Step) → IsSingle s h → IsWide 1 s h

-- and each list in which at most one system runs is a front of the single-threaded list
abbrev pub WideOfOneIsSingle : Type 0
WideOfOneIsSingle = (s : Schedule) (h : List Step) → IsWide 1 s h → IsSingle s h

-- at each place of a list with room for so many, no more of them run
abbrev pub AtMostRun : Type 0
AtMostRun = (width : ℕ) (s : Schedule) (later front : List Step) → IsWide width s (later ++ front) →
    (length (running_after front) ≤ width) × ((n : ℕ) → has n (running_after front) ≡ runs front n)

-- where there is room for one more and something is ready, no finish is taken
abbrev pub FinishesWait : Type 0
FinishesWait = (width : ℕ) (s : Schedule) (later front : List Step) (n : ℕ) (r : Ready) → IsWide width s (later ++ Finish n ∷ front) →
    length (running_after front) < width → IsReady s front (Some r) → ⊥

-- ---- shape

-- a run keeps the shape of a state, interleaved and serial
abbrev pub InterleavedKeepsShape : Type 0
InterleavedKeepsShape = (widths : ℕ → ℕ) (s : Schedule) (bodies : List BodyMeaning) (start : State) (h : List Step) (w : Interleaved) →
    IsBuilt s → BodiesKeepWithin widths s bodies → IsStateOf widths s start → IsLawful s h →
    interleaved s bodies start h ≡ Some w → IsRunStateOf widths s w.run

abbrev pub SerialKeepsShape : Type 0
SerialKeepsShape = (widths : ℕ → ℕ) (s : Schedule) (bodies : List BodyMeaning) (start : State) (h : List Step) (run : RunState) →
    IsBuilt s → BodiesKeepWithin widths s bodies → IsStateOf widths s start → IsLawful s h →
    serial s bodies start h ≡ Some run → IsRunStateOf widths s run

-- the state as loaded has the shape of a state
abbrev pub LoadedHasShape : Type 0
LoadedHasShape = (widths : ℕ → ℕ) (s : Schedule) (entities : List (List Given)) (values : List ℤ) →
    AllByRecursion (AllByRecursion (λ given. length given.words ≡ widths given.kind)) entities →
    length entities ≤ most_indices → length values ≡ resource_count → IsStateOf widths s (loaded s entities values)

-- ---- conflict, conditions, causes

-- the computed test of a conflict is true exactly where there is one, and the computed datum is the least
abbrev pub ConflictsAreTested : Type 0
ConflictsAreTested = (a b : Params) → ((conflicts a b ≡ true) ↔ Conflict a b) × IsLeastDatum a b (least_datum a b)

-- the computed test of two accesses that meet is true exactly where they do, and where no kind sets are recorded they meet exactly where
-- they conflict
abbrev pub MeetsAreTested : Type 0
MeetsAreTested = (sets : Option (List ℕ)) (a b : Params) → ((meet sets a b ≡ true) ↔ Meet sets a b) × (Meet None a b ↔ Conflict a b)

-- a condition's answer depends only on what it is asked about
abbrev pub AnswersAreAsked : Type 0
AnswersAreAsked = (s : Schedule) (c : ℕ) (run : RunState) → answer_of s c run ≡ means (condition_of s c) (asked_of s c run)

-- a serial meaning lacks exactly where it meets a cause; so does an interleaved one of a lawful list
abbrev pub CausesAreExact : Type 0
CausesAreExact = (s : Schedule) (bodies : List BodyMeaning) (start : State) (h : List Step) →
    ((serial s bodies start h ≡ None) ↔ IsSome (serial_cause s bodies start h))
    × (IsLawful s h → (interleaved s bodies start h ≡ None) ↔ IsSome (interleaved_cause s bodies start h))

-- ---- runs

-- a complete lawful list that has a meaning is a sound run, however many systems run at once
abbrev pub RunsAreSound : Type 0
RunsAreSound = (s : Schedule) (bodies : List BodyMeaning) (w : State) (h : List Step) (end : Interleaved) → IsLawful s h → IsComplete s h →
    HasTrueSets s bodies w h → interleaved s bodies w h ≡ Some end → IsSoundRun s bodies w h end.run.state

-- so are the runs of a coordinator, one after the other
abbrev pub WideRunsAreSound : Type 0
WideRunsAreSound = (width : ℕ) (s : Schedule) (bodies : List BodyMeaning) (w : State) (hs : List Recorded) (w' : State) →
    AreWideRuns width s bodies w hs w' → AreSoundRuns s bodies w hs w'

-- with room for one, the runs of a coordinator are those of one thread
abbrev pub WideRunsOfOneAreSingle : Type 0
WideRunsOfOneAreSingle = (s : Schedule) (bodies : List BodyMeaning) (w : State) (hs : List Recorded) (w' : State) →
    AreWideRuns 1 s bodies w hs w' → AreSingleRuns s bodies w hs w'

-- and where they stop, the runs of one thread stop for the same cause
abbrev pub WideStopsOfOneAreSingle : Type 0
WideStopsOfOneAreSingle = (s : Schedule) (bodies : List BodyMeaning) (times : ℕ) (w : State) (cause : Cause) →
    IsWideStopped 1 s bodies times w cause → IsStopped s bodies times w cause

-- ---- the runs of one thread

-- the runs of one thread are sound
abbrev pub SingleRunsAreSound : Type 0
SingleRunsAreSound = (s : Schedule) (bodies : List BodyMeaning) (w : State) (hs : List Recorded) (w' : State) →
    AreSingleRuns s bodies w hs w' → AreSoundRuns s bodies w hs w'

-- the list of a run on one thread is one, and so is its end
abbrev pub SingleRunIsOne : Type 0
SingleRunIsOne = (s : Schedule) (bodies : List BodyMeaning) (w : State) (h g : List Step) (w' v' : State) →
    IsSingleRun s bodies w h w' → IsSingleRun s bodies w g v' → (h ≡ g) × (w' ≡ v')

-- so are the steps and the end of as many runs, whatever they record
abbrev pub SingleRunsAreOne : Type 0
SingleRunsAreOne = (s : Schedule) (bodies : List BodyMeaning) (w : State) (hs gs : List Recorded) (w' v' : State) →
    length hs ≡ length gs → AreSingleRuns s bodies w hs w' → AreSingleRuns s bodies w gs v' → (map (λ r. r.steps) hs ≡ map (λ r. r.steps) gs) × (w' ≡ v')

-- where so many runs have a meaning none of them stops, for any cause
abbrev pub DefinedRunsGoThrough : Type 0
DefinedRunsGoThrough = (s : Schedule) (bodies : List BodyMeaning) (times : ℕ) (w : State) (cause : Cause) →
    HasRuns s bodies times w → IsStopped s bodies times w cause → ⊥

-- runs on one thread from one state stop for one cause alone
abbrev pub StopsAreOne : Type 0
StopsAreOne = (s : Schedule) (bodies : List BodyMeaning) (times others : ℕ) (w : State) (cause other : Cause) →
    IsStopped s bodies times w cause → IsStopped s bodies others w other → cause ≡ other

-- ---- runs taken again

-- a run that is taken again comes to one thing: it leaves one state, or has one first wrong answer or record, or stops for one cause
abbrev pub ReplaysAreOne : Type 0
ReplaysAreOne = (s : Schedule) (bodies : List BodyMeaning) (w : State) (h : List Step) (one other : Replay) →
    ComesTo s bodies w h one → ComesTo s bodies w h other → one ≡ other
