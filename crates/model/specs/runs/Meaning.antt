-- What a history does to a state: interleaved, where systems run at once, and serial, where each is whole at its start.
use Rattle.std.specs.Prelude.{ℕ, ◌≡◌, cond, ◌==◌, List, [], ◌∷◌, ◌++◌, Option, Some, None}
use Rattle.std.specs.Option.{option_and_then}
use Rattle.model.specs.declared.steps.Step.{Step}
use Rattle.model.specs.declared.steps.Step.TheVariants.{Cond, Start, Skip, Finish, Sync}
use Rattle.model.specs.Lists.{provided}
use Rattle.model.specs.state.State.{State}
use Rattle.model.specs.state.KindSets.{kind_sets_of}
use Rattle.model.specs.shown.Outcome.{BodyMeaning}
use Rattle.model.specs.steps.Schedule.{Schedule}
use Rattle.model.specs.steps.Lawful.{sets_at}
use Rattle.model.specs.runs.RunState.{RunState, RunningSystem, begin_run, can_ask, can_sync, can_start, started_system, after_start, finish, answer_of, after_condition, after_sync}

-- ---- interleaved

-- an interleaved run: its run state, and the systems that run, in the order of their starts
pub record Interleaved : Type 0 where
  pub run : RunState
  pub running_systems : List RunningSystem

-- the running system of a number
abbrev pub running_system : ℕ → List RunningSystem → Option RunningSystem
running_system n [] = None
running_system n (p ∷ ps) = cond (p.system == n) (Some p) (running_system n ps)

-- the running systems without that of a number
abbrev pub without_system : ℕ → List RunningSystem → List RunningSystem
without_system n [] = []
without_system n (p ∷ ps) = cond (p.system == n) ps (p ∷ without_system n ps)

-- a run state, where there is one, with these running systems
abbrev pub with_running_systems : List RunningSystem → Option RunState → Option Interleaved
with_running_systems ps None = None
with_running_systems ps (Some run) = Some (record { run = run; running_systems = ps })

-- one step, interleaved: a start shows, and the finish lays the outcome over what is there then
abbrev pub interleaved_step : Schedule → List BodyMeaning → Step → Interleaved → Option Interleaved
interleaved_step s bodies (Cond c answer) w = provided (can_ask w.run) (record { run = after_condition s c w.run; running_systems = w.running_systems })
interleaved_step s bodies (Start n) w = provided (can_start w.run)
    (record { run = after_start s n w.run; running_systems = w.running_systems ++ started_system s n w.run ∷ [] })
interleaved_step s bodies (Skip n) w = Some w
interleaved_step s bodies (Finish n) w =
    option_and_then (λ p. with_running_systems (without_system n w.running_systems) (finish s bodies p w.run)) (running_system n w.running_systems)
interleaved_step s bodies (Sync k) w = provided (can_sync s k w.run) (record { run = after_sync s k w.run; running_systems = w.running_systems })

-- what a history makes of a state, interleaved
abbrev pub interleaved : Schedule → List BodyMeaning → State → List Step → Option Interleaved
interleaved s bodies start [] = with_running_systems [] (begin_run s start)
interleaved s bodies start (step ∷ h) = option_and_then (interleaved_step s bodies step) (interleaved s bodies start h)

-- ---- serial

-- a start taken whole: what the system was shown, and the finish at once
abbrev pub serial_start : Schedule → List BodyMeaning → ℕ → RunState → Option RunState
serial_start s bodies n run = option_and_then (finish s bodies (started_system s n run)) (provided (can_start run) (after_start s n run))

-- one step on one thread: a start is whole, and a finish does nothing
abbrev pub serial_step : Schedule → List BodyMeaning → Step → RunState → Option RunState
serial_step s bodies (Cond c answer) run = provided (can_ask run) (after_condition s c run)
serial_step s bodies (Start n) run = serial_start s bodies n run
serial_step s bodies (Skip n) run = Some run
serial_step s bodies (Finish n) run = Some run
serial_step s bodies (Sync k) run = provided (can_sync s k run) (after_sync s k run)

-- what a history makes of a state, on one thread
abbrev pub serial : Schedule → List BodyMeaning → State → List Step → Option RunState
serial s bodies start [] = begin_run s start
serial s bodies start (step ∷ h) = option_and_then (serial_step s bodies step) (serial s bodies start h)

-- ---- answers

-- an answer is the condition's meaning on the interleaved run before it, where that is defined
abbrev pub IsTrueAnswer : Schedule → Step → Option Interleaved → Type 0
IsTrueAnswer s (Cond c answer) (Some w) = answer ≡ answer_of s c w.run
IsTrueAnswer s step w = Unit {0}

-- every answer of a history is true
abbrev pub HasTrueAnswers : Schedule → List BodyMeaning → State → List Step → Type 0
HasTrueAnswers s bodies start [] = Unit {0}
HasTrueAnswers s bodies start (step ∷ h) = IsTrueAnswer s step (interleaved s bodies start h) × HasTrueAnswers s bodies start h

-- ---- kind sets

-- recorded kind sets, where there are any, are those of the living entities of a run, where it is defined
abbrev pub AreSetsOf : Option (List ℕ) → Option Interleaved → Type 0
AreSetsOf (Some numbers) (Some w) = numbers ≡ kind_sets_of w.run.state.world.slots
AreSetsOf sets w = Unit {0}

-- all that is recorded is true: at the opening, and after each sync point
abbrev pub HasTrueSets : Schedule → List BodyMeaning → State → List Step → Type 0
HasTrueSets s bodies start [] = AreSetsOf (sets_at s []) (interleaved s bodies start [])
HasTrueSets s bodies start (Cond c answer ∷ h) = HasTrueSets s bodies start h
HasTrueSets s bodies start (Start n ∷ h) = HasTrueSets s bodies start h
HasTrueSets s bodies start (Skip n ∷ h) = HasTrueSets s bodies start h
HasTrueSets s bodies start (Finish n ∷ h) = HasTrueSets s bodies start h
HasTrueSets s bodies start (Sync k ∷ h) = AreSetsOf (sets_at s (Sync k ∷ h)) (interleaved s bodies start (Sync k ∷ h)) × HasTrueSets s bodies start h
