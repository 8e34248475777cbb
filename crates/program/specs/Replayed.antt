-- Recorded runs that are taken again, one after the other, and what they leave.
use Rattle.std.specs.Prelude.{ℕ, ◌+◌, ◌≡◌, List, [], ◌∷◌, ◌++◌, length, Option, IfSome}
use Rattle.model.specs.shown.Outcome.{BodyMeaning}
use Rattle.model.specs.state.State.{State}
use Rattle.model.specs.steps.Schedule.{Schedule, Recorded, recording}
use Rattle.engine.specs.declared.faults.RunFault.TheVariants as stop
use Rattle.trace_checker.specs.declared.replay.ReplayFault.{ReplayFault}
use Rattle.trace_checker.specs.declared.replay.ReplayFault.TheVariants as replay
use Rattle.trace_checker.specs.Grammar.{AreFitting, trace_text}
use Rattle.model.specs.runs.Replays.{IsReplayed}
use Rattle.trace_checker.specs.ReplayFaults.{IsReplayFault}
use Rattle.state_lines.specs.WorldText.{world_text}
use Rattle.program.specs.Said.{IsShortTrace}
use Rattle.program.specs.declared.fault.Fault.{Fault}
use Rattle.program.specs.declared.fault.Fault.TheVariants.{BadStep, UnfinishedRun, WrongAnswer, WrongSets, ClockSpent, IdsSpent, BodyRefused, Memory}

-- ---- runs that are taken again

-- runs one after the other: each is replayed from the state that the one before leaves
abbrev pub AreReplayed : Schedule → List BodyMeaning → State → List Recorded → State → Type 0
AreReplayed s bodies w [] w' = w ≡ w'
AreReplayed s bodies w (r ∷ runs) w' = (middle : State) × IsReplayed (recording s r.sets) bodies w r.steps middle × AreReplayed s bodies middle runs w'

-- the text of the state that all runs of a trace leave, which is no longer than one may be, with their number
pub record IsTextOfReplay (s : Schedule) (bodies : List BodyMeaning) (start : State) (trace : Option (List ℕ)) (text : List ℕ) : Type 0 where
  pub within : IfSome trace IsShortTrace
  pub runs : List Recorded
  pub fitting : AreFitting runs
  pub read : IfSome trace (λ bytes. bytes ≡ trace_text runs)
  pub final : State
  pub replayed : AreReplayed s bodies start runs final
  pub same : text ≡ world_text (length runs) final

-- ---- a run that is refused

-- a replay stops so: it has no workers, and no engine that an earlier run spoiled
abbrev pub IsOfReplay : ReplayFault → Type 0
IsOfReplay (replay.Run stop.NoWorker) = ⊥
IsOfReplay (replay.Run stop.Spoiled) = ⊥
IsOfReplay fault = Unit {0}

-- what is told then of a recorded run, the one of this number
abbrev pub fault_of_replay : ℕ → ReplayFault → Fault
fault_of_replay run (replay.Bad step fault) = BadStep run step fault
fault_of_replay run replay.Unfinished = UnfinishedRun run
fault_of_replay run (replay.WrongAnswer step) = WrongAnswer run step
fault_of_replay run (replay.WrongSets step) = WrongSets run step
fault_of_replay run (replay.Run stop.ClockSpent) = ClockSpent
fault_of_replay run (replay.Run stop.IdsSpent) = IdsSpent
fault_of_replay run (replay.Run (stop.BodyFault refusal)) = BodyRefused
fault_of_replay run (replay.Run fault) = Memory

-- what is told of a recorded run, the one of this number, which is not replayed from a state
abbrev pub IsRefusedRun : Schedule → List BodyMeaning → State → Recorded → ℕ → Fault → Type 0
IsRefusedRun s bodies w r number (BadStep run step fault) = (run ≡ number) × IsReplayFault s bodies w r (replay.Bad step fault)
IsRefusedRun s bodies w r number (UnfinishedRun run) = (run ≡ number) × IsReplayFault s bodies w r replay.Unfinished
IsRefusedRun s bodies w r number (WrongAnswer run step) = (run ≡ number) × IsReplayFault s bodies w r (replay.WrongAnswer step)
IsRefusedRun s bodies w r number (WrongSets run step) = (run ≡ number) × IsReplayFault s bodies w r (replay.WrongSets step)
IsRefusedRun s bodies w r number ClockSpent = IsReplayFault s bodies w r (replay.Run stop.ClockSpent)
IsRefusedRun s bodies w r number IdsSpent = IsReplayFault s bodies w r (replay.Run stop.IdsSpent)
IsRefusedRun s bodies w r number BodyRefused = (refusal : ℕ) × IsReplayFault s bodies w r (replay.Run (stop.BodyFault refusal))
IsRefusedRun s bodies w r number Memory = Unit {0}
IsRefusedRun s bodies w r number _ = ⊥

-- one of some runs is refused, by its number from 1, from the state that those before it leave, which are replayed
pub record IsRefusedAmong (s : Schedule) (bodies : List BodyMeaning) (start : State) (runs : List Recorded) (fault : Fault) : Type 0 where
  pub before : List Recorded
  pub run : Recorded
  pub later : List Recorded
  pub whole : runs ≡ before ++ run ∷ later
  pub middle : State
  pub replayed : AreReplayed s bodies start before middle
  pub refused : IsRefusedRun s bodies middle run (length before + 1) fault

-- so it is with the runs of a trace, which is no longer than one may be
pub record IsRefusedReplay (s : Schedule) (bodies : List BodyMeaning) (start : State) (trace : Option (List ℕ)) (fault : Fault) : Type 0 where
  pub within : IfSome trace IsShortTrace
  pub runs : List Recorded
  pub fitting : AreFitting runs
  pub read : IfSome trace (λ bytes. bytes ≡ trace_text runs)
  pub refused : IsRefusedAmong s bodies start runs fault
