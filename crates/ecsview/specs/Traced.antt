-- What is explained of a trace of a program file: that it is accepted, or why it is refused.
use Rattle.std.specs.Prelude.{ℕ, ◌≡◌, ◌⊎◌, Bool, true, false, List, ◌∷◌, ◌++◌, [], codes, length, Option, string_bytes}
use Rattle.model.specs.shown.Outcome.{BodyMeaning}
use Rattle.model.specs.state.State.{State}
use Rattle.model.specs.steps.Schedule.{Schedule}
use Rattle.findings.specs.declared.loading.Loaded.{Loaded}
use Rattle.program.specs.Refused.{IsUnreplayed}
use Rattle.program.specs.Replayed.{IsTextOfReplay}
use Rattle.program.specs.declared.fault.Fault.{Fault}
use Rattle.program.specs.declared.fault.Fault.TheVariants.{TraceTooLong, TraceLine, TraceOrder, TraceLists, BadStep, UnfinishedRun, WrongAnswer, WrongSets, ClockSpent, IdsSpent, BodyRefused, Memory}
use Rattle.toml.specs.Data.{Members}
use Rattle.ecsview.specs.Explained.{IsAccepted, IsFaultIn}
use Rattle.ecsview.specs.Found.{first_of, meanings_of}
use Rattle.ecsview.specs.declared.asking.Asking.{Asking}
use Rattle.ecsview.specs.declared.asking.Format.{Format}
use Rattle.ecsview.specs.declared.asking.Format.TheVariants as format
use Rattle.ecsview.specs.declared.viewing.Shown.{Shown}

-- it is a fault of a trace
abbrev pub IsOfTrace : Fault → Type 0
IsOfTrace TraceTooLong = Unit {0}
IsOfTrace (TraceLine line) = Unit {0}
IsOfTrace (TraceOrder line) = Unit {0}
IsOfTrace (TraceLists line) = Unit {0}
IsOfTrace (BadStep run step fault) = Unit {0}
IsOfTrace (UnfinishedRun run) = Unit {0}
IsOfTrace (WrongAnswer run step) = Unit {0}
IsOfTrace (WrongSets run step) = Unit {0}
IsOfTrace ClockSpent = Unit {0}
IsOfTrace IdsSpent = Unit {0}
IsOfTrace BodyRefused = Unit {0}
IsOfTrace _ = ⊥

-- a fault of a trace is told in a format, and the status is 1
pub record IsTraceTold (form : Format) (fault : Fault) (shown : Shown) : Type 0 where
  pub of_trace : IsOfTrace fault
  pub text : IsFaultIn form fault (string_bytes shown.text)
  pub ends : shown.status ≡ 1

-- all runs of a trace are replayed, each from the state that the one before leaves
abbrev pub IsReplayedOn : Schedule → List BodyMeaning → State → Option (List ℕ) → Type 0
IsReplayedOn s bodies start trace = (text : List ℕ) × IsTextOfReplay s bodies start trace text

-- a trace of what a file declares is not replayed
abbrev pub IsUnreplayedOn : Loaded → Option (List ℕ) → Fault → Type 0
IsUnreplayedOn l trace fault = IsUnreplayed l.file.built (meanings_of l.file) (first_of l.file) (length l.file.entities.items) trace fault

-- it is told of an accepted file that its trace is accepted too: as JSON nothing more
abbrev pub trace_line : Format → List ℕ
trace_line format.Text = codes "trace accepted: it replays as it was recorded" ++ 10 ∷ []
trace_line format.Json = []

pub record HasTraceLine (form : Format) (file shown : Shown) : Type 0 where
  pub text : string_bytes shown.text ≡ string_bytes file.text ++ trace_line form
  pub ends : shown.status ≡ file.status

-- the trace is replayed, and what is told of the file has one line more
pub record IsTraceAccepted (document : Members) (l : Loaded) (asking : Asking) (trace : Option (List ℕ)) (shown : Shown) : Type 0 where
  pub file : Shown
  pub told : IsAccepted document l asking file
  pub replayed : IsReplayedOn l.file.built (meanings_of l.file) (first_of l.file) trace
  pub line : HasTraceLine asking.format file shown

-- the fault for which the trace is not replayed is explained
pub record IsTraceExplained (l : Loaded) (form : Format) (trace : Option (List ℕ)) (shown : Shown) : Type 0 where
  pub fault : Fault
  pub refused : IsUnreplayedOn l trace fault
  pub told : IsTraceTold form fault shown

-- what is answered on a file that is accepted, and on its trace where that is to be explained as well
abbrev pub IsAcceptedWith : Members → Loaded → Asking → Option (List ℕ) → Shown → Type 0
IsAcceptedWith document l asking trace shown =
    ((asking.traced ≡ false) × IsAccepted document l asking shown)
    ⊎ ((asking.traced ≡ true) × (IsTraceAccepted document l asking trace shown ⊎ IsTraceExplained l asking.format trace shown))

-- what ends that: memory, or that the trace can't be read, for which no fault of a trace is
abbrev pub IsRefusedWith : Loaded → Asking → Option (List ℕ) → Fault → Type 0
IsRefusedWith l asking trace fault =
    (fault ≡ Memory) ⊎ ((asking.traced ≡ true) × IsUnreplayedOn l trace fault × (IsOfTrace fault → ⊥))
