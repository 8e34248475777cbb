-- Why something isn't found: the fault that ends it.
use Rattle.std.specs.Prelude.{ℕ, ◌+◌, ◌≡◌, ◌<◌, ◌⊎◌, List, Option, IfSome}
use Rattle.model.specs.shown.Outcome.{BodyMeaning}
use Rattle.model.specs.state.State.{State}
use Rattle.model.specs.steps.Schedule.{Schedule, Recorded}
use Rattle.program.specs.Loaded.{IsNotLoaded}
use Rattle.program.specs.Refused.{IsUnread}
use Rattle.program.specs.Replayed.{IsRefusedAmong, IsRefusedRun}
use Rattle.program.specs.Said.{IsFileOf, IsShortFile}
use Rattle.program.specs.declared.fault.Fault.{Fault}
use Rattle.program.specs.declared.fault.Fault.TheVariants.{Memory}
use Rattle.findings.specs.Behind.{IsBehind}
use Rattle.program_file.specs.declared.program_file.ProgramFile.{ProgramFile}

-- a file is not accepted: it is not read, or what its tables declare is refused
abbrev pub IsUnloaded : Option (List ℕ) → Fault → Type 0
IsUnloaded bytes fault = IsUnread bytes fault ⊎ ((tables : ProgramFile) × IfSome bytes IsShortFile × IfSome bytes (IsFileOf tables) × IsNotLoaded tables fault)

-- the first run of some that is not replayed, from the state that those before it leave, is refused so; or an allocation fails
abbrev pub IsUntold : Schedule → List BodyMeaning → State → List Recorded → Fault → Type 0
IsUntold s bodies start runs fault = (fault ≡ Memory) ⊎ IsRefusedAmong s bodies start runs fault

-- so it is with the runs of one of two traces
abbrev pub IsUnparted : Schedule → List BodyMeaning → State → State → List Recorded → List Recorded → Fault → Type 0
IsUnparted s bodies start beginning runs others fault = (fault ≡ Memory) ⊎ (IsRefusedAmong s bodies start runs fault ⊎ IsRefusedAmong s bodies beginning others fault)

-- a list of the run of this number is refused so, from a state; or an allocation fails
abbrev pub IsUnwitnessed : Schedule → List BodyMeaning → State → ℕ → Fault → Type 0
IsUnwitnessed s bodies start number fault = (fault ≡ Memory) ⊎ ((list : Recorded) × IsRefusedRun s bodies start list number fault)

-- so it is with a list of one of so many runs, from the state that those before it leave
pub record IsUnreached (s : Schedule) (bodies : List BodyMeaning) (start : State) (count : ℕ) (fault : Fault) : Type 0 where
  pub before : ℕ
  pub within : before < count
  pub middle : State
  pub behind : IsBehind s bodies start before middle
  pub refused : IsUnwitnessed s bodies middle (before + 1) fault
