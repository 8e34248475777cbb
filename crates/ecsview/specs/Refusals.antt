-- Why a command is refused: the fault that ends it.
use Rattle.std.specs.Prelude.{ℕ, ◌+◌, ◌-◌, ◌≡◌, ◌⊎◌, List, ◌∷◌, ◌++◌, length, Option, IfSome}
use Rattle.std.specs.List.{AllByRecursion}
use Rattle.findings.specs.Behind.{IsBehind}
use Rattle.findings.specs.Loaded.{IsLoaded}
use Rattle.findings.specs.Refusals.{IsUnloaded, IsUnparted, IsUnreached, IsUntold, IsUnwitnessed}
use Rattle.findings.specs.declared.loading.Loaded.{Loaded}
use Rattle.model.specs.state.State.{State}
use Rattle.model.specs.steps.Schedule.{Schedule, Recorded}
use Rattle.program.specs.Refused.{IsTraceUnread, IsUngiven}
use Rattle.program.specs.declared.loading.Loaded.{Loaded as ProgramLoaded}
use Rattle.program.specs.declared.fault.Fault.{Fault}
use Rattle.program.specs.declared.fault.Fault.TheVariants.{BadStep, Memory}
use Rattle.trace_checker.specs.Grammar.{trace_text}
use Rattle.trace_checker.specs.Verdicts.{IsVerdict}
use Rattle.trace_checker.specs.declared.check.Verdict.TheVariants.{Bad}
use Rattle.ecsview.specs.Drawings.{IsLawfulRun}
use Rattle.ecsview.specs.Found.{first_of, meanings_of}
use Rattle.ecsview.specs.Traced.{IsRefusedWith}
use Rattle.ecsview.specs.declared.args.Work.{Work}
use Rattle.ecsview.specs.declared.args.Work.TheVariants as work

-- a run, the one of this number, has a step that may not come, which is told with its number and its fault; or an allocation fails
abbrev pub IsBadRun : Schedule → Recorded → ℕ → Fault → Type 0
IsBadRun s r number (BadStep run step cause) = (run ≡ number) × IsVerdict s r (Bad step cause)
IsBadRun s r number Memory = Unit {0}
IsBadRun s r number _ = ⊥

-- so it is with one of some runs, by its number from 1; those before it are lawful
pub record IsBadAmong (s : Schedule) (runs : List Recorded) (fault : Fault) : Type 0 where
  pub before : List Recorded
  pub run : Recorded
  pub later : List Recorded
  pub whole : runs ≡ before ++ run ∷ later
  pub lawful : AllByRecursion (IsLawfulRun s) before
  pub refused : IsBadRun s run (length before + 1) fault

-- the runs of a trace are not drawn: one of them has such a step, or an allocation fails
pub record IsUndrawn (s : Schedule) (trace : Option (List ℕ)) (fault : Fault) : Type 0 where
  pub runs : List Recorded
  pub read : IfSome trace (λ bytes. bytes ≡ trace_text runs)
  pub refused : (fault ≡ Memory) ⊎ IsBadAmong s runs fault

-- the runs of two traces are not compared: one of them is not replayed, or an allocation fails
pub record IsUncompared (l : ProgramLoaded) (trace other : Option (List ℕ)) (fault : Fault) : Type 0 where
  pub runs : List Recorded
  pub others : List Recorded
  pub read : IfSome trace (λ bytes. bytes ≡ trace_text runs)
  pub read_other : IfSome other (λ bytes. bytes ≡ trace_text others)
  pub refused : IsUnparted l.built (meanings_of l) (first_of l) (first_of l) runs others fault

-- the story of a trace is not told: a run of it is not replayed, or an allocation fails
pub record IsUnshown (l : ProgramLoaded) (trace : Option (List ℕ)) (fault : Fault) : Type 0 where
  pub runs : List Recorded
  pub read : IfSome trace (λ bytes. bytes ≡ trace_text runs)
  pub refused : IsUntold l.built (meanings_of l) (first_of l) runs fault

-- no witnesses are found in the run of this number: a list of it is refused, from a state behind the runs before it, or one of these is; or an allocation fails
abbrev pub IsUnfound : ProgramLoaded → ℕ → Fault → Type 0
IsUnfound l number fault =
    IsUnreached l.built (meanings_of l) (first_of l) (number - 1) fault
    ⊎ ((start : State) × IsBehind l.built (meanings_of l) (first_of l) (number - 1) start × IsUnwitnessed l.built (meanings_of l) start number fault)

-- some work on what a file declares, and on one trace or two, is refused: a trace is not read, there are no ids for so many entities, or what the work does
-- with the runs is refused
abbrev pub IsRefusal : Work → Loaded → Option (List ℕ) → Option (List ℕ) → Fault → Type 0
IsRefusal work.Schedule l trace other fault = fault ≡ Memory
IsRefusal (work.Lanes part) l trace other fault = IsTraceUnread trace fault ⊎ (IsUndrawn l.file.built trace fault ⊎ IsUngiven (length l.file.entities.items) fault)
IsRefusal (work.Races number) l trace other fault = IsUngiven (length l.file.entities.items) fault ⊎ IsUnfound l.file number fault
IsRefusal work.Diverge l trace other fault = IsTraceUnread trace fault ⊎ (IsTraceUnread other fault ⊎ (IsUngiven (length l.file.entities.items) fault ⊎ IsUncompared l.file trace other fault))
IsRefusal (work.Steps run) l trace other fault = IsTraceUnread trace fault ⊎ (IsUngiven (length l.file.entities.items) fault ⊎ IsUnshown l.file trace fault)
IsRefusal (work.Explain asking) l trace other fault = IsRefusedWith l asking trace fault

-- the same on the bytes of a program file: it is not accepted, or the work is refused on what it declares
abbrev pub IsRefusalOn : Work → Option (List ℕ) → Option (List ℕ) → Option (List ℕ) → Fault → Type 0
IsRefusalOn asked file trace other fault = IsUnloaded file fault ⊎ ((l : Loaded) × IsLoaded file l × IsRefusal asked l trace other fault)
