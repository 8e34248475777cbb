-- What a command answers: the text that it prints, and the status.
use Rattle.std.specs.Prelude.{ℕ, ◌≡◌, ◌⊎◌, List, Option, Some, IfSome, string_bytes}
use Rattle.toml.specs.Data.{Members}
use Rattle.toml.specs.Parse.{parse_document}
use Rattle.findings.specs.Loaded.{IsLoaded}
use Rattle.findings.specs.declared.loading.Loaded.{Loaded}
use Rattle.ecsview.specs.Drawings.{IsLanesText, IsScheduleText}
use Rattle.ecsview.specs.Explained.{IsExplained}
use Rattle.ecsview.specs.Traced.{IsAcceptedWith}
use Rattle.ecsview.specs.Found.{IsDivergeText, IsRacesText, IsStepsText}
use Rattle.ecsview.specs.declared.args.Work.{Work}
use Rattle.ecsview.specs.declared.args.Work.TheVariants.{Schedule, Lanes, Races, Diverge, Steps, Explain}
use Rattle.ecsview.specs.declared.viewing.Shown.{Shown}

-- what some work answers on what a document declares, and on one trace or two
abbrev pub IsAnswer : List ℕ → List ℕ → Members → Work → Loaded → Option (List ℕ) → Option (List ℕ) → Shown → Type 0
IsAnswer opener rules document Schedule l trace other shown = (shown.status ≡ 0) × IsScheduleText opener rules l (string_bytes shown.text)
IsAnswer opener rules document (Lanes part) l trace other shown = (shown.status ≡ 0) × IsLanesText opener rules l trace part (string_bytes shown.text)
IsAnswer opener rules document (Races number) l trace other shown = (shown.status ≡ 0) × IsRacesText l.file number (string_bytes shown.text)
IsAnswer opener rules document Diverge l trace other shown = IsDivergeText l.file trace other shown.status (string_bytes shown.text)
IsAnswer opener rules document (Steps run) l trace other shown = (shown.status ≡ 0) × IsStepsText l.file trace run (string_bytes shown.text)
IsAnswer opener rules document (Explain asking) l trace other shown = IsAcceptedWith document l asking trace shown

-- the same on the bytes of a program file, which is accepted
pub record IsAnswerOn (opener rules : List ℕ) (work : Work) (file trace other : Option (List ℕ)) (shown : Shown) : Type 0 where
  pub declared : Loaded
  pub loaded : IsLoaded file declared
  pub document : Members
  pub parsed : IfSome file (λ text. parse_document text ≡ Some document)
  pub answer : IsAnswer opener rules document work declared trace other shown

-- the same, or the file is not accepted, which is explained where that is asked for
abbrev pub IsAnsweredOn : List ℕ → List ℕ → Work → Option (List ℕ) → Option (List ℕ) → Option (List ℕ) → Shown → Type 0
IsAnsweredOn opener rules work file trace other shown = IsAnswerOn opener rules work file trace other shown ⊎ IsExplained work file shown
