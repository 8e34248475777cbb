-- What is explained of a program file: why it is refused, or that it is accepted.
use Rattle.std.specs.Prelude.{ℕ, ◌≡◌, ◌↔◌, ◌==◌, ◌&&◌, nat_lt, if◌then◌else◌, Bool, true, false, List, [], ◌∷◌, ◌++◌, codes, decimal, length, Option, string_bytes}
use Rattle.findings.specs.Refusals.{IsUnloaded}
use Rattle.model.specs.declared.steps.StepFault.{StepFault}
use Rattle.model.specs.declared.steps.StepFault.TheVariants as step
use Rattle.model.specs.steps.Ambiguity.{Settled}
use Rattle.model.specs.steps.Schedule.{Schedule}
use Rattle.program.specs.Fault.{fault_text}
use Rattle.program.specs.declared.fault.Fault.{Fault}
use Rattle.program.specs.declared.fault.Fault.TheVariants.{TooLong, Content, Build, Script, TraceTooLong, TraceLine, TraceOrder, TraceLists, BadStep, UnfinishedRun, WrongAnswer, WrongSets, ClockSpent, IdsSpent, BodyRefused}
use Rattle.program_file.specs.declared.fault.FileFault.{FileFault}
use Rattle.program_file.specs.declared.fault.FileFault.TheVariants as file
use Rattle.schedule_builder.specs.declared.fault.BuildFault.{BuildFault}
use Rattle.schedule_builder.specs.declared.fault.BuildFault.TheVariants as build
use Rattle.script.specs.declared.fault.Cause.{Cause}
use Rattle.script.specs.declared.fault.Cause.TheVariants as script
use Rattle.ambiguity_report.specs.Report.{IsReport}
use Rattle.ambiguity_report.specs.declared.report.Pair.{Pair}
use Rattle.findings.specs.declared.loading.Loaded.{Loaded}
use Rattle.lints.specs.Lints.{AreLints}
use Rattle.lints.specs.declared.lint.Lint.{Lint}
use Rattle.program_file.specs.Tables.{AreResourcesIn, AreEntitiesIn, AreSetsIn, AreSystemsIn, AreChainsIn}
use Rattle.program_file.specs.declared.program_file.ProgramFile.{ProgramFile}
use Rattle.toml.specs.Data.{Members}
use Rattle.diagnostics.specs.Json.{IsSaid}
use Rattle.diagnostics.specs.declared.finding.Level.TheVariants as level
use Rattle.serde_json.specs.Data.{string}
use Rattle.warnings.specs.Lines.{AreLines}
use Rattle.ecsview.specs.declared.args.Work.{Work}
use Rattle.ecsview.specs.declared.args.Work.TheVariants.{Explain}
use Rattle.ecsview.specs.declared.asking.Asking.{Asking}
use Rattle.ecsview.specs.declared.asking.Format.{Format}
use Rattle.ecsview.specs.declared.asking.Format.TheVariants as format
use Rattle.ecsview.specs.declared.viewing.Shown.{Shown}

-- ---- the codes of faults

abbrev pub file_code : FileFault → List ℕ
file_code file.Document = codes "P1"
file_code (file.Value place) = codes "P2"
file_code (file.Text place) = codes "P3"
file_code file.Memory = []

abbrev pub build_code : BuildFault → List ℕ
build_code (build.UnknownName name) = codes "B1"
build_code (build.DuplicateName name) = codes "B2"
build_code (build.HierarchyLoop name) = codes "B3"
build_code (build.HierarchyCycle names) = codes "B4"
build_code (build.DependencyLoop name) = codes "B5"
build_code (build.DependencyCycle names) = codes "B6"
build_code (build.CrossDependency item holder) = codes "B7"
build_code (build.SetsIntersect first second system) = codes "B8"
build_code (build.SelfConflict name) = codes "B9"
build_code (build.BadQuery owner query fault) = codes "B10"
build_code (build.BadConditionQuery condition query fault) = codes "B10"
build_code (build.ConditionWrites condition) = codes "B11"
build_code (build.OverLimit limit) = codes "B12"
build_code build.Memory = []

abbrev pub script_code : Cause → List ℕ
script_code script.NotFetched = codes "X1"
script_code script.NotDeclared = codes "X2"
script_code script.NoField = codes "X3"
script_code script.PastEnd = codes "X4"
script_code script.NoRegister = codes "X5"
script_code script.NotGranted = codes "X6"

abbrev pub step_code : StepFault → List ℕ
step_code step.Unknown = codes "S1"
step_code step.Repeated = codes "S2"
step_code step.NotReady = codes "S3"
step_code step.ConditionOpen = codes "S4"
step_code step.ConditionFalse = codes "S5"
step_code step.ConditionTrue = codes "S6"
step_code step.Conflict = codes "S7"
step_code step.NotRunning = codes "S8"
step_code step.LevelOpen = codes "S9"

-- that of a fault of a trace, or of its replay
abbrev pub trace_code : Fault → List ℕ
trace_code TraceTooLong = codes "L3"
trace_code (TraceLine line) = codes "L1"
trace_code (TraceOrder line) = codes "L2"
trace_code (TraceLists line) = codes "L4"
trace_code (UnfinishedRun run) = codes "unfinished"
trace_code (WrongAnswer run step) = codes "answer"
trace_code (WrongSets run step) = codes "sets"
trace_code ClockSpent = codes "E2"
trace_code IdsSpent = codes "E3"
trace_code BodyRefused = codes "E6"
trace_code _ = []

-- that of a fault; of input, output, memory and threads there is none
abbrev pub code_of : Fault → List ℕ
code_of TooLong = codes "P4"
code_of (Content fault) = file_code fault
code_of (Build fault) = build_code fault
code_of (Script cause system block instruction) = script_code cause
code_of (BadStep run step fault) = step_code fault
code_of fault = trace_code fault

-- it is a fault of a program file
abbrev pub IsOfFile : Fault → Type 0
IsOfFile TooLong = Unit {0}
IsOfFile (Content fault) = Unit {0}
IsOfFile (Build fault) = Unit {0}
IsOfFile (Script cause system block instruction) = Unit {0}
IsOfFile _ = ⊥

-- ---- what is printed

-- the text begins with the code of a fault, and ends with its line
pub record IsExplanation (fault : Fault) (text : List ℕ) : Type 0 where
  pub body : List ℕ
  pub same : text ≡ codes "error[" ++ (code_of fault ++ (codes "]: " ++ (body ++ (codes " = ecsrun: " ++ (fault_text fault ++ 10 ∷ [])))))

-- the text is a line of JSON, with the code of a fault, as an error, and its line
pub record IsFaultLine (fault : Fault) (text : List ℕ) : Type 0 where
  pub line : List ℕ
  pub same : text ≡ line ++ 10 ∷ []
  pub said : IsSaid (code_of fault) level.Error (string (fault_text fault)) line

-- a fault is told in a format
abbrev pub IsFaultIn : Format → Fault → List ℕ → Type 0
IsFaultIn format.Text fault text = IsExplanation fault text
IsFaultIn format.Json fault text = IsFaultLine fault text

-- a fault of a file is explained, and the status is 1
pub record IsToldOf (form : Format) (fault : Fault) (shown : Shown) : Type 0 where
  pub of_file : IsOfFile fault
  pub text : IsFaultIn form fault (string_bytes shown.text)
  pub ends : shown.status ≡ 1

-- so it is in the format that is asked for, where it is asked why a file is refused
abbrev pub IsToldTo : Work → Fault → Shown → Type 0
IsToldTo (Explain asking) fault shown = IsToldOf asking.format fault shown
IsToldTo _ fault shown = ⊥

-- the fault for which a file is not accepted is explained
pub record IsExplained (work : Work) (bytes : Option (List ℕ)) (shown : Shown) : Type 0 where
  pub fault : Fault
  pub refused : IsUnloaded bytes fault
  pub told : IsToldTo work fault shown

-- the line of a file that is accepted
abbrev pub accepted_line : Bool → List ℕ
accepted_line true = codes "accepted, and settled: all runs of it agree" ++ 10 ∷ []
accepted_line false = codes "accepted, and not settled: runs of it may differ" ++ 10 ∷ []

-- how many warnings there are, of some
abbrev pub warnings_line : ℕ → List ℕ
warnings_line n = if n == 0 then [] else (if n == 1 then codes "1 warning" ++ 10 ∷ [] else decimal n ++ (codes " warnings" ++ 10 ∷ []))

-- the status: 1 where warnings are denied, and there are some
abbrev pub accepted_status : Bool → ℕ → ℕ
accepted_status denies n = if denies && nat_lt 0 n then 1 else 0

-- a document has these tables, its resources, its entities, its sets, its systems and its chains
pub record AreTablesOf (document : Members) (tables : ProgramFile) : Type 0 where
  pub resources : AreResourcesIn document tables.resources
  pub entities : AreEntitiesIn document tables.entities.items
  pub sets : AreSetsIn document tables.sets.items
  pub systems : AreSystemsIn document tables.systems.items
  pub chains : AreChainsIn document tables.chains.items

-- this is likely a mistake of a document that declares this: by its tables, its schedule, the members of its sets and its report
pub record AreFound (document : Members) (l : Loaded) (found : List Lint) : Type 0 where
  pub tables : ProgramFile
  pub read : AreTablesOf document tables
  pub pairs : List Pair
  pub report : IsReport l.file.built pairs
  pub lints : AreLints tables l.file.built l.sets.members.items pairs found

-- the text ends with how many warnings there are, and with whether the schedule is settled
pub record IsAcceptedText (s : Schedule) (count : ℕ) (text : List ℕ) : Type 0 where
  pub settled : Bool
  pub told : (settled ≡ true) ↔ Settled s
  pub body : List ℕ
  pub same : text ≡ body ++ (warnings_line count ++ accepted_line settled)

-- the same in a format: as JSON a line for each
abbrev pub IsAcceptedIn : Format → Schedule → List Lint → List ℕ → Type 0
IsAcceptedIn format.Text s found text = IsAcceptedText s (length found) text
IsAcceptedIn format.Json s found text = AreLines found text

-- of a file that is accepted what is likely a mistake is counted, and told, and whether the schedule is settled
pub record IsAccepted (document : Members) (l : Loaded) (asking : Asking) (shown : Shown) : Type 0 where
  pub found : List Lint
  pub are : AreFound document l found
  pub text : IsAcceptedIn asking.format l.file.built found (string_bytes shown.text)
  pub ends : shown.status ≡ accepted_status asking.denies (length found)
