-- What a command leaves with its streams.
use Rattle.std.specs.Prelude.{ℕ, ◌≡◌, ◌⊎◌, ◌↔◌, Bool, true, List, Option, Result, MatchResult, string_bytes}
use Rattle.std.specs.Io.KnownBytes.{Keeps, Appends}
use Rattle.model.specs.steps.Ambiguity.{Settled}
use Rattle.model.specs.steps.Schedule.{Schedule}
use Rattle.ambiguity_report.specs.declared.report.Pair.{Pair}
use Rattle.ambiguity_report.specs.Report.{IsReport}
use Rattle.command_line.specs.declared.args.Work.{Work}
use Rattle.command_line.specs.declared.args.Work.TheVariants.{Run, Ambiguities, Check, Replay}
use Rattle.command_line.specs.Args.{is_recorded}
use Rattle.program.specs.declared.answer.Answer.{Answer}
use Rattle.program.specs.declared.fault.Fault.{Fault}
use Rattle.program.specs.declared.fault.Fault.TheVariants.{Write, Memory}
use Rattle.program.specs.Accepted.{Accepted, meant_by, start_of}
use Rattle.program.specs.Fault.{status_of, fault_text}
use Rattle.program.specs.Refused.{IsRefusedBy}
use Rattle.program.specs.Checked.{IsCheckOf}
use Rattle.program.specs.Said.{declared_by}
use Rattle.program.specs.Recorded.{IsTextOfRuns}
use Rattle.program.specs.Replayed.{IsTextOfReplay}
use Rattle.program.specs.Setup.{declared_names}
use Rattle.streams.specs.Writing.{AppendsFront, line_of}
use Rattle.printing.specs.ReportText.{report_text}

-- ---- answers

-- the text of a state that so many complete runs of an accepted file leave, from the state as loaded, and where they are recorded their record
pub record IsRunText (width times : ℕ) (recorded : Bool) (bytes : Option (List ℕ)) (text noted : List ℕ) : Type 0 where
  pub file : Accepted bytes
  pub runs : IsTextOfRuns width file.schedule (meant_by file) (start_of file) times recorded text noted

-- the text of the report of a schedule whose systems have these names: the pairs that race, and whether it is settled
pub record IsTextOfReport (names : List (List ℕ)) (s : Schedule) (text : List ℕ) : Type 0 where
  pub pairs : List Pair
  pub report : IsReport s pairs
  pub settled : Bool
  pub told : (settled ≡ true) ↔ Settled s
  pub same : text ≡ report_text names pairs settled

-- the text of a report of an accepted file, by the declared names
pub record IsReportText (bytes : Option (List ℕ)) (text : List ℕ) : Type 0 where
  pub file : Accepted bytes
  pub report : IsTextOfReport (declared_names (declared_by file.tables)) file.schedule text

-- the text of what an accepted file says of the runs of a trace, and the status
pub record IsCheckText (bytes trace : Option (List ℕ)) (status : ℕ) (text : List ℕ) : Type 0 where
  pub file : Accepted bytes
  pub check : IsCheckOf file.schedule trace status text

-- the text of a state that the runs of a trace leave, taken again one after the other by an accepted file, from the state as loaded
pub record IsReplayText (bytes trace : Option (List ℕ)) (text : List ℕ) : Type 0 where
  pub file : Accepted bytes
  pub runs : IsTextOfReplay file.schedule (meant_by file) (start_of file) trace text

-- what is answered to some work, done with room for so many running systems, on a file with these bytes and a trace
abbrev pub IsAnswerTo : ℕ → Work → Option (List ℕ) → Option (List ℕ) → Answer → Type 0
IsAnswerTo width (Run times workers recorded) bytes trace answer = (answer.status ≡ 0) × IsRunText width times recorded bytes (string_bytes answer.text) (string_bytes answer.traces)
IsAnswerTo width Ambiguities bytes trace answer = (answer.status ≡ 0) × IsReportText bytes (string_bytes answer.text)
IsAnswerTo width Check bytes trace answer = IsCheckText bytes trace answer.status (string_bytes answer.text)
IsAnswerTo width Replay bytes trace answer = (answer.status ≡ 0) × IsReplayText bytes trace (string_bytes answer.text)

-- ---- streams, each by what it held before and what it holds then

-- nothing was written
abbrev pub IsKept : (Option (List ℕ) × Option (List ℕ)) → Type 0
IsKept stream = Keeps stream.0 stream.1

-- a text was written whole
abbrev pub HasGained : (Option (List ℕ) × Option (List ℕ)) → List ℕ → Type 0
HasGained stream text = Appends stream.0 stream.1 text

-- a beginning of a text was written
abbrev pub HasGainedFront : (Option (List ℕ) × Option (List ℕ)) → List ℕ → Type 0
HasGainedFront stream text = AppendsFront stream.0 stream.1 text

-- the record of runs that are recorded was written, and else nothing
pub record IsRecordKept (work : Work) (noted : List ℕ) (traces : Option (List ℕ) × Option (List ℕ)) : Type 0 where
  pub written : is_recorded work ≡ true → HasGained traces noted
  pub kept : (is_recorded work ≡ true → ⊥) → IsKept traces

-- the record was written, where there is one, or a beginning of it
abbrev pub WritesRecord : {T E : Type 0} → Work → (Option (List ℕ) × Option (List ℕ)) → Result T E → List ℕ → Type 0
WritesRecord work traces r noted = MatchResult r (λ _. IsRecordKept work noted traces) (λ _. (is_recorded work ≡ true) × HasGainedFront traces noted)

-- a fault was told in its line, or a beginning of that, and its status is given; where an allocation fails for the line, that is told instead,
-- with the status of it
abbrev pub Tells : Fault → ℕ → (Option (List ℕ) × Option (List ℕ)) → Type 0
Tells fault status faults =
    ((status ≡ status_of fault) × HasGainedFront faults (line_of (fault_text fault)))
    ⊎ ((status ≡ status_of Memory) × HasGainedFront faults (line_of (fault_text Memory)))

-- the work is done: the output gained its text, and nothing is told
pub record IsDone (width : ℕ) (work : Work) (bytes trace : Option (List ℕ)) (status : ℕ) (out traces faults : Option (List ℕ) × Option (List ℕ)) : Type 0 where
  pub answer : Answer
  pub is : IsAnswerTo width work bytes trace answer
  pub ends : status ≡ answer.status
  pub recorded : IsRecordKept work (string_bytes answer.traces) traces
  pub written : HasGained out (string_bytes answer.text)
  pub untold : IsKept faults

-- the output failed, which is told, and gained a beginning of the text
pub record IsCutOff (width : ℕ) (work : Work) (bytes trace : Option (List ℕ)) (status : ℕ) (out traces faults : Option (List ℕ) × Option (List ℕ)) : Type 0 where
  pub told : Tells Write status faults
  pub answer : Answer
  pub is : IsAnswerTo width work bytes trace answer
  pub recorded : IsRecordKept work (string_bytes answer.traces) traces
  pub written : HasGainedFront out (string_bytes answer.text)

-- the file of the record failed, which is told, and gained a beginning of it, and nothing is printed
pub record IsUnrecorded (width : ℕ) (work : Work) (bytes trace : Option (List ℕ)) (status : ℕ) (out traces faults : Option (List ℕ) × Option (List ℕ)) : Type 0 where
  pub told : Tells Write status faults
  pub asked : is_recorded work ≡ true
  pub answer : Answer
  pub is : IsAnswerTo width work bytes trace answer
  pub recorded : HasGainedFront traces (string_bytes answer.traces)
  pub kept : IsKept out

-- the work is refused with a fault, for its reason: the fault is told, with its status, and nothing else was written
pub record IsRefusal (there : Bool) (width : ℕ) (work : Work) (bytes trace : Option (List ℕ)) (status : ℕ) (out traces faults : Option (List ℕ) × Option (List ℕ)) : Type 0 where
  pub fault : Fault
  pub reason : IsRefusedBy there width bytes trace work fault
  pub told : Tells fault status faults
  pub kept : IsKept out
  pub untouched : IsKept traces

-- what the output, the file of the record and the standard error hold after a command on a file with these bytes, by its status, where the
-- runs are on workers or on none, with room for so many running systems
abbrev pub IsServed : Bool → ℕ → Work → Option (List ℕ) → Option (List ℕ) → ℕ → (Option (List ℕ) × Option (List ℕ)) → (Option (List ℕ) × Option (List ℕ)) → (Option (List ℕ) × Option (List ℕ)) → Type 0
IsServed there width work bytes trace status out traces faults =
    IsDone width work bytes trace status out traces faults
    ⊎ (IsCutOff width work bytes trace status out traces faults
    ⊎ (IsUnrecorded width work bytes trace status out traces faults
    ⊎ IsRefusal there width work bytes trace status out traces faults))
