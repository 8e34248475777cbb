-- Why some work is refused: which of its readers gives the fault.
use Rattle.std.specs.Prelude.{ℕ, ◌<◌, ◌≡◌, ◌⊎◌, Bool, true, false, List, [], length, get_or, Option, None, Some, IfSome, IsSome, string_bytes}
use Rattle.std.specs.Str.{IsUtf8}
use Rattle.toml.specs.Data.{Members}
use Rattle.toml.specs.Parse.{parse_document}
use Rattle.model.specs.shown.Outcome.{BodyMeaning}
use Rattle.model.specs.state.Ids.{has_ids}
use Rattle.model.specs.state.State.{State}
use Rattle.model.specs.steps.Schedule.{Schedule, params_of}
use Rattle.command_line.specs.declared.args.Work.{Work}
use Rattle.command_line.specs.declared.args.Work.TheVariants as work
use Rattle.program_file.specs.Faults.{IsFaultOf}
use Rattle.program_file.specs.declared.program_file.ProgramFile.{ProgramFile}
use Rattle.program_file.specs.declared.fault.FileFault.{FileFault}
use Rattle.program_file.specs.declared.fault.FileFault.TheVariants as file
use Rattle.schedule_builder.specs.Answers.{IsAnswered}
use Rattle.script.specs.Faults.{script_fault}
use Rattle.script.specs.declared.script_body.ScriptBody.{ScriptBody}
use Rattle.engine.specs.Stops.{StopsAs}
use Rattle.engine.specs.declared.faults.RunFault.TheVariants as stop
use Rattle.trace_checker.specs.TextFaults.{IsLineFault, IsListsFault, IsOrderFault}
use Rattle.program.specs.Accepted.{Accepted, meant_by, start_of}
use Rattle.program.specs.declared.fault.Fault.{Fault}
use Rattle.program.specs.declared.fault.Fault.TheVariants.{TooLong, Content, Build, Script, TraceTooLong, TraceLine, TraceOrder, TraceLists, ClockSpent, IdsSpent, BodyRefused, File, Write, Memory, NoWorker}
use Rattle.program.specs.Recorded.{IsRecordTooLong}
use Rattle.program.specs.Replayed.{IsRefusedReplay}
use Rattle.program.specs.Said.{IsFileOf, IsShortFile, IsShortTrace, declared_by, most_bytes, most_trace_bytes, scripts_by}
use Rattle.program.specs.Setup.{IsScheduleOf, declared_names, fits_at}

-- a text is a document, and it has no tables at all
abbrev pub HasNoTables : List ℕ → Type 0
HasNoTables text = IsSome (parse_document text) × ((tables : ProgramFile) → IsFileOf tables text → ⊥)

-- the same, and the fault is the one that is told of the document: that of its first place that is wrong
abbrev pub IsTextRefused : FileFault → List ℕ → Type 0
IsTextRefused fault text = HasNoTables text × (document : Members) × (parse_document text ≡ Some document) × IsFaultOf document fault

-- the file is no document, or it is one without tables, for a value or a text at its first place that is wrong
abbrev pub IsFileRefused : Option (List ℕ) → FileFault → Type 0
IsFileRefused bytes file.Document = IfSome bytes (λ text. IsUtf8 text → parse_document text ≡ None)
IsFileRefused bytes (file.Value place) = IfSome bytes (IsTextRefused (file.Value place))
IsFileRefused bytes (file.Text place) = IfSome bytes (IsTextRefused (file.Text place))
IsFileRefused bytes file.Memory = ⊥

-- the reader of the file, or memory, stops: a file that is too long is refused for that alone
abbrev pub IsUnread : Option (List ℕ) → Fault → Type 0
IsUnread bytes TooLong = IfSome bytes (λ text. most_bytes < length text)
IsUnread bytes (Content fault) = IfSome bytes IsShortFile × IsFileRefused bytes fault
IsUnread bytes File = Unit {0}
IsUnread bytes Memory = Unit {0}
IsUnread bytes _ = ⊥

-- the script of a system, which has this name, has this first fault; or an allocation fails
abbrev pub IsScriptRefused : Schedule → ℕ → List ℕ → ScriptBody → Fault → Type 0
IsScriptRefused s n name script (Script cause system block instruction) =
    (name ≡ string_bytes system) × (script_fault (params_of s n) script ≡ Some (record { cause = cause; block = block; instruction = instruction }))
IsScriptRefused s n name script Memory = Unit {0}
IsScriptRefused s n name script _ = ⊥

-- so it is with one of the systems, which have these names and scripts, and the scripts of those before it fit
abbrev pub IsUnscripted : Schedule → List (List ℕ) → List ScriptBody → Fault → Type 0
IsUnscripted s names scripts Memory = Unit {0}
IsUnscripted s names scripts fault =
    (n : ℕ) × (n < length s.systems) × IsScriptRefused s n (get_or names n []) (get_or scripts n []) fault × ((m : ℕ) → m < n → fits_at s scripts m ≡ true)

-- there are no ids for so many entities, or an allocation fails
abbrev pub IsUngiven : ℕ → Fault → Type 0
IsUngiven count IdsSpent = has_ids count [] ≡ false
IsUngiven count Memory = Unit {0}
IsUngiven count _ = ⊥

-- a trace is not read, for its text or for another cause: one that is too long is refused for that alone
abbrev pub IsTraceUnread : Option (List ℕ) → Fault → Type 0
IsTraceUnread trace TraceTooLong = IfSome trace (λ text. most_trace_bytes < length text)
IsTraceUnread trace (TraceLine line) = IfSome trace IsShortTrace × IfSome trace (IsLineFault line)
IsTraceUnread trace (TraceOrder line) = IfSome trace IsShortTrace × IfSome trace (IsOrderFault line)
IsTraceUnread trace (TraceLists line) = IfSome trace IsShortTrace × IfSome trace (IsListsFault line)
IsTraceUnread trace File = Unit {0}
IsTraceUnread trace Memory = Unit {0}
IsTraceUnread trace _ = ⊥

-- what is told of runs, so many of them from a state, where there are workers or none: that of the engine
abbrev pub IsStoppedRun : Bool → ℕ → Schedule → List BodyMeaning → ℕ → State → Fault → Type 0
IsStoppedRun there width s bodies times start ClockSpent = StopsAs there width s bodies times start stop.ClockSpent
IsStoppedRun there width s bodies times start IdsSpent = StopsAs there width s bodies times start stop.IdsSpent
IsStoppedRun there width s bodies times start BodyRefused = (refusal : ℕ) × StopsAs there width s bodies times start (stop.BodyFault refusal)
IsStoppedRun there width s bodies times start NoWorker = StopsAs there width s bodies times start stop.NoWorker
IsStoppedRun there width s bodies times start Memory = Unit {0}
IsStoppedRun there width s bodies times start _ = ⊥

-- or all of them end, and their record is too long
abbrev pub IsUnrun : Bool → ℕ → Schedule → List BodyMeaning → ℕ → State → Bool → Fault → Type 0
IsUnrun there width s bodies times start recorded TraceTooLong = (recorded ≡ true) × IsRecordTooLong width s bodies start times
IsUnrun there width s bodies times start recorded fault = IsStoppedRun there width s bodies times start fault

-- the runs of a trace are not replayed: the trace is not read, there are no ids for so many entities, or a run of the trace is refused
abbrev pub IsUnreplayed : Schedule → List BodyMeaning → State → ℕ → Option (List ℕ) → Fault → Type 0
IsUnreplayed s bodies start count trace fault = IsTraceUnread trace fault ⊎ (IsUngiven count fault ⊎ IsRefusedReplay s bodies start trace fault)

-- ---- the work

-- the work is one on a trace
abbrev pub ReadsTrace : Work → Type 0
ReadsTrace (work.Run times workers recorded) = ⊥
ReadsTrace work.Ambiguities = ⊥
ReadsTrace work.Check = Unit {0}
ReadsTrace work.Replay = Unit {0}

-- ---- on an accepted file

-- a trace that the work is on is not read
pub record IsTraceRefused (bytes trace : Option (List ℕ)) (work : Work) (fault : Fault) : Type 0 where
  pub reads : ReadsTrace work
  pub file : Accepted bytes
  pub unread : IsTraceUnread trace fault

-- so many new runs of it, from the state as loaded, stop, or their record is too long
pub record IsRunRefused (there : Bool) (width : ℕ) (bytes : Option (List ℕ)) (times : ℕ) (recorded : Bool) (fault : Fault) : Type 0 where
  pub file : Accepted bytes
  pub refused : IsUnrun there width file.schedule (meant_by file) times (start_of file) recorded fault

-- the runs of the trace are taken again, from the state as loaded, and one of them is refused
pub record IsReplayRefused (bytes trace : Option (List ℕ)) (fault : Fault) : Type 0 where
  pub file : Accepted bytes
  pub refused : IsRefusedReplay file.schedule (meant_by file) (start_of file) trace fault

-- a run stops: a new one, or one of a trace
abbrev pub IsStopped : Bool → ℕ → Option (List ℕ) → Option (List ℕ) → Work → Fault → Type 0
IsStopped there width bytes trace (work.Run times workers recorded) fault = IsRunRefused there width bytes times recorded fault
IsStopped there width bytes trace work.Ambiguities fault = ⊥
IsStopped there width bytes trace work.Check fault = ⊥
IsStopped there width bytes trace work.Replay fault = IsReplayRefused bytes trace fault

-- why some work, done with room for so many running systems, on workers or on none, on a file and a trace is refused: the file as bytes, the
-- document, its tables and texts, the schedule that its tables declare, a script of theirs, the trace or the runs
abbrev pub IsRefusedBy : Bool → ℕ → Option (List ℕ) → Option (List ℕ) → Work → Fault → Type 0
IsRefusedBy there width bytes trace w TooLong = IfSome bytes (λ text. most_bytes < length text)
IsRefusedBy there width bytes trace w (Content fault) = IfSome bytes IsShortFile × IsFileRefused bytes fault
IsRefusedBy there width bytes trace w (Build fault) = (tables : ProgramFile) × IfSome bytes IsShortFile × IfSome bytes (IsFileOf tables) × IsAnswered (declared_by tables) fault
IsRefusedBy there width bytes trace w (Script cause system block instruction) =
    (tables : ProgramFile) × IfSome bytes IsShortFile × IfSome bytes (IsFileOf tables) × (s : Schedule) × IsScheduleOf (declared_by tables) s × IsUnscripted s (declared_names (declared_by tables)) (scripts_by tables) (Script cause system block instruction)
IsRefusedBy there width bytes trace w TraceTooLong = IsTraceRefused bytes trace w TraceTooLong ⊎ IsStopped there width bytes trace w TraceTooLong
IsRefusedBy there width bytes trace w (TraceLine line) = IsTraceRefused bytes trace w (TraceLine line)
IsRefusedBy there width bytes trace w (TraceOrder line) = IsTraceRefused bytes trace w (TraceOrder line)
IsRefusedBy there width bytes trace w (TraceLists line) = IsTraceRefused bytes trace w (TraceLists line)
IsRefusedBy there width bytes trace w File = Unit {0}
IsRefusedBy there width bytes trace w Memory = Unit {0}
IsRefusedBy there width bytes trace w Write = ⊥
IsRefusedBy there width bytes trace w fault = IsStopped there width bytes trace w fault
