-- What a command leaves, from what its parts leave.
use Rattle.std.proofs.Common.{◌≡◌, inl, inr, ℕ, zero, suc, ◌-◌, ◌≤◌, ℤ, Bool, true, false, List, [], ◌∷◌, length, map, replicate, slice_get, Option, None, Some, Result, Ok, Err, IfOk, IfErr, IfSome, is_some, refl, ap, sym, ◌∙◌, subst, string_bytes, arith, le_trans}
use Rattle.std.proofs.lemmas.Bool.{le-leb, true≢false}
use Rattle.std.specs.Prelude.{Vec}
use Rattle.std.specs.declared.alloc.Global.{Global}
use Rattle.std.specs.Io.KnownBytes.{Keeps}
use Rattle.model.specs.state.Loaded.{Given, loaded}
use Rattle.model.specs.access.Access.{Params}
use Rattle.model.specs.shown.Outcome.{BodyMeaning}
use Rattle.model.specs.steps.Schedule.{Schedule, params_of}
use Rattle.model.specs.state.Ids.{has_ids, with_room}
use Rattle.model.specs.state.State.{State, World, fresh_slot}
use Rattle.script.specs.declared.script_body.ScriptBody.{ScriptBody}
use Rattle.script.specs.Faults.{fits}
use Rattle.std.proofs.lemmas.List.{length-map, length-replicate}
use Rattle.engine.specs.Meanings.{body_at, HasMemories, IsFirstMisfit, Suits}
use Rattle.engine.proofs.FirstState.{has_first}
use Rattle.engine.specs.Meanings as engine
use Rattle.command_line.specs.declared.args.Work.{Work}
use Rattle.command_line.specs.Args.{is_recorded}
use Rattle.streams.specs.Writing.{WritesWhole}
use Rattle.kinds.specs.declared.value.Value.{Value}
use Rattle.engine.proofs.BodiesAtHome.{unlike}
use Rattle.program.specs.Load.{entity_given, loaded_world}
use Rattle.engine.specs.FirstState.{first_state}
use Rattle.program.specs.Setup.{AreScriptsOf, script_fits, script_suits, meanings_of_scripts}
use Rattle.program.specs.Recorded.{IsTextOfRuns}
use Rattle.program.specs.declared.answer.Answer.{Answer}
use Rattle.program.specs.declared.fault.Fault.{Fault}
use Rattle.program.specs.declared.fault.Fault.TheVariants.{TooLong, Content, Build, Script, TraceTooLong, TraceLine, TraceOrder, TraceLists, BadStep, UnfinishedRun, WrongAnswer, WrongSets, ClockSpent, IdsSpent, BodyRefused, File, Write, Memory, NoWorker}
use Rattle.program.specs.Fault.{fault_of_file}
use Rattle.program.specs.Accepted.{Accepted, meant_by, start_of}
use Rattle.program.specs.Loaded.{IsLoadedOf, IsNotLoaded}
use Rattle.program.specs.declared.loading.Loaded.{Loaded}
use Rattle.program.specs.Refused.{HasNoTables, IsRefusedBy, IsReplayRefused, IsRunRefused, IsTextRefused, IsTraceUnread, IsUngiven, IsUnread, IsUnreplayed, IsUnrun, ReadsTrace}
use Rattle.program.specs.Replayed.{IsRefusedReplay}
use Rattle.program.specs.Served.{IsAnswerTo, IsRecordKept, IsServed, HasGained, HasGainedFront, Tells, WritesRecord}
use Rattle.program_file.specs.declared.program_file.ProgramFile.{ProgramFile}
use Rattle.program_file.specs.declared.fault.FileFault.{FileFault}
use Rattle.program_file.specs.Keys.{HasOnly}
use Rattle.program_file.specs.Tables.{keys_of_document, AreResourcesIn, AreEntitiesIn, AreSetsIn, AreSystemsIn, AreChainsIn, IsFileIn}
use Rattle.toml.specs.Data.{Members}
use Rattle.program.specs.Said.{IsFileOf, IsOfShortText, IsShortFile, most_bytes, scripts_by}
use Rattle.program_file.specs.declared.fault.FileFault.TheVariants as file
use Rattle.program_file.specs.Faults.{IsFaultOf}
use Rattle.program_file.specs.PlaceFault.{IsOfBytes}
use Rattle.program_file.proofs.EntityCounts.{count-entities}
use Rattle.program_file.proofs.FaultyFiles.{fault-none}
use Rattle.std.specs.Result.{IsErrAnd}
use Rattle.std.specs.Str.{IsUtf8}
use Rattle.streams.proofs.Parts.{front_of_whole}
use Rattle.toml.specs.Parse.{parse_document}
use Rattle.command_line.specs.declared.args.Work.TheVariants as work

-- a script at its place
at-place : (params : Params) (scripts : List ScriptBody) (n : ℕ) → engine.body_fits (λ script p. fits p script) (body_at (map Some scripts) n) params ≡ script_fits (slice_get scripts n) params
at-place params [] n = refl
at-place params (x ∷ scripts) zero = refl
at-place params (x ∷ scripts) (suc n) = at-place params scripts n

-- they suit the state with which their schedule begins
pub scripts-suit : (s : Schedule) (scripts : List ScriptBody) (world : World) (state : State) → AreScriptsOf s scripts → state ≡ first_state s world → Suits script_suits s (map Some scripts) state
scripts-suit s scripts world state fitting is = record {
  body_count = length-map scripts (λ x. Some x) ∙ fitting.count;
  memories = subst (HasMemories s) (sym is) (has_first s world);
  fit = λ n known. at-place (params_of s n) scripts n ∙ fitting.fit n known;
}

-- every script fits
pub no-misfit : (s : Schedule) (scripts : List ScriptBody) (state : State) (n : ℕ) → AreScriptsOf s scripts → IsFirstMisfit (λ script p. fits p script) s (map Some scripts) state n → ⊥
no-misfit s scripts state n fitting wrong = unlike _ (fitting.fit n wrong.known) (sym (at-place (params_of s n) scripts n) ∙ wrong.misfit)

-- what is told of runs from the state as loaded
pub unrun-loaded : (there : Bool) (width : ℕ) (s : Schedule) (scripts : List ScriptBody) (world : World) (entities : List (List Given)) (values : List ℤ) (times : ℕ) (recorded : Bool) (fault : Fault)
    → world ≡ loaded_world entities values → IsUnrun there width s (meanings_of_scripts s scripts) times (first_state s world) recorded fault
    → IsUnrun there width s (meanings_of_scripts s scripts) times (loaded s entities values) recorded fault
unrun-loaded there width s scripts world entities values times recorded fault is h =
    subst (λ (start : State). IsUnrun there width s (meanings_of_scripts s scripts) times start recorded fault) (ap (first_state s) is) h

-- the runs start from the state as loaded
pub runs-loaded : (width : ℕ) (s : Schedule) (scripts : List ScriptBody) (world : World) (entities : List (List Given)) (values : List ℤ) (times : ℕ) (recorded : Bool) (text noted : List ℕ)
    → world ≡ loaded_world entities values → IsTextOfRuns width s (meanings_of_scripts s scripts) (first_state s world) times recorded text noted
    → IsTextOfRuns width s (meanings_of_scripts s scripts) (loaded s entities values) times recorded text noted
runs-loaded width s scripts world entities values times recorded text noted is h =
    subst (λ (start : State). IsTextOfRuns width s (meanings_of_scripts s scripts) start times recorded text noted) (ap (first_state s) is) h

-- so does a replay, with the scripts and the entities of the tables
pub replay-loaded : (tables : ProgramFile) (l : Loaded) (rows : List (Vec Value Global)) (P : List BodyMeaning → State → ℕ → Type 0) → IsLoadedOf tables l → rows ≡ l.entities.items
    → P (meanings_of_scripts l.built l.bodies.items) (loaded l.built (map entity_given rows) l.resources) (length rows)
    → P (meanings_of_scripts l.built (scripts_by tables)) (loaded l.built (map entity_given tables.entities.items) tables.resources) (length tables.entities.items)
replay-loaded tables l rows P of is h =
    subst (λ (values : List ℤ). P (meanings_of_scripts l.built (scripts_by tables)) (loaded l.built (map entity_given tables.entities.items) values) (length tables.entities.items)) of.resources
    (subst (λ (es : List (Vec Value Global)). P (meanings_of_scripts l.built (scripts_by tables)) (loaded l.built (map entity_given es) l.resources) (length es)) (is ∙ of.entities)
    (subst (λ (xs : List ScriptBody). P (meanings_of_scripts l.built xs) (loaded l.built (map entity_given rows) l.resources) (length rows)) of.scripts h))

-- and the world of what is loaded is that of the tables
pub world-loaded : (tables : ProgramFile) (l : Loaded) (rows : List (Vec Value Global)) (world : World) → IsLoadedOf tables l → rows ≡ l.entities.items → world ≡ loaded_world (map entity_given rows) l.resources
    → world ≡ loaded_world (map entity_given tables.entities.items) tables.resources
world-loaded tables l rows world of is h = h ∙ ap (λ es. loaded_world (map entity_given es) l.resources) (is ∙ of.entities) ∙ ap (loaded_world (map entity_given tables.entities.items)) of.resources

-- and of one of which two things are said
pub of-ok-two : {T E : Type 0} (P R Q : T → Type 0) (r : Result T E) → ((x : T) → P x → R x → Q x) → IfOk r P → IfOk r R → IfOk r Q
of-ok-two P R Q (Ok x) f h k = f x h k
of-ok-two P R Q (Err e) f h k = h

-- nothing is written
pub keeps : (bytes : Option (List ℕ)) → Keeps bytes bytes
keeps None = tt
keeps (Some xs) = refl

-- ---- the record

-- it is written where there is one
pub record-written : {T E : Type 0} (work : Work) (old new : Option (List ℕ)) (r : Result T E) (noted : List ℕ) → is_recorded work ≡ true → WritesWhole old new r noted
    → WritesRecord work (old, new) r noted
record-written work old new (Ok x) noted asked h = record { written = λ e. h; kept = λ no. absurd (no asked) }
record-written work old new (Err e) noted asked h = (asked, h)

-- and nothing where there is none
pub record-left : (work : Work) (traces : Option (List ℕ)) (noted : List ℕ) → is_recorded work ≡ false → IsRecordKept work noted (traces, traces)
record-left work traces noted none = record { written = λ asked. absurd (unlike (is_recorded work) asked none); kept = λ no. keeps traces }

-- ---- what is left with the streams

-- a line was told, or a beginning of it
pub told-line : {T E : Type 0} (old new : Option (List ℕ)) (r : Result T E) (line : List ℕ) → WritesWhole old new r line → HasGainedFront (old, new) line
told-line old new r line h = front_of_whole old new r line h

-- the file of the record failed
pub record-failed : (there : Bool) (width : ℕ) (work : Work) (bytes trace : Option (List ℕ)) (status : ℕ) (fault : Fault) (out old new : Option (List ℕ)) (faults : Option (List ℕ) × Option (List ℕ)) (answer : Answer) (noted : List ℕ)
    → IsAnswerTo width work bytes trace answer → noted ≡ string_bytes answer.traces → is_recorded work ≡ true × HasGainedFront (old, new) noted → Tells fault status faults → fault ≡ Write
    → IsServed there width work bytes trace status (out, out) (old, new) faults
record-failed there width work bytes trace status fault out old new faults answer noted is same h told why = inr (inr (inl (record {
  told = subst (λ f. Tells f status faults) why told;
  asked = h.0;
  answer = answer;
  is = is;
  recorded = subst (λ text. HasGainedFront (old, new) text) same h.1;
  kept = keeps out;
})))

-- the output failed
pub output-failed : (there : Bool) (width : ℕ) (work : Work) (bytes trace : Option (List ℕ)) (status : ℕ) (fault : Fault) (old new : Option (List ℕ)) (traces faults : Option (List ℕ) × Option (List ℕ)) (answer : Answer) (noted text : List ℕ)
    → IsAnswerTo width work bytes trace answer → noted ≡ string_bytes answer.traces → IsRecordKept work noted traces → text ≡ string_bytes answer.text → HasGainedFront (old, new) text
    → Tells fault status faults → fault ≡ Write → IsServed there width work bytes trace status (old, new) traces faults
output-failed there width work bytes trace status fault old new traces faults answer noted text is same kept here h told why = inr (inl (record {
  told = subst (λ f. Tells f status faults) why told;
  answer = answer;
  is = is;
  recorded = subst (λ t. IsRecordKept work t traces) same kept;
  written = subst (λ t. HasGainedFront (old, new) t) here h;
}))

-- both were written
pub all-written : (there : Bool) (width : ℕ) (work : Work) (bytes trace : Option (List ℕ)) (old new faults : Option (List ℕ)) (traces : Option (List ℕ) × Option (List ℕ)) (answer : Answer) (noted text : List ℕ)
    → IsAnswerTo width work bytes trace answer → noted ≡ string_bytes answer.traces → IsRecordKept work noted traces → text ≡ string_bytes answer.text → HasGained (old, new) text
    → IsServed there width work bytes trace answer.status (old, new) traces (faults, faults)
all-written there width work bytes trace old new faults traces answer noted text is same kept here h = inl (record {
  answer = answer;
  is = is;
  ends = refl;
  recorded = subst (λ t. IsRecordKept work t traces) same kept;
  written = subst (λ t. HasGained (old, new) t) here h;
  untold = keeps faults;
})

-- the work is refused
pub refused-told : (there : Bool) (width : ℕ) (work : Work) (bytes trace : Option (List ℕ)) (status : ℕ) (fault : Fault) (out traces : Option (List ℕ)) (faults : Option (List ℕ) × Option (List ℕ))
    → IsRefusedBy there width bytes trace work fault → Tells fault status faults → IsServed there width work bytes trace status (out, out) (traces, traces) faults
refused-told there width work bytes trace status fault out traces faults reason told = inr (inr (inr (record {
  fault = fault;
  reason = reason;
  told = told;
  kept = keeps out;
  untouched = keeps traces;
})))

-- ---- a file that is accepted

-- a file whose document has no tables has none
no-tables : (bytes : Option (List ℕ)) (v : Members) → IfSome bytes (λ text. parse_document text ≡ Some v) → ((tables : ProgramFile) → IsFileIn v tables → ⊥) → IfSome bytes HasNoTables
no-tables None v read none = tt
no-tables (Some text) v read none = (
  ap is_some read,
  λ tables h.
      let both : Some h.document ≡ Some v = sym h.parsed ∙ read in
      let same : h.document ≡ v = cc in
      none tables (subst (λ (d : Members). IsFileIn d tables) same (record {
        only = h.only;
        resources = h.resources;
        entities = h.entities;
        sets = h.sets;
        systems = h.systems;
        chains = h.chains;
      })),
)

-- and a fault is told of it
text-refused : (bytes : Option (List ℕ)) (v : Members) (fault : FileFault) → IfSome bytes (λ text. parse_document text ≡ Some v) → IsFaultOf v fault → IfSome bytes HasNoTables → IfSome bytes (IsTextRefused fault)
text-refused None v fault read told none = tt
text-refused (Some text) v fault read told none = (none, v, read, told)

-- and it has the tables that are read
pub is-file : (bytes : Option (List ℕ)) (v : Members) (tables : ProgramFile) → IfSome bytes (λ text. parse_document text ≡ Some v) → HasOnly keys_of_document v → AreResourcesIn v tables.resources →
    AreEntitiesIn v tables.entities.items → AreSetsIn v tables.sets.items → AreSystemsIn v tables.systems.items → AreChainsIn v tables.chains.items → IfSome bytes (IsFileOf tables)
is-file None v tables read only resources entities sets systems chains = tt
is-file (Some text) v tables read only resources entities sets systems chains = record {
  document = v;
  parsed = read;
  only = only;
  resources = resources;
  entities = entities;
  sets = sets;
  systems = systems;
  chains = chains;
}

-- a file of whose tables this is loaded is accepted
abbrev pub accepted : (bytes : Option (List ℕ)) (tables : ProgramFile) (l : Loaded) → IfSome bytes IsShortFile → IfSome bytes (IsFileOf tables) → IsLoadedOf tables l → Accepted bytes
accepted bytes tables l within read of = record {
  within = within;
  tables = tables;
  read = read;
  schedule = l.built;
  built = of.schedule;
  fitting = subst (AreScriptsOf l.built) of.scripts of.fitting;
}

-- ---- who refuses

-- what the tables of a document, and its texts, are refused for: it is not read
pub place-unread : (bytes : Option (List ℕ)) (v : Members) (fault : FileFault) → IfSome bytes IsShortFile → IfSome bytes (λ text. parse_document text ≡ Some v) → IsFaultOf v fault → IsUnread bytes (fault_of_file fault)
place-unread bytes v file.Document within read h = absurd h
place-unread bytes v (file.Value place) within read h = (within, text-refused bytes v (file.Value place) read h (no-tables bytes v read (fault-none v (file.Value place) h)))
place-unread bytes v (file.Text place) within read h = (within, text-refused bytes v (file.Text place) read h (no-tables bytes v read (fault-none v (file.Text place) h)))
place-unread bytes v file.Memory within read h = tt

module _ (there : Bool) (width : ℕ) (bytes trace : Option (List ℕ)) where
  -- the reader of the file
  pub unread-refused : (w : Work) (fault : Fault) → IsUnread bytes fault → IsRefusedBy there width bytes trace w fault
  unread-refused w TooLong h = h
  unread-refused w (Content fault) h = h
  unread-refused w File h = tt
  unread-refused w Memory h = tt
  unread-refused w fault h = absurd h

  -- the tables of a document, and its texts
  pub place-refused : (w : Work) (v : Members) (fault : FileFault) → IfSome bytes IsShortFile → IfSome bytes (λ text. parse_document text ≡ Some v) → IsFaultOf v fault → IsRefusedBy there width bytes trace w (fault_of_file fault)
  place-refused w v fault within read h = unread-refused w (fault_of_file fault) (place-unread bytes v fault within read h)

  -- what the tables declare is refused
  pub load-refused : (w : Work) (tables : ProgramFile) (fault : Fault) → IfSome bytes IsShortFile → IfSome bytes (IsFileOf tables) → IsNotLoaded tables fault → IsRefusedBy there width bytes trace w fault
  load-refused w tables (Build fault) within said h = (tables, within, said, h)
  load-refused w tables (Script cause system block instruction) within said h = (tables, within, said, h.0, h.1, h.2)
  load-refused w tables Memory within said h = tt
  load-refused w tables fault within said h = absurd h

  module _ (file : Accepted bytes) where
    -- the reader of a trace
    pub trace-refused : (w : Work) (fault : Fault) → ReadsTrace w → IsTraceUnread trace fault → IsRefusedBy there width bytes trace w fault
    trace-refused w TraceTooLong reads h = inl (record { reads = reads; file = file; unread = h })
    trace-refused w (TraceLine line) reads h = record { reads = reads; file = file; unread = h }
    trace-refused w (TraceOrder line) reads h = record { reads = reads; file = file; unread = h }
    trace-refused w (TraceLists line) reads h = record { reads = reads; file = file; unread = h }
    trace-refused w File reads h = tt
    trace-refused w Memory reads h = tt
    trace-refused w fault reads h = absurd h

    -- the entities of a world, for which there are ids
    pub given-refused : (w : Work) (fault : Fault) → has_ids (length file.tables.entities.items) [] ≡ true → IsUngiven (length file.tables.entities.items) fault → IsRefusedBy there width bytes trace w fault
    given-refused w IdsSpent enough h = absurd (true≢false (sym enough ∙ h))
    given-refused w Memory enough h = tt
    given-refused w fault enough h = absurd h

    -- new runs
    stopped-run : (times : ℕ) (recorded : Bool) (fault : Fault) → IsUnrun there width file.schedule (meant_by file) times (start_of file) recorded fault → IsRunRefused there width bytes times recorded fault
    stopped-run times recorded fault h = record { file = file; refused = h }

    pub run-refused : (times workers : ℕ) (recorded : Bool) (fault : Fault) → IsUnrun there width file.schedule (meant_by file) times (start_of file) recorded fault
        → IsRefusedBy there width bytes trace (work.Run times workers recorded) fault
    run-refused times workers recorded TraceTooLong h = inr (stopped-run times recorded TraceTooLong h)
    run-refused times workers recorded ClockSpent h = stopped-run times recorded ClockSpent h
    run-refused times workers recorded IdsSpent h = stopped-run times recorded IdsSpent h
    run-refused times workers recorded BodyRefused h = stopped-run times recorded BodyRefused h
    run-refused times workers recorded NoWorker h = stopped-run times recorded NoWorker h
    run-refused times workers recorded Memory h = tt
    run-refused times workers recorded fault h = absurd h

    -- the runs of a trace, taken again
    stopped-replay : (fault : Fault) → IsRefusedReplay file.schedule (meant_by file) (start_of file) trace fault → IsReplayRefused bytes trace fault
    stopped-replay fault h = record { file = file; refused = h }

    replay-refused : (fault : Fault) → IsRefusedReplay file.schedule (meant_by file) (start_of file) trace fault → IsRefusedBy there width bytes trace work.Replay fault
    replay-refused (BadStep run step wrong) h = stopped-replay (BadStep run step wrong) h
    replay-refused (UnfinishedRun run) h = stopped-replay (UnfinishedRun run) h
    replay-refused (WrongAnswer run step) h = stopped-replay (WrongAnswer run step) h
    replay-refused (WrongSets run step) h = stopped-replay (WrongSets run step) h
    replay-refused ClockSpent h = stopped-replay ClockSpent h
    replay-refused IdsSpent h = stopped-replay IdsSpent h
    replay-refused BodyRefused h = stopped-replay BodyRefused h
    replay-refused Memory h = tt
    replay-refused fault h = absurd h.refused.refused

    pub unreplayed-refused : (fault : Fault) → has_ids (length file.tables.entities.items) [] ≡ true → IsUnreplayed file.schedule (meant_by file) (start_of file) (length file.tables.entities.items) trace fault → IsRefusedBy there width bytes trace work.Replay fault
    unreplayed-refused fault enough (inl unread) = trace-refused work.Replay fault tt unread
    unreplayed-refused fault enough (inr (inl ungiven)) = given-refused work.Replay fault enough ungiven
    unreplayed-refused fault enough (inr (inr refused)) = replay-refused fault refused

-- there are ids for all entities of a document within the limit of files
enough-at : (n : ℕ) → n ≤ most_bytes → has_ids n [] ≡ true
unfolding has_ids with_room
enough-at n h = let count : length (replicate (n - 0) fresh_slot) ≡ n = length-replicate _ _ ∙ (omega arith) in rw count (le-leb n most_bytes h)

pub enough : (document : Members) (entities : List (Vec Value Global)) → IsOfShortText document → AreEntitiesIn document entities → has_ids (length entities) [] ≡ true
enough document entities of h = enough-at (length entities) (le_trans (count-entities of.text document entities of.parsed h) of.short)

-- and of one that a conversion gave
pub of-given : {T E : Type 0} (P Q : E → Type 0) (r : Result T E) → IsErrAnd r P → ((e : E) → P e → Q e) → IfErr r Q
of-given P Q (Ok x) h f = absurd h
of-given P Q (Err e) h f = f e h

-- what is known of the bytes that were read is known of all that the reader has
pub known-read : (P : List ℕ → Type 0) (bytes : Option (List ℕ)) (text : List ℕ) → P text → IfSome bytes (λ all. text ≡ all) → IfSome bytes P
known-read P None text known whole = tt
known-read P (Some all) text known whole = subst P whole known

-- the reader of a document
pub document-unread : (bytes : Option (List ℕ)) (text : List ℕ) (fault : FileFault) → IsShortFile text → IfSome bytes (λ all. text ≡ all) → IsOfBytes fault → (fault ≡ file.Document → IsUtf8 text → parse_document text ≡ None) → IsUnread bytes (fault_of_file fault)
document-unread bytes text file.Document within whole only none = (known-read IsShortFile bytes text within whole, known-read (λ all. IsUtf8 all → parse_document all ≡ None) bytes text (none refl) whole)
document-unread bytes text file.Memory within whole only none = tt
document-unread bytes text (file.Value place) within whole only none = absurd only
document-unread bytes text (file.Text place) within whole only none = absurd only
