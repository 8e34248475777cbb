-- Records of sessions, and what it is to take one again.
use Rattle.std.specs.Prelude.{ℕ, ◌≡◌, true, false, List, [], ◌∷◌, ◌++◌, length, flat_map, Option, codes}
use Rattle.std.specs.Io.KnownBytes.{Appends}
use Rattle.std.specs.List.{AllByRecursion}
use Rattle.hex.specs.Hex.{encode_lower}
use Rattle.model.specs.access.Access.{Params}
use Rattle.model.specs.sessions.Sessions.{AreReplayedRuns}
use Rattle.model.specs.shown.Outcome.{BodyMeaning}
use Rattle.model.specs.state.State.{State}
use Rattle.model.specs.steps.Schedule.{Recorded}
use Rattle.engine.specs.EngineValue.{mended_with}
use Rattle.parsing.specs.Reads.{SpellsOnly}
use Rattle.requests.specs.Asked.{Asked, asked_of}
use Rattle.requests.specs.Asked.Asked.{Run}
use Rattle.requests.specs.Grammar.{IsRequest}
use Rattle.requests.specs.Load.{IsLoad}
use Rattle.requests.specs.declared.load.Load.{Load}
use Rattle.streams.specs.Lines.{IsUnended}
use Rattle.trace_checker.specs.Grammar.{AreFitting}
use Rattle.session.specs.Answers.{IsAnswer}
use Rattle.session.specs.Body.{AreLines, ended}
use Rattle.session.specs.Entries as entries
use Rattle.session.specs.Entries.{is_done, is_recorded}
use Rattle.session.specs.Live.{Live, clock_in, is_lost, state_in, with_engine}
use Rattle.session.specs.Plays.{told_text}
use Rattle.session.specs.Replies.{reply_text, shown_text}
use Rattle.session.specs.Saved.{IsLoadAnswer}
use Rattle.session.specs.declared.entry.Deed.{Deed}
use Rattle.session.specs.declared.entry.Deed.TheVariants as deed
use Rattle.session.specs.declared.entry.Entry.{Entry as Read}
use Rattle.session.specs.declared.reply.Reply.{Reply}
use Rattle.session.specs.declared.reply.Reply.TheVariants.{Done}

-- ---- the text

-- what is recorded: a request with the traces of its runs, or a state that is loaded, with the lines behind the request
pub data Act : Type 0 where
  Does : (line : List ℕ) → (asked : Asked) → (traces : List Recorded) → Act
  Loads : (line : List ℕ) → (load : Load) → (text : List ℕ) → Act

-- an entry of it, with the reply
pub record Entry : Type 0 where
  pub act : Act
  pub told : List ℕ

-- its lines
abbrev pub entry_text : Entry → List ℕ
entry_text entry = text_of entry.act entry.told
  where
    text_of : Act → List ℕ → List ℕ
    text_of (Does line asked traces) told = entries.entry_text (ended line) traces told
    text_of (Loads line load text) told = entries.entry_text (ended line ++ text) [] told

-- how many runs a request asks for
abbrev pub runs_asked : Asked → ℕ
runs_asked (Run times) = times
runs_asked _ = 0

-- a line that asks for this, and traces behind it
pub record IsDeed (line : List ℕ) (asked : Asked) (traces : List Recorded) : Type 0 where
  pub whole : IsUnended line
  pub spells : SpellsOnly IsRequest line asked
  pub fitting : AreFitting traces

-- a line that asks to load, and as many lines behind it as it says
pub record IsLoading (line : List ℕ) (load : Load) (text : List ℕ) : Type 0 where
  pub whole : IsUnended line
  pub spells : SpellsOnly IsLoad line load
  pub lines : AreLines load.lines text

-- it is well formed
abbrev pub IsSpelled : Act → Type 0
IsSpelled (Does line asked traces) = IsDeed line asked traces
IsSpelled (Loads line load text) = IsLoading line load text

-- the first line, which names the program file by its digest
abbrev pub head_line : List ℕ → List ℕ
head_line file = codes "record 1 " ++ encode_lower file ++ 10 ∷ []

abbrev pub entries_text : List Entry → List ℕ
entries_text entries = flat_map entry_text entries

-- ---- what is read of it

-- what was read is this
abbrev pub IsReadAs : Deed → Act → Type 0
IsReadAs (deed.Does request runs) (Does line asked traces) = (asked_of request ≡ asked) × (runs.items ≡ traces)
IsReadAs (deed.Loads loaded lines) (Loads line load text) = (loaded ≡ load) × (lines.now ≡ text)
IsReadAs read act = ⊥

-- the traces of what was read
abbrev pub traces_in : Deed → List Recorded
traces_in (deed.Does request runs) = runs.items
traces_in (deed.Loads loaded lines) = []

-- the line of what is recorded, and its traces
abbrev pub line_of : Act → List ℕ
line_of (Does line asked traces) = line
line_of (Loads line load text) = line

abbrev pub traces_of : Act → List Recorded
traces_of (Does line asked traces) = traces
traces_of (Loads line load text) = []

-- the first entry of a text was read, and this stands behind it
pub record IsReadEntry (text : List ℕ) (read : Read) (behind : List ℕ) : Type 0 where
  pub act : Act
  pub sent : read.line.now ≡ line_of act
  pub spelled : IsSpelled act
  pub is : IsReadAs read.deed act
  pub parted : text ≡ entry_text (record { act = act; told = read.told.now }) ++ behind

-- ---- taken again

-- recorded runs were taken again on one thread
pub record HasRetaken {B : Type 0} (bodies : List BodyMeaning) (old new : Live B) (traces : List Recorded) : Type 0 where
  pub there : is_lost old ≡ false
  pub state : State
  pub runs : AreReplayedRuns old.engine.schedule bodies (state_in old) traces state
  pub taken : new ≡ with_engine (mended_with state old.engine) old

-- the runs of a request were taken again; all else is answered
abbrev pub IsRedone : {B : Type 0} → (B → Params → BodyMeaning) → List BodyMeaning → Live B → Asked → List Recorded → Reply → Live B → Type 0
IsRedone meaning bodies old (Run times) traces (Done clock shown) new = (clock ≡ clock_in new) × (shown_text shown ≡ []) × HasRetaken bodies old new traces
IsRedone meaning bodies old (Run times) traces reply new = ⊥
IsRedone meaning bodies old asked traces reply new = IsAnswer meaning false 1 old asked reply new

-- a request was done again that is recorded, with as many traces as runs, by bodies that mean this
pub record HasRedone {B : Type 0} (meaning : B → Params → BodyMeaning) (bodies : List BodyMeaning) (old : Live B) (asked : Asked) (traces : List Recorded) (reply : Reply) (new : Live B) : Type 0 where
  pub recorded : is_recorded asked ≡ true
  pub many : length traces ≡ runs_asked asked
  pub redone : IsRedone meaning bodies old asked traces reply new

-- what is recorded was done again
abbrev pub IsDoneAgain : {B : Type 0} → (B → Params → BodyMeaning) → List BodyMeaning → Live B → Act → Reply → Live B → Type 0
IsDoneAgain meaning bodies old (Does line asked traces) reply new = HasRedone meaning bodies old asked traces reply new
IsDoneAgain meaning bodies old (Loads line load text) reply new = IsLoadAnswer old load text reply new

-- an entry was taken again, and replied as it is recorded
pub record IsTaken {B : Type 0} (meaning : B → Params → BodyMeaning) (bodies : List BodyMeaning) (old : Live B) (entry : Entry) (reply : Reply) (new : Live B) : Type 0 where
  pub spelled : IsSpelled entry.act
  pub redone : IsDoneAgain meaning bodies old entry.act reply new
  pub done : is_done reply ≡ true
  pub told : entry.told ≡ reply_text reply

-- entries were taken again one by one
abbrev pub AreTaken : {B : Type 0} → (B → Params → BodyMeaning) → List BodyMeaning → Live B → List Entry → List Reply → Live B → Type 0
AreTaken meaning bodies old [] [] new = old ≡ new
AreTaken {B} meaning bodies old (entry ∷ entries) (reply ∷ replies) new =
    (mid : Live B) × IsTaken meaning bodies old entry reply mid × AreTaken meaning bodies mid entries replies new
AreTaken meaning bodies old _ _ new = ⊥

-- ---- a whole record

-- what was read of an entry was taken again
abbrev pub IsTakenAs : {B : Type 0} → (B → Params → BodyMeaning) → List BodyMeaning → Live B → Deed → Reply → Live B → Type 0
IsTakenAs meaning bodies old (deed.Does request traces) reply new = HasRedone meaning bodies old (asked_of request) traces.items reply new
IsTakenAs meaning bodies old (deed.Loads load lines) reply new = IsLoadAnswer old load lines.now reply new

-- what was read of an entry was taken again, and replied as it was told
pub record HasTakenAs {B : Type 0} (meaning : B → Params → BodyMeaning) (bodies : List BodyMeaning) (old new : Live B) (read : Read) (words : List ℕ) : Type 0 where
  pub reply : Reply
  pub taken : IsTakenAs meaning bodies old read.deed reply new
  pub done : is_done reply ≡ true
  pub told : read.told.now ≡ reply_text reply
  pub replied : words ≡ reply_text reply

-- the first entry of a text was taken again, and this stands behind it
pub record HasTakenFirst {B : Type 0} (meaning : B → Params → BodyMeaning) (bodies : List BodyMeaning) (old new : Live B) (text told behind : List ℕ) : Type 0 where
  pub entry : Entry
  pub reply : Reply
  pub spelled : text ≡ entry_text entry ++ behind
  pub taken : IsTaken meaning bodies old entry reply new
  pub replied : told ≡ reply_text reply

-- entries were taken again, and their replies written, each whole and in order. What is left of the text is cut short, if anything is
pub record IsTakenAgain {B : Type 0} (meaning : B → Params → BodyMeaning) (bodies : List BodyMeaning) (old new : Live B) (text rest : List ℕ) (before after : Option (List ℕ)) : Type 0 where
  pub entries : List Entry
  pub replies : List Reply
  pub taken : AreTaken meaning bodies old entries replies new
  pub spelled : text ≡ head_line old.file ++ (entries_text entries ++ rest)
  pub told : Appends before after (told_text replies)
