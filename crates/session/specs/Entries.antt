-- The record of a session: an entry for each request that changed something, and for each digest that was asked.
use Rattle.std.specs.Prelude.{ℕ, ◌≡◌, ◌<◌, ◌^◌, Bool, true, false, if◌then◌else◌, ◌&&◌, List, [], ◌∷◌, ◌++◌, length, flat_map, Option, Some, None}
use Rattle.model.specs.access.Access.{Params}
use Rattle.model.specs.shown.Outcome.{BodyMeaning}
use Rattle.model.specs.steps.Schedule.{Recorded}
use Rattle.engine.specs.RunsAs.{RunsAs}
use Rattle.parsing.specs.Reads.{SpellsOnly}
use Rattle.requests.specs.Asked.{Asked}
use Rattle.requests.specs.Asked.Asked.{Run, Put, Mark, Back, Forget, Digest}
use Rattle.requests.specs.Grammar.{IsRequest}
use Rattle.trace_checker.specs.Grammar.{AreAlike, trace_text}
use Rattle.session.specs.Body.{ended}
use Rattle.session.specs.Live.{Live, meant_in, state_in}
use Rattle.session.specs.Plays.{Sent}
use Rattle.session.specs.Plays.Sent.{Line, Loads}
use Rattle.session.specs.Replies.{reply_text}
use Rattle.session.specs.declared.reply.Reply.{Reply}
use Rattle.session.specs.declared.reply.Reply.TheVariants.{Done}

-- ---- runs

-- the traces of what a request ran: those of its runs where it was done, and none of any other request
abbrev pub AreRunsOf : {B : Type 0} → (B → Params → BodyMeaning) → ℕ → Live B → Asked → Reply → List Recorded → Live B → Type 0
AreRunsOf meaning width old (Run times) (Done clock shown) traces new = RunsAs width old.engine.schedule (meant_in meaning old) times (state_in old) (state_in new) traces
AreRunsOf meaning width old asked reply traces new = traces ≡ []

-- whether a request asks for runs
abbrev pub is_run : Asked → Bool
is_run (Run times) = true
is_run _ = false

-- ---- one entry

-- whether what was asked for is done
abbrev pub is_done : Reply → Bool
is_done (Done clock shown) = true
is_done _ = false

-- whether a request is recorded, where it is done: it may change something, or asks for a digest
abbrev pub is_recorded : Asked → Bool
is_recorded (Run times) = true
is_recorded (Put put) = true
is_recorded (Mark name) = true
is_recorded (Back name) = true
is_recorded (Forget name) = true
is_recorded Digest = true
is_recorded _ = false

-- an entry: what was sent, behind it the traces of what was run, and the reply. What sends nothing has none
abbrev pub entry_text : List ℕ → List Recorded → List ℕ → List ℕ
entry_text [] traces told = []
entry_text (byte ∷ bytes) traces told = (byte ∷ bytes) ++ (trace_text traces ++ told)

-- what is recorded of a line, with its end, that asks for this and is replied so: the line, as it was sent, where it is done
abbrev pub line_entry : Asked → List ℕ → Reply → List ℕ
line_entry asked line reply = if is_done reply && is_recorded asked then line else []

-- the entry of a line that asks for something
pub record IsLineEntry {B : Type 0} (meaning : B → Params → BodyMeaning) (width : ℕ) (old : Live B) (line : List ℕ) (reply : Reply) (entry : List ℕ) (new : Live B) : Type 0 where
  pub asked : Asked
  pub spells : SpellsOnly IsRequest line asked
  pub traces : List Recorded
  pub runs : AreRunsOf meaning width old asked reply traces new
  pub spelled : entry ≡ entry_text (line_entry asked (ended line) reply) traces (reply_text reply)

-- a text of what is done
abbrev pub when_done : Reply → List ℕ → List ℕ
when_done reply text = if is_done reply then text else []

-- what is recorded of a state that is loaded: all lines that were sent
abbrev pub load_entry : List ℕ → List ℕ → Reply → List ℕ
load_entry line text reply = when_done reply (ended line ++ text)

-- the entry of what was sent, by its reply. What was not done has none
abbrev pub IsEntry : {B : Type 0} → (B → Params → BodyMeaning) → ℕ → Live B → Sent → Reply → List ℕ → Live B → Type 0
IsEntry meaning width old (Line line) (Done clock shown) entry new = IsLineEntry meaning width old line (Done clock shown) entry new
IsEntry meaning width old (Loads line text) reply entry new = entry ≡ entry_text (load_entry line text reply) [] (reply_text reply)
IsEntry meaning width old sent reply entry new = entry ≡ []

-- ---- what of it is known

-- traces have a text: all of them record kind sets or none does
pub record HaveText (traces : List Recorded) : Type 0 where
  pub few : length traces < 2 ^ 32
  pub alike : AreAlike traces

-- what was sent has an entry. Where a record is kept it is of this text, with these traces behind it
pub record HasEntry {B : Type 0} (meaning : B → Params → BodyMeaning) (width : ℕ) (old : Live B) (sent : Sent) (reply : Reply) (recorded : Bool) (text : List ℕ) (traces : List Recorded) (new : Live B) : Type 0 where
  pub entry : List ℕ
  pub is : IsEntry meaning width old sent reply entry new
  pub spelled : recorded ≡ true → entry ≡ entry_text text traces (reply_text reply)

-- ---- the record

-- the bytes of a record, where one is kept and they are known
abbrev pub kept : {J : Type 0} → (J → Option (List ℕ)) → Option J → Option (List ℕ)
kept contents None = None
kept contents (Some journal) = contents journal

-- its entries
abbrev pub entries_text : List (List ℕ) → List ℕ
entries_text entries = flat_map (λ entry. entry) entries
