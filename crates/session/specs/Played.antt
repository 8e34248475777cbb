-- A whole session on its streams, and one turn of it.
use Rattle.std.specs.Prelude.{ℕ, ◌≡◌, ◌⊎◌, Bool, true, false, List, [], ◌∷◌, ◌++◌, Option, Some, None, Result, Ok, Err, IfSome}
use Rattle.std.specs.Io.KnownBytes.{Appends, Consumes, Keeps}
use Rattle.model.specs.access.Access.{Params}
use Rattle.model.specs.shown.Outcome.{BodyMeaning}
use Rattle.parsing.specs.Reads.{SpellsOnly}
use Rattle.requests.specs.Load.{IsLoad}
use Rattle.requests.specs.declared.load.Load.{Load}
use Rattle.session.specs.Body.{AreFewer, AreLines, ended}
use Rattle.session.specs.Entries.{HasEntry, HaveText, IsEntry, entries_text, load_entry}
use Rattle.session.specs.Live.{Live}
use Rattle.session.specs.Plays.{IsExchange, IsLoadReply, Plays, Sent, bytes_of, sent_text, told_text}
use Rattle.session.specs.Replies.{reply_text}
use Rattle.session.specs.declared.play.PlayFault.{PlayFault}
use Rattle.session.specs.declared.play.PlayFault.TheVariants as play
use Rattle.session.specs.declared.play.Replied.{Replied}
use Rattle.session.specs.declared.reply.Reply.{Reply}
use Rattle.streams.specs.declared.reading.ReadFault.{ReadFault}
use Rattle.streams.specs.declared.reading.ReadFault.TheVariants as read
use Rattle.streams.specs.Lines.{IsUnended}
use Rattle.streams.specs.Writing.{AppendsFront}

-- ---- a whole session

-- what is left to read, what is written, and the record, where one is kept
pub record Streams : Type 0 where
  pub input : Option (List ℕ)
  pub output : Option (List ℕ)
  pub recorded : Option (List ℕ)

-- each of the lines has its entry
abbrev pub AreEntries : {B : Type 0} (meaning : B → Params → BodyMeaning) (scope : Bool) (width : ℕ) (old : Live B) (lines : List Sent) (replies : List Reply) (new : Live B) → Plays meaning scope width old lines replies new → List (List ℕ) → Type 0
AreEntries meaning scope width old (line ∷ lines) (reply ∷ replies) new plays (entry ∷ entries) =
    IsEntry meaning width old line reply entry plays.0 × AreEntries meaning scope width plays.0 lines replies new plays.2 entries
AreEntries meaning scope width old [] [] new plays [] = Unit {0}
AreEntries meaning scope width old _ _ new plays _ = ⊥

-- lines were read, and their replies were written, each whole and in order, and so were their entries
pub record HavePlayed {B : Type 0} (meaning : B → Params → BodyMeaning) (scope : Bool) (width : ℕ) (old new : Live B) (before after : Streams) : Type 0 where
  pub lines : List Sent
  pub replies : List Reply
  pub entries : List (List ℕ)
  pub plays : Plays meaning scope width old lines replies new
  pub noted : AreEntries meaning scope width old lines replies new plays entries
  pub read : Consumes before.input after.input (sent_text lines)
  pub told : Appends before.output after.output (told_text replies)
  pub recorded : Appends before.recorded after.recorded (entries_text entries)

-- what is left over is no line, or a line that asks to load behind which too few lines follow
abbrev pub IsLeftOver : List ℕ → Type 0
IsLeftOver rest = IsUnended rest
    ⊎ ((line : List ℕ) × (text : List ℕ) × (load : Load) × SpellsOnly IsLoad line load × AreFewer load.lines text × (rest ≡ ended line ++ text))

-- the streams, but for what was read
abbrev pub reading : Option (List ℕ) → Streams → Streams
reading input streams = record { input = input; output = streams.output; recorded = streams.recorded }

-- no line was left that can be acted on
pub record HasEnded {B : Type 0} (meaning : B → Params → BodyMeaning) (scope : Bool) (width : ℕ) (old new : Live B) (before after : Streams) : Type 0 where
  pub middle : Option (List ℕ)
  pub played : HavePlayed meaning scope width old new before (reading middle after)
  pub over : IfSome middle (λ rest. IsLeftOver rest × (after.input ≡ Some []))

-- the next line was not read
pub record HasStopped {B : Type 0} (meaning : B → Params → BodyMeaning) (scope : Bool) (width : ℕ) (old new : Live B) (before after : Streams) : Type 0 where
  pub middle : Option (List ℕ)
  pub played : HavePlayed meaning scope width old new before (reading middle after)

-- what a text does to known bytes
abbrev pub Grows : Type 1
Grows = Option (List ℕ) → Option (List ℕ) → List ℕ → Type 0

-- nothing was written
abbrev pub KeepsAll : Grows
KeepsAll old new text = Keeps old new

-- one line more was read and acted on, of its entry so much was recorded, and of its reply so much was written
pub record HasActed {B : Type 0} (meaning : B → Params → BodyMeaning) (scope : Bool) (width : ℕ) (Recorded Told : Grows) (old new : Live B) (before after : Streams) : Type 0 where
  pub between : Live B
  pub middle : Streams
  pub played : HavePlayed meaning scope width old between before middle
  pub line : Sent
  pub reply : Reply
  pub last : Bool
  pub entry : List ℕ
  pub exchange : IsExchange meaning scope width between line reply last new
  pub noted : IsEntry meaning width between line reply entry new
  pub read : Consumes middle.input after.input (bytes_of line)
  pub recorded : Recorded middle.recorded after.recorded entry
  pub told : Told middle.output after.output (reply_text reply)

-- it ended at the end of the input, or behind a last line
abbrev pub IsDone : {B : Type 0} → (B → Params → BodyMeaning) → Bool → ℕ → Live B → Live B → Streams → Streams → Type 0
IsDone meaning scope width old new before after =
    HasEnded meaning scope width old new before after
    ⊎ ((acted : HasActed meaning scope width Appends Appends old new before after) × (acted.last ≡ true))

-- memory failed before a line was acted on, or behind that, before its entry was recorded
abbrev pub HasFailed : {B : Type 0} → (B → Params → BodyMeaning) → Bool → ℕ → Live B → Live B → Streams → Streams → Type 0
HasFailed meaning scope width old new before after =
    HasStopped meaning scope width old new before after ⊎ HasActed meaning scope width KeepsAll KeepsAll old new before after

-- how a session ended: each line that was read was recorded and then replied, whole and in order, but for the last one where the record, the
-- output or memory failed. No part of a reply was written before its entry was recorded whole
abbrev pub IsPlayed : {B : Type 0} → (B → Params → BodyMeaning) → Bool → ℕ → Live B → Live B → Streams → Streams → Result (Unit {0}) PlayFault → Type 0
IsPlayed meaning scope width old new before after (Ok done) = IsDone meaning scope width old new before after
IsPlayed meaning scope width old new before after (Err play.Read) = HasStopped meaning scope width old new before after
IsPlayed meaning scope width old new before after (Err play.Record) = HasActed meaning scope width AppendsFront KeepsAll old new before after
IsPlayed meaning scope width old new before after (Err play.Write) = HasActed meaning scope width Appends AppendsFront old new before after
IsPlayed meaning scope width old new before after (Err play.Memory) = HasFailed meaning scope width old new before after

-- ---- one turn

-- what a line that can't be read is reported as
abbrev pub fault_of_read : ReadFault → PlayFault
fault_of_read read.Memory = play.Memory
fault_of_read read.TooLong = play.Read
fault_of_read read.Failed = play.Read

-- what was sent was acted on, and has its entry, which is this text where a record is kept
pub record HasTurned {B : Type 0} (meaning : B → Params → BodyMeaning) (scope : Bool) (width : ℕ) (old : Live B) (sent : Sent) (recorded : Bool) (text : List ℕ) (turn : Replied) (new : Live B) : Type 0 where
  pub exchange : IsExchange meaning scope width old sent turn.reply turn.is_last new
  pub entry : HasEntry meaning width old sent turn.reply recorded text turn.runs.items new
  pub traced : HaveText turn.runs.items

-- the next line was read and acted on; or there is none; or it can't be read
abbrev pub IsTurn : {B : Type 0} → (B → Params → BodyMeaning) → Bool → ℕ → Bool → List ℕ → Live B → Live B → Option (List ℕ) → Option (List ℕ) → Result (Option Replied) PlayFault → Type 0
IsTurn meaning scope width recorded text old new before after (Ok (Some turn)) =
    (sent : Sent) × HasTurned meaning scope width old sent recorded text turn new × Consumes before after (bytes_of sent)
IsTurn meaning scope width recorded text old new before after (Ok None) = (new ≡ old) × IfSome before (λ rest. IsLeftOver rest × (after ≡ Some []))
IsTurn meaning scope width recorded text old new before after (Err play.Write) = ⊥
IsTurn meaning scope width recorded text old new before after (Err play.Record) = ⊥
IsTurn meaning scope width recorded text old new before after (Err fault) = new ≡ old

-- the lines that follow a `load` were read and acted on; or there are too few; or they can't be read
abbrev pub IsLoadTurn : {B : Type 0} → List ℕ → Load → Bool → List ℕ → Live B → Live B → Option (List ℕ) → Option (List ℕ) → Result (Option Replied) PlayFault → Type 0
IsLoadTurn line load recorded entry old new before after (Ok (Some turn)) =
    (text : List ℕ) × AreLines load.lines text × IsLoadReply old load text turn.reply new × (turn.is_last ≡ false) × (turn.runs.items ≡ []) ×
    (recorded ≡ true → entry ≡ load_entry line text turn.reply) × Consumes before after text
IsLoadTurn line load recorded entry old new before after (Ok None) = (new ≡ old) × IfSome before (λ rest. AreFewer load.lines rest × (after ≡ Some []))
IsLoadTurn line load recorded entry old new before after (Err play.Write) = ⊥
IsLoadTurn line load recorded entry old new before after (Err play.Record) = ⊥
IsLoadTurn line load recorded entry old new before after (Err fault) = new ≡ old

-- an entry was recorded, or a beginning of it, or nothing
abbrev pub IsNoted : Option (List ℕ) → Option (List ℕ) → List ℕ → Result (Unit {0}) PlayFault → Type 0
IsNoted before after text (Ok done) = Appends before after text
IsNoted before after text (Err play.Record) = AppendsFront before after text
IsNoted before after text (Err play.Memory) = Keeps before after
IsNoted before after text (Err _) = ⊥
