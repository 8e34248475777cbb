-- Sessions as a host sees them: lines that are sent, and their replies.
use Rattle.std.specs.Prelude.{ℕ, ◌≡◌, ◌<◌, ◌⊎◌, Bool, true, false, List, [], ◌∷◌, ◌++◌, length, flat_map, Option, Some, None, Result, Ok, Err, IfSome}
use Rattle.std.specs.Io.KnownBytes.{Appends, Consumes, Keeps}
use Rattle.std.specs.Str.{IsUtf8}
use Rattle.model.specs.access.Access.{Params}
use Rattle.model.specs.shown.Outcome.{BodyMeaning}
use Rattle.parsing.specs.Reads.{SpellsNone, SpellsOnly}
use Rattle.requests.specs.Asked.{Asked}
use Rattle.requests.specs.Asked.Asked.{Quit}
use Rattle.requests.specs.Faults.{IsRequestFault}
use Rattle.requests.specs.Grammar.{IsRequest}
use Rattle.requests.specs.declared.request.RequestFault.{RequestFault}
use Rattle.requests.specs.declared.request.RequestFault.TheVariants as fault
use Rattle.requests.specs.Load.{IsLoad}
use Rattle.requests.specs.declared.load.Load.{Load}
use Rattle.session.specs.Answers.{IsAnswer}
use Rattle.session.specs.Body.{AreFewer, AreLines, most_body_bytes}
use Rattle.session.specs.Saved.{IsLoadAnswer}
use Rattle.session.specs.Live.{Live}
use Rattle.session.specs.Replies.{reply_text}
use Rattle.session.specs.declared.play.PlayFault.{PlayFault}
use Rattle.session.specs.declared.play.PlayFault.TheVariants as play
use Rattle.session.specs.declared.reply.Refusal.TheVariants as refusal
use Rattle.session.specs.declared.reply.Reply.{Reply}
use Rattle.session.specs.declared.reply.Reply.TheVariants.{Refused, Failed}
use Rattle.streams.specs.declared.reading.ReadFault.{ReadFault}
use Rattle.streams.specs.declared.reading.ReadFault.TheVariants as read
use Rattle.streams.specs.Lines.{IsUnended}
use Rattle.streams.specs.Writing.{AppendsFront}

-- ---- one line

-- whether a request ends the session
abbrev pub is_quit : Asked → Bool
is_quit Quit = true
is_quit _ = false

-- a line asks for something, and is replied as that. It is the last one if it asks to quit
pub record IsAnswered {B : Type 0} (meaning : B → Params → BodyMeaning) (scope : Bool) (width : ℕ) (old : Live B) (line : List ℕ) (reply : Reply) (last : Bool) (new : Live B) : Type 0 where
  pub asked : Asked
  pub spells : SpellsOnly IsRequest line asked
  pub answer : IsAnswer meaning scope width old asked reply new
  pub ends : last ≡ is_quit asked

-- what is replied where a line asks for nothing, or memory fails
abbrev pub unasked_reply : RequestFault → Reply
unasked_reply fault.Unknown = Refused refusal.Unknown
unasked_reply fault.Query = Refused refusal.Query
unasked_reply fault.Memory = Failed

-- a line is no text or asks for nothing, and is refused for it. An allocation may fail at any time
abbrev pub IsUnasked : List ℕ → Reply → Type 0
IsUnasked line (Refused refusal.Unknown) = IsUtf8 line → IsRequestFault line fault.Unknown
IsUnasked line (Refused refusal.Query) = IsRequestFault line fault.Query
IsUnasked line Failed = Unit {0}
IsUnasked line _ = ⊥

-- the reply to a line, and whether it is the last. A line that asks for nothing changes nothing
abbrev pub IsReplied : {B : Type 0} → (B → Params → BodyMeaning) → Bool → ℕ → Live B → List ℕ → Reply → Bool → Live B → Type 0
IsReplied meaning scope width old line reply last new =
    IsAnswered meaning scope width old line reply last new ⊎ (IsUnasked line reply × (last ≡ false) × (new ≡ old))

-- what a host sends: a line within the limit, one that is too long, or one that asks to load and the lines that follow it
pub data Sent : Type 0 where
  Line TooLong : List ℕ → Sent
  Loads : (line : List ℕ) → (text : List ℕ) → Sent

-- the reply to a line that asks to load, and to the lines that follow it. Too many bytes are refused, and an allocation may fail at any time
abbrev pub IsLoadReply : {B : Type 0} → Live B → Load → List ℕ → Reply → Live B → Type 0
IsLoadReply old load text (Refused refusal.LongText) new = (most_body_bytes < length text) × (new ≡ old)
IsLoadReply old load text reply new = IsLoadAnswer old load text reply new

pub record HasAskedToLoad {B : Type 0} (old : Live B) (line text : List ℕ) (reply : Reply) (new : Live B) : Type 0 where
  pub load : Load
  pub asks : SpellsOnly IsLoad line load
  pub lines : AreLines load.lines text
  pub replied : IsLoadReply old load text reply new

-- a line doesn't ask to load. What is no UTF-8 isn't looked at
abbrev pub IsNoLoad : List ℕ → Type 0
IsNoLoad line = IsUtf8 line → SpellsNone IsLoad line

-- the reply to what is sent
abbrev pub IsExchange : {B : Type 0} → (B → Params → BodyMeaning) → Bool → ℕ → Live B → Sent → Reply → Bool → Live B → Type 0
IsExchange meaning scope width old (Line line) reply last new = IsNoLoad line × IsReplied meaning scope width old line reply last new
IsExchange meaning scope width old (TooLong line) reply last new = (reply ≡ Refused refusal.TooLong) × (last ≡ false) × (new ≡ old)
IsExchange meaning scope width old (Loads line text) reply last new = HasAskedToLoad old line text reply new × (last ≡ false)

-- ---- a whole session

-- lines with their replies lead from one session to another, and none of them is the last
abbrev pub Plays : {B : Type 0} → (B → Params → BodyMeaning) → Bool → ℕ → Live B → List Sent → List Reply → Live B → Type 0
Plays meaning scope width old [] [] new = old ≡ new
Plays {B} meaning scope width old (line ∷ lines) (reply ∷ replies) new =
    (mid : Live B) × IsExchange meaning scope width old line reply false mid × Plays meaning scope width mid lines replies new
Plays meaning scope width old _ _ new = ⊥

-- the bytes of what is sent, with the ends of lines
abbrev pub bytes_of : Sent → List ℕ
bytes_of (Line line) = line ++ 10 ∷ []
bytes_of (TooLong line) = line ++ 10 ∷ []
bytes_of (Loads line text) = (line ++ 10 ∷ []) ++ text

abbrev pub sent_text : List Sent → List ℕ
sent_text lines = flat_map bytes_of lines

-- the bytes of replies
abbrev pub told_text : List Reply → List ℕ
told_text replies = flat_map reply_text replies
