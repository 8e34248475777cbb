-- Bytes that a host sends at once, and what is replied to them.
use Rattle.std.specs.Prelude.{ℕ, ◌≡◌, ◌≢◌, ◌<◌, ◌≤◌, ◌⊎◌, Bool, false, List, [], ◌∷◌, ◌++◌, length, Option, Some, None}
use Rattle.live_world.specs.declared.live_world.LiveWorld.{LiveWorld}
use Rattle.parsing.specs.Reads.{SpellsOnly}
use Rattle.program.specs.Setup.{script_means}
use Rattle.requests.specs.Load.{IsLoad}
use Rattle.requests.specs.declared.load.Load.{Load}
use Rattle.script.specs.declared.script_body.ScriptBody.{ScriptBody}
use Rattle.session.specs.Body.{AreLines, ended}
use Rattle.session.specs.Live.{Live}
use Rattle.session.specs.Plays.{IsExchange, IsNoLoad, Sent}
use Rattle.session.specs.Plays.Sent.{Line, TooLong, Loads}
use Rattle.session.specs.Replies.{reply_text}
use Rattle.session.specs.declared.reply.Refusal.TheVariants as refusal
use Rattle.session.specs.declared.reply.Reply.{Reply}
use Rattle.session.specs.declared.reply.Reply.TheVariants.{Refused}
use Rattle.streams.specs.Lines.{IsUnended}

-- ---- bytes

-- the first line of some bytes, and what stands behind its end, where it has one
abbrev pub IsParted : List ℕ → List ℕ → List ℕ → Type 0
IsParted sent line rest = IsUnended line × ((sent ≡ ended line ++ rest) ⊎ ((sent ≡ line) × (rest ≡ [])))

-- nothing stands behind the last end of a line
abbrev pub EndsLines : List ℕ → Type 0
EndsLines text = (text ≡ []) ⊎ ((front : List ℕ) × (text ≡ front ++ 10 ∷ []))

-- the most bytes of a line
abbrev pub most_line_bytes : ℕ
most_line_bytes = 65536

-- what bytes send: a line, with its end or without; one that is too long; or one that asks to load, and the lines
-- that follow it
abbrev pub IsSentAs : Sent → List ℕ → Type 0
IsSentAs (Line line) sent = (length line ≤ most_line_bytes) × IsParted sent line []
IsSentAs (TooLong line) sent = (most_line_bytes < length line) × ((rest : List ℕ) × IsParted sent line rest)
IsSentAs (Loads line text) sent = (length line ≤ most_line_bytes) × IsParted sent line text

-- they send nothing: lines stand behind one that asks not to load, or other lines than it says behind one that does
pub record IsNoRequest (sent : List ℕ) : Type 0 where
  pub line : List ℕ
  pub rest : List ℕ
  pub parted : IsParted sent line rest
  pub why : ((rest ≢ []) × IsNoLoad line) ⊎ ((load : Load) × SpellsOnly IsLoad line load × (AreLines load.lines rest → ⊥))

-- ---- replies

-- what bytes send is answered as in a session whose runs are on one thread
pub record IsAnswerTo (sent : List ℕ) (old : Live ScriptBody) (reply : Reply) (new : Live ScriptBody) : Type 0 where
  pub what : Sent
  pub is : IsSentAs what sent
  pub last : Bool
  pub exchange : IsExchange script_means false 1 old what reply last new

-- or they send nothing, are refused for it, and nothing has changed
abbrev pub IsReplyTo : List ℕ → Live ScriptBody → Reply → Live ScriptBody → Type 0
IsReplyTo sent old reply new = IsAnswerTo sent old reply new ⊎ (IsNoRequest sent × (reply ≡ Refused refusal.Unknown) × (new ≡ old))

-- ---- worlds

-- the text of what a world told last
abbrev pub told_in : LiveWorld → List ℕ
told_in world = text_of world.told
  where
    text_of : Option Reply → List ℕ
    text_of (Some reply) = reply_text reply
    text_of None = []

-- bytes were sent to a world, and their reply is what it told last
pub record HasAsked (sent : List ℕ) (old new : LiveWorld) : Type 0 where
  pub reply : Reply
  pub replied : IsReplyTo sent old.session reply new.session
  pub told : new.told ≡ Some reply
