-- Replays: what a session recorded, taken again by another, leads that one to the same states. Left out are states that were loaded.
use Rattle.std.specs.Prelude.{ℕ, ◌≡◌, ◌⊎◌, Bool, true, false, List, [], ◌∷◌}
use Rattle.model.specs.access.Access.{Params}
use Rattle.model.specs.shown.Outcome.{BodyMeaning}
use Rattle.model.specs.steps.Schedule.{Recorded}
use Rattle.parsing.specs.Reads.{SpellsOnly}
use Rattle.requests.specs.Asked.{Asked}
use Rattle.requests.specs.Grammar.{IsRequest}
use Rattle.session.specs.Entries.{AreRunsOf, is_done, is_recorded}
use Rattle.session.specs.Live.{Live, is_lost, meant_in, state_in}
use Rattle.session.specs.Plays.{IsExchange, Plays, Sent}
use Rattle.session.specs.Plays.Sent.{Line, TooLong, Loads}
use Rattle.session.specs.Records.{Act, AreTaken, Entry, IsTaken}
use Rattle.session.specs.Records.Act.{Does}
use Rattle.session.specs.Replies.{reply_text}
use Rattle.session.specs.declared.reply.Reply.{Reply}

-- ---- sessions

-- two sessions are of one schedule and one file, and keep the same states. Where the first isn't lost, neither is the other, and their own
-- states are the same, stamp for stamp
pub record AreSame {B C : Type 0} (one : Live B) (other : Live C) : Type 0 where
  pub schedule : other.engine.schedule ≡ one.engine.schedule
  pub file : other.file ≡ one.file
  pub marks : other.marks ≡ one.marks
  pub there : is_lost one ≡ false → is_lost other ≡ false
  pub states : is_lost one ≡ false → state_in other ≡ state_in one

-- ---- what is recorded

-- a line that asks for this was done and is recorded, with the traces of what it ran, and with its reply
pub record IsNotedLine {B : Type 0} (meaning : B → Params → BodyMeaning) (width : ℕ) (old : Live B) (line : List ℕ) (reply : Reply) (new : Live B) (recorded : List ℕ) (asked : Asked) (traces : List Recorded) (words : List ℕ) : Type 0 where
  pub same : recorded ≡ line
  pub spells : SpellsOnly IsRequest line asked
  pub runs : AreRunsOf meaning width old asked reply traces new
  pub done : is_done reply ≡ true
  pub told : words ≡ reply_text reply

-- what was sent is recorded in this entry
abbrev pub IsNotedAs : {B : Type 0} → (B → Params → BodyMeaning) → ℕ → Live B → Sent → Reply → Live B → Entry → Type 0
IsNotedAs {B} meaning width old sent reply new entry = is_act sent entry.act
  where
    is_act : Sent → Act → Type 0
    is_act (Line line) (Does recorded asked traces) = IsNotedLine meaning width old line reply new recorded asked traces entry.told
    is_act _ _ = ⊥

-- what was sent was not done, or asks for nothing that is recorded
abbrev pub IsUnnoted : Sent → Reply → Type 0
IsUnnoted (Line line) reply = (is_done reply ≡ false) ⊎ ((asked : Asked) × SpellsOnly IsRequest line asked × (is_recorded asked ≡ false))
IsUnnoted (TooLong line) reply = Unit {0}
IsUnnoted (Loads line text) reply = is_done reply ≡ false

-- these are the entries of all that was sent
abbrev pub AreNoted : {B : Type 0} (meaning : B → Params → BodyMeaning) (scope : Bool) (width : ℕ) (old : Live B) (lines : List Sent) (replies : List Reply) (new : Live B) → Plays meaning scope width old lines replies new → List Entry → Type 0
AreNoted meaning scope width old [] [] new plays [] = Unit {0}
AreNoted meaning scope width old (line ∷ lines) (reply ∷ replies) new plays [] = IsUnnoted line reply × AreNoted meaning scope width plays.0 lines replies new plays.2 []
AreNoted meaning scope width old (line ∷ lines) (reply ∷ replies) new plays (entry ∷ entries) =
    (IsUnnoted line reply × AreNoted meaning scope width plays.0 lines replies new plays.2 (entry ∷ entries))
    ⊎ (IsNotedAs meaning width old line reply plays.0 entry × AreNoted meaning scope width plays.0 lines replies new plays.2 entries)
AreNoted meaning scope width old _ _ new plays _ = ⊥

-- ---- taken again

-- an entry that is taken again by bodies that mean the same, on one thread, is replied as it was, and leads to the same states
abbrev pub OneEntryIsReplayed : {B C : Type 0} → (B → Params → BodyMeaning) → (C → Params → BodyMeaning) → Type 0
OneEntryIsReplayed {B} {C} meaning other_meaning = (scope : Bool) (width : ℕ) (line : Sent) (reply other_reply : Reply) (last : Bool) (entry : Entry)
    (one one' : Live B) (other other' : Live C) →
    AreSame one other → IsExchange meaning scope width one line reply last one' → IsNotedAs meaning width one line reply one' entry →
    IsTaken other_meaning (meant_in meaning one) other entry other_reply other' →
    (reply_text reply ≡ reply_text other_reply) × AreSame one' other'

-- the entries of a session, taken again, lead to the same states
abbrev pub RecordsAreReplayed : {B C : Type 0} → (B → Params → BodyMeaning) → (C → Params → BodyMeaning) → Type 0
RecordsAreReplayed {B} {C} meaning other_meaning = (scope : Bool) (width : ℕ) (lines : List Sent) (replies other_replies : List Reply) (entries : List Entry)
    (one one' : Live B) (other other' : Live C) →
    AreSame one other → (plays : Plays meaning scope width one lines replies one') → AreNoted meaning scope width one lines replies one' plays entries →
    AreTaken other_meaning (meant_in meaning one) other entries other_replies other' →
    AreSame one' other'
