-- The replies to lines that ask to load.
use Rattle.std.proofs.Common.{◌≡◌, ℕ, List, inl, inr, subst, sym, ap}
use Rattle.requests.specs.declared.load.Load.{Load}
use Rattle.session.specs.Live.{Live}
use Rattle.session.specs.Plays.{IsLoadReply}
use Rattle.session.specs.Saved.{IsLoadAnswer, IsUnsaved}
use Rattle.session.specs.declared.reply.Refusal.{Refusal}
use Rattle.session.specs.declared.reply.Refusal.TheVariants as refusal
use Rattle.session.specs.declared.reply.Reply.{Reply}
use Rattle.session.specs.declared.reply.Reply.TheVariants.{Done, Refused, Failed, Lost}

-- what a refusal tells
abbrev told : Reply → Refusal
told (Refused why) = why
told _ = refusal.LongText

-- no text that is within the limit is told to be too long
refused : {B : Type 0} (old : Live B) (load : Load) (text : List ℕ) (why : Refusal) (new : Live B) → IsLoadAnswer old load text (Refused why) new → IsLoadReply old load text (Refused why) new
refused old load text refusal.LongText new (inl h) = absurd h.2
refused old load text refusal.LongText new (inr h) = absurd (subst (IsUnsaved old.file load.anyway text) (sym (ap told h.1)) h.2)
refused old load text _ new h = h

pub answered : {B : Type 0} (old : Live B) (load : Load) (text body : List ℕ) (reply : Reply) (new : Live B) → body ≡ text → IsLoadAnswer old load body reply new → IsLoadReply old load text reply new
answered old load text body (Refused why) new same h = refused old load text why new (subst (λ t. IsLoadAnswer old load t (Refused why) new) same h)
answered old load text body (Done clock shown) new same h = subst (λ t. IsLoadAnswer old load t (Done clock shown) new) same h
answered old load text body Failed new same h = h
answered old load text body (Lost fault) new same h = subst (λ t. IsLoadAnswer old load t (Lost fault) new) same h
