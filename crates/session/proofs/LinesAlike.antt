-- Two sessions that agree reply the same to the same lines, and agree again.
use Rattle.std.proofs.Common.{◌≡◌, ◌⊎◌, ℕ, Bool, true, false, List, [], ◌∷◌, map, inl, inr, refl, sym, ap, ap₂, ◌∙◌, subst, subst₂}
use Rattle.std.specs.List.{AllByRecursion}
use Rattle.std.specs.Str.{IsUtf8}
use Rattle.std.proofs.lemmas.Bool.{false≢true}
use Rattle.model.specs.access.Access.{Params}
use Rattle.model.specs.shown.Outcome.{BodyMeaning}
use Rattle.model.specs.state.Shape.{BodiesKeepWithin}
use Rattle.model.specs.steps.Ambiguity.{Settled}
use Rattle.model.specs.steps.Built.{IsBuilt}
use Rattle.model.specs.steps.Schedule.{Schedule}
use Rattle.kinds.specs.Components.{widths}
use Rattle.parsing.specs.Reads.{SpellsNone}
use Rattle.requests.specs.Asked.{Asked}
use Rattle.requests.specs.Faults.{BeginsQuery}
use Rattle.requests.specs.Grammar.{IsRequest}
use Rattle.session.specs.Answers.{IsAnswer}
use Rattle.session.specs.Live.{Live, meant_in}
use Rattle.session.specs.Lockstep.{LineKeepsLockstep, LinesKeepLockstep, OneLineAgrees, PlaysAgree, is_undisturbed}
use Rattle.session.specs.Plays.{IsAnswered, IsExchange, IsReplied, IsUnasked, Plays, Sent, is_quit}
use Rattle.session.specs.Plays.Sent.{Line, TooLong, Loads}
use Rattle.session.specs.Replies.{reply_text}
use Rattle.session.specs.declared.reply.Refusal.TheVariants as refusal
use Rattle.session.specs.declared.reply.Reply.{Reply}
use Rattle.session.specs.declared.reply.Reply.TheVariants.{Failed, Refused}
use Rattle.requests.proofs.Widths.{lines_have_widths}
use Rattle.session.proofs.Lockstep.{AreInStep, from_step, in_step_by_one, into_step, keeps_step}

-- ---- lines that ask for nothing

-- a line of text that asks for nothing is refused for it, by how it begins
unasked : (line : List ℕ) (reply : Reply) → IsUtf8 line → is_undisturbed reply ≡ true → IsUnasked line reply →
    SpellsNone IsRequest line × (((reply ≡ Refused refusal.Unknown) × (BeginsQuery line → ⊥)) ⊎ ((reply ≡ Refused refusal.Query) × BeginsQuery line))
unasked line (Refused refusal.Unknown) text calm h = let fault = h text in (fault.0, inl (refl, fault.1))
unasked line (Refused refusal.Query) text calm h = (h.0, inr (refl, h.1))
unasked line Failed text calm h = absurd (false≢true calm)
unasked line _ text calm h = absurd h

-- in both for one reason
unasked_alike : (line : List ℕ) (reply other_reply : Reply) → IsUtf8 line → is_undisturbed reply ≡ true → is_undisturbed other_reply ≡ true → IsUnasked line reply → IsUnasked line other_reply → reply ≡ other_reply
unasked_alike line reply other_reply text calm other_calm h g = go (unasked line reply text calm h).1 (unasked line other_reply text other_calm g).1
  where
    go : ((reply ≡ Refused refusal.Unknown) × (BeginsQuery line → ⊥)) ⊎ ((reply ≡ Refused refusal.Query) × BeginsQuery line) →
        ((other_reply ≡ Refused refusal.Unknown) × (BeginsQuery line → ⊥)) ⊎ ((other_reply ≡ Refused refusal.Query) × BeginsQuery line) → reply ≡ other_reply
    go (inl p) (inl q) = p.0 ∙ sym q.0
    go (inl p) (inr q) = absurd (p.1 q.1)
    go (inr p) (inl q) = absurd (q.1 p.1)
    go (inr p) (inr q) = p.0 ∙ sym q.0

-- ---- one line

module _ {B C : Type 0} (meaning : B → Params → BodyMeaning) (other_meaning : C → Params → BodyMeaning) (s : Schedule) (bodies : List BodyMeaning) where
  -- a line that asks for something
  asked_alike : (scope other_scope : Bool) (width other_width : ℕ) (line : List ℕ) (one one' : Live B) (other other' : Live C) (reply other_reply : Reply) (last other_last : Bool) →
      IsBuilt s → Settled s → BodiesKeepWithin widths s bodies → AreInStep meaning other_meaning s bodies one other → LineKeepsLockstep one (Line line) →
      is_undisturbed reply ≡ true → is_undisturbed other_reply ≡ true →
      IsAnswered meaning scope width one line reply last one' → IsAnswered other_meaning other_scope other_width other line other_reply other_last other' →
      (reply_text reply ≡ reply_text other_reply) × (last ≡ other_last) × AreInStep meaning other_meaning s bodies one' other'
  asked_alike scope other_scope width other_width line one one' other other' reply other_reply last other_last built settled within both keeps calm other_calm h g =
      let same : g.asked ≡ h.asked = h.spells.1 g.asked g.spells.0 in
      let alike = keeps.1 h.asked h.spells.0 in
      let told = in_step_by_one meaning other_meaning s bodies scope other_scope width other_width h.asked one one' other other' reply other_reply
      built settled within both alike.0 (lines_have_widths line h.asked h.spells.0) (keeps_step s one h.asked both.first.schedule alike.1) calm other_calm h.answer
      (subst (λ (asked : Asked). IsAnswer other_meaning other_scope other_width other asked other_reply other') same g.answer) in
      (told.0, h.ends ∙ ap is_quit (sym same) ∙ sym g.ends, told.1)

  -- a line of text
  replied_alike : (scope other_scope : Bool) (width other_width : ℕ) (line : List ℕ) (one one' : Live B) (other other' : Live C) (reply other_reply : Reply) (last other_last : Bool) →
      IsBuilt s → Settled s → BodiesKeepWithin widths s bodies → AreInStep meaning other_meaning s bodies one other → LineKeepsLockstep one (Line line) →
      is_undisturbed reply ≡ true → is_undisturbed other_reply ≡ true →
      IsReplied meaning scope width one line reply last one' → IsReplied other_meaning other_scope other_width other line other_reply other_last other' →
      (reply_text reply ≡ reply_text other_reply) × (last ≡ other_last) × AreInStep meaning other_meaning s bodies one' other'
  replied_alike scope other_scope width other_width line one one' other other' reply other_reply last other_last built settled within both keeps calm other_calm (inl h) (inl g) =
      asked_alike scope other_scope width other_width line one one' other other' reply other_reply last other_last built settled within both keeps calm other_calm h g
  replied_alike scope other_scope width other_width line one one' other other' reply other_reply last other_last built settled within both keeps calm other_calm (inl h) (inr g) =
      absurd ((unasked line other_reply keeps.0 other_calm g.0).0 h.asked h.spells.0)
  replied_alike scope other_scope width other_width line one one' other other' reply other_reply last other_last built settled within both keeps calm other_calm (inr h) (inl g) =
      absurd ((unasked line reply keeps.0 calm h.0).0 g.asked g.spells.0)
  replied_alike scope other_scope width other_width line one one' other other' reply other_reply last other_last built settled within both keeps calm other_calm (inr h) (inr g) = (
    ap reply_text (unasked_alike line reply other_reply keeps.0 calm other_calm h.0 g.0),
    h.1 ∙ sym g.1,
    subst₂ (AreInStep meaning other_meaning s bodies) (sym h.2) (sym g.2) both,
  )

  -- what is sent
  sent_alike : (scope other_scope : Bool) (width other_width : ℕ) (line : Sent) (one one' : Live B) (other other' : Live C) (reply other_reply : Reply) (last other_last : Bool) →
      IsBuilt s → Settled s → BodiesKeepWithin widths s bodies → AreInStep meaning other_meaning s bodies one other → LineKeepsLockstep one line →
      is_undisturbed reply ≡ true → is_undisturbed other_reply ≡ true →
      IsExchange meaning scope width one line reply last one' → IsExchange other_meaning other_scope other_width other line other_reply other_last other' →
      (reply_text reply ≡ reply_text other_reply) × (last ≡ other_last) × AreInStep meaning other_meaning s bodies one' other'
  sent_alike scope other_scope width other_width (Line line) one one' other other' reply other_reply last other_last built settled within both keeps calm other_calm h g =
      replied_alike scope other_scope width other_width line one one' other other' reply other_reply last other_last built settled within both keeps calm other_calm h.1 g.1
  sent_alike scope other_scope width other_width (TooLong line) one one' other other' reply other_reply last other_last built settled within both keeps calm other_calm h g =
      (ap reply_text (h.0 ∙ sym g.0), h.1 ∙ sym g.1, subst₂ (AreInStep meaning other_meaning s bodies) (sym h.2) (sym g.2) both)
  sent_alike scope other_scope width other_width (Loads line text) one one' other other' reply other_reply last other_last built settled within both keeps calm other_calm h g = absurd keeps

  -- ---- lines

  -- one after the other
  all_alike : (scope other_scope : Bool) (width other_width : ℕ) (lines : List Sent) (one one' : Live B) (other other' : Live C) (replies other_replies : List Reply) →
      IsBuilt s → Settled s → BodiesKeepWithin widths s bodies → AreInStep meaning other_meaning s bodies one other →
      AllByRecursion (λ reply. is_undisturbed reply ≡ true) replies → AllByRecursion (λ reply. is_undisturbed reply ≡ true) other_replies →
      (plays : Plays meaning scope width one lines replies one') → LinesKeepLockstep meaning scope width one lines replies one' plays →
      Plays other_meaning other_scope other_width other lines other_replies other' →
      (map reply_text replies ≡ map reply_text other_replies) × AreInStep meaning other_meaning s bodies one' other'
  all_alike scope other_scope width other_width [] one one' other other' [] [] built settled within both calm other_calm plays keeps others =
      (refl, subst₂ (AreInStep meaning other_meaning s bodies) plays others both)
  all_alike scope other_scope width other_width [] one one' other other' [] (other_reply ∷ other_replies) built settled within both calm other_calm plays keeps others = absurd others
  all_alike scope other_scope width other_width [] one one' other other' (reply ∷ replies) other_replies built settled within both calm other_calm plays keeps others = absurd plays
  all_alike scope other_scope width other_width (line ∷ lines) one one' other other' [] other_replies built settled within both calm other_calm plays keeps others = absurd plays
  all_alike scope other_scope width other_width (line ∷ lines) one one' other other' (reply ∷ replies) [] built settled within both calm other_calm plays keeps others = absurd others
  all_alike scope other_scope width other_width (line ∷ lines) one one' other other' (reply ∷ replies) (other_reply ∷ other_replies) built settled within both calm other_calm plays keeps others =
      let first = sent_alike scope other_scope width other_width line one plays.0 other others.0 reply other_reply false false
      built settled within both keeps.0 calm.0 other_calm.0 plays.1 others.1 in
      let rest = all_alike scope other_scope width other_width lines plays.0 one' others.0 other' replies other_replies
      built settled within first.2 calm.1 other_calm.1 plays.2 keeps.1 others.2 in
      (ap₂ ◌∷◌ first.0 rest.0, rest.1)

-- ---- sessions that are ready

module _ {B C : Type 0} (meaning : B → Params → BodyMeaning) (other_meaning : C → Params → BodyMeaning) where
  -- a line
  pub one_line_agrees : OneLineAgrees meaning other_meaning
  one_line_agrees scope other_scope width other_width line one one' other other' reply other_reply last other_last settled both keeps calm other_calm h g =
      let s = one.engine.schedule in
      let bodies = meant_in meaning one in
      let step = sent_alike meaning other_meaning s bodies scope other_scope width other_width line one one' other other' reply other_reply last other_last
      both.ready.built settled both.ready.within (into_step meaning other_meaning one other both) keeps calm other_calm h g in
      (step.0, step.1, from_step meaning other_meaning s bodies one' other' both.ready.built both.ready.within step.2)

  -- lines
  pub plays_agree : PlaysAgree meaning other_meaning
  plays_agree scope other_scope width other_width lines one one' other other' replies other_replies settled both calm other_calm plays keeps others =
      let s = one.engine.schedule in
      let bodies = meant_in meaning one in
      let step = all_alike meaning other_meaning s bodies scope other_scope width other_width lines one one' other other' replies other_replies
      both.ready.built settled both.ready.within (into_step meaning other_meaning one other both) calm other_calm plays keeps others in
      (step.0, from_step meaning other_meaning s bodies one' other' both.ready.built both.ready.within step.1)
