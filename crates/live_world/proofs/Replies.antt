-- What bytes are replied, by what they send.
use Rattle.std.proofs.Common.{◌≡◌, ◌≢◌, ◌<◌, ◌≤◌, ◌==◌, ℕ, Bool, true, false, true≢false, List, [], length, Option, Some, None, refl, sym, ◌∙◌, inl, inr, subst}
use Rattle.std.specs.Prelude.{MatchOption}
use Rattle.std.proofs.lemmas.Bool.{eqb-true}
use Rattle.std.proofs.lemmas.List.{nil_from_length}
use Rattle.live_world.specs.Sent.{IsParted, IsReplyTo, most_line_bytes}
use Rattle.parsing.specs.Reads.{Reads, SpellsNone, SpellsOnly}
use Rattle.program.specs.Setup.{script_means}
use Rattle.requests.specs.Faults.{IsRequestFault}
use Rattle.requests.specs.Load.{IsLoad}
use Rattle.requests.specs.declared.load.Load.{Load}
use Rattle.requests.specs.declared.request.RequestFault.{RequestFault}
use Rattle.requests.specs.declared.request.RequestFault.TheVariants as fault
use Rattle.script.specs.declared.script_body.ScriptBody.{ScriptBody}
use Rattle.session.specs.Body.{AreLines}
use Rattle.session.specs.Live.{Live}
use Rattle.session.specs.Plays.{IsLoadReply, IsNoLoad, IsReplied, IsUnasked, unasked_reply}
use Rattle.session.specs.Plays.Sent.{Line, TooLong, Loads}
use Rattle.session.specs.declared.reply.Refusal.TheVariants as refusal
use Rattle.session.specs.declared.reply.Reply.{Reply}
use Rattle.session.specs.declared.reply.Reply.TheVariants.{Refused}

-- a line that asks for nothing is refused for that
pub unasked_for : (line : List ℕ) (why : RequestFault) → IsRequestFault line why → IsUnasked line (unasked_reply why)
unasked_for line fault.Unknown told = λ utf8. told
unasked_for line fault.Query told = told
unasked_for line fault.Memory told = tt

-- a text that is read is the line
pub asked_to_load : (text line : List ℕ) (load : Option Load) → text ≡ line → Reads IsLoad text load → MatchOption load (IsNoLoad line) (SpellsOnly IsLoad line)
asked_to_load text line None same h = λ utf8. subst (SpellsNone IsLoad) same h
asked_to_load text line (Some load) same h = subst (λ (l : List ℕ). SpellsOnly IsLoad l load) same h

-- nothing stands behind
none_behind : (rest : List ℕ) (empty : Bool) → empty ≡ (length rest == 0) → empty ≡ true → rest ≡ []
none_behind rest empty e h = nil_from_length rest (eqb-true (length rest) 0 (sym e ∙ h))

some_behind : (rest : List ℕ) (empty : Bool) → empty ≡ (length rest == 0) → empty ≡ false → rest ≢ []
some_behind rest empty e h none = let t : empty ≡ true = e ∙ subst (λ (r : List ℕ). (length r == 0) ≡ true) (sym none) refl in absurd (true≢false (sym t ∙ h))

module _ (sent line rest : List ℕ) (old : Live ScriptBody) (parted : IsParted sent line rest) where
  pub too_long : most_line_bytes < length line → IsReplyTo sent old (Refused refusal.TooLong) old
  too_long long = inl (record { what = TooLong line; is = (long, (rest, parted)); last = false; exchange = (refl, refl, refl) })

  pub line_replied : (reply : Reply) (new : Live ScriptBody) (empty : Bool) → length line ≤ most_line_bytes → empty ≡ (length rest == 0) → empty ≡ true → IsNoLoad line
      → (last : Bool) × IsReplied script_means false 1 old line reply last new → IsReplyTo sent old reply new
  line_replied reply new empty within e h none replied =
      let alone = none_behind rest empty e h in
      inl (record { what = Line line; is = (within, subst (IsParted sent line) alone parted); last = replied.0; exchange = (none, replied.1) })

  pub lines_replied : (reply : Reply) (new : Live ScriptBody) (load : Load) → length line ≤ most_line_bytes → SpellsOnly IsLoad line load → AreLines load.lines rest → IsLoadReply old load rest reply new → IsReplyTo sent old reply new
  lines_replied reply new load within asks are replied =
      inl (record { what = Loads line rest; is = (within, parted); last = false; exchange = (record { load = load; asks = asks; lines = are; replied = replied }, refl) })

  -- there are lines behind one that asks not to load
  pub lines_unasked : (empty : Bool) → empty ≡ (length rest == 0) → empty ≡ false → IsNoLoad line → IsReplyTo sent old (Refused refusal.Unknown) old
  lines_unasked empty e h none = inr (record { line = line; rest = rest; parted = parted; why = inl (some_behind rest empty e h, none) }, refl, refl)

  -- or not those that it asks to load
  pub lines_amiss : (load : Load) → SpellsOnly IsLoad line load → (AreLines load.lines rest → ⊥) → IsReplyTo sent old (Refused refusal.Unknown) old
  lines_amiss load asks other = inr (record { line = line; rest = rest; parted = parted; why = inr (load, asks, other) }, refl, refl)
