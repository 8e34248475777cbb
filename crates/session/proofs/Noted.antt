-- The entries of lines.
use Rattle.std.proofs.Common.{◌==◌, false, length, ◌≡◌, ◌<◌, ℕ, Bool, true, List, [], ◌∷◌, ◌++◌, arith, refl, sym, ap, ap₂, ◌∙◌, subst}
use Rattle.std.proofs.lemmas.Grind.{common_steps}
use Rattle.parsing.specs.Reads.{SpellsOnly}
use Rattle.model.specs.access.Access.{Params}
use Rattle.model.specs.shown.Outcome.{BodyMeaning}
use Rattle.model.specs.steps.Schedule.{Recorded}
use Rattle.requests.specs.Asked.{Asked}
use Rattle.requests.specs.Faults.{IsRequestFault}
use Rattle.requests.specs.Grammar.{IsRequest}
use Rattle.requests.specs.declared.request.RequestFault.{RequestFault}
use Rattle.requests.specs.declared.request.RequestFault.TheVariants as fault
use Rattle.trace_checker.specs.Grammar.{trace_text}
use Rattle.session.specs.Body.{ended}
use Rattle.session.specs.Entries.{AreRunsOf, HasEntry, HaveText, IsEntry, entry_text, line_entry, load_entry}
use Rattle.session.specs.Live.{Live}
use Rattle.session.specs.Plays.{IsUnasked, Sent, unasked_reply}
use Rattle.session.specs.Plays.Sent.{Line, Loads, TooLong}
use Rattle.session.specs.Replies.{reply_text}
use Rattle.session.specs.declared.reply.Reply.{Reply}
use Rattle.session.specs.declared.reply.Reply.TheVariants.{Done, Refused, Failed, Lost}

-- what was sent is some bytes
pub some_text : (entry : List ℕ) (traces : List Recorded) (told text : List ℕ) → (entry ≡ [] → ⊥) → text ≡ entry ++ (trace_text traces ++ told) → entry_text entry traces told ≡ text
some_text [] traces told text some same = absurd (some refl)
some_text (b ∷ bs) traces told text some same = sym same

-- a list that is not empty has some
pub filled : (entry : List ℕ) (len : ℕ) (empty : Bool) → len ≡ length entry → empty ≡ (len == 0) → empty ≡ false → entry ≡ [] → ⊥
filled entry len empty is e h none = let zero : length entry ≡ 0 = ap length none in grind (arith, common_steps, is, e, h, zero)

-- no runs have a text
pub no_runs : (traces : List Recorded) → traces ≡ [] → HaveText traces
no_runs traces none = subst HaveText (sym none) (record { few = omega arith; alike = (true, tt) })

-- a line that can't be read is refused for that
pub unasked_for : (line : List ℕ) (fault : RequestFault) → IsRequestFault line fault → IsUnasked line (unasked_reply fault)
unasked_for line fault.Unknown told = λ utf8. told
unasked_for line fault.Query told = told
unasked_for line fault.Memory told = tt

module _ {B : Type 0} (meaning : B → Params → BodyMeaning) (width : ℕ) (old new : Live B) where
  -- a line that asks for something
  asked_entry : (line text : List ℕ) (asked : Asked) (reply : Reply) (traces : List Recorded) → SpellsOnly IsRequest line asked → AreRunsOf meaning width old asked reply traces new → text ≡ line_entry asked (ended line) reply →
      IsEntry meaning width old (Line line) reply (entry_text text traces (reply_text reply)) new
  asked_entry line text asked (Done clock shown) traces spells runs same = record {
    asked = asked;
    spells = spells;
    traces = traces;
    runs = runs;
    spelled = ap (λ t. entry_text t traces (reply_text (Done clock shown))) same;
  }
  asked_entry line text asked (Refused why) traces spells runs same = ap (λ t. entry_text t traces (reply_text (Refused why))) same
  asked_entry line text asked Failed traces spells runs same = ap (λ t. entry_text t traces (reply_text Failed)) same
  asked_entry line text asked (Lost fault) traces spells runs same = ap (λ t. entry_text t traces (reply_text (Lost fault))) same

  pub asked_noted : (line text : List ℕ) (asked : Asked) (reply : Reply) (traces : List Recorded) → SpellsOnly IsRequest line asked → AreRunsOf meaning width old asked reply traces new → text ≡ line_entry asked (ended line) reply →
      HasEntry meaning width old (Line line) reply true text traces new
  asked_noted line text asked reply traces spells runs same = record {
    entry = entry_text text traces (reply_text reply);
    is = asked_entry line text asked reply traces spells runs same;
    spelled = λ _. refl;
  }

  -- one that asks for nothing
  unasked_entry : (line : List ℕ) (reply : Reply) → IsUnasked line reply → IsEntry meaning width old (Line line) reply [] new
  unasked_entry line (Done clock shown) un = absurd un
  unasked_entry line (Refused why) un = refl
  unasked_entry line Failed un = refl
  unasked_entry line (Lost fault) un = absurd un

  pub unasked_noted : (line text : List ℕ) (reply : Reply) (traces : List Recorded) → IsUnasked line reply → text ≡ [] → HasEntry meaning width old (Line line) reply true text traces new
  unasked_noted line text reply traces un same = record {
    entry = [];
    is = unasked_entry line reply un;
    spelled = λ _. ap (λ t. entry_text t traces (reply_text reply)) (sym same);
  }

  -- known or not, it is the same entry
  pub either_noted : (recorded : Bool) (sent : Sent) (reply : Reply) (text : List ℕ) (traces : List Recorded) → HasEntry meaning width old sent reply true text traces new → HasEntry meaning width old sent reply recorded text traces new
  either_noted recorded sent reply text traces h = record { entry = h.entry; is = h.is; spelled = λ _. h.spelled refl }

  -- one that is too long
  pub too_long_noted : (recorded : Bool) (line text : List ℕ) (reply : Reply) (traces : List Recorded) → text ≡ [] → HasEntry meaning width old (TooLong line) reply recorded text traces new
  too_long_noted recorded line text reply traces same = record {
    entry = [];
    is = refl;
    spelled = λ _. ap (λ t. entry_text t traces (reply_text reply)) (sym same);
  }

  -- one that asks to load
  pub load_noted : (recorded : Bool) (line lines text : List ℕ) (reply : Reply) (traces : List Recorded) → traces ≡ [] → (recorded ≡ true → text ≡ load_entry line lines reply) →
      HasEntry meaning width old (Loads line lines) reply recorded text traces new
  load_noted recorded line lines text reply traces none same = record {
    entry = entry_text (load_entry line lines reply) [] (reply_text reply);
    is = refl;
    spelled = λ e. ap₂ (λ t (rs : List Recorded). entry_text t rs (reply_text reply)) (sym (same e)) (sym none);
  }
