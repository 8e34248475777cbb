-- A turn in which the lines that follow a `load` are read.
use Rattle.std.proofs.Common.{◌≡◌, ℕ, Bool, List, [], ◌∷◌, ◌++◌, Option, Some, None, Result, Ok, Err, true, inr, refl, ap₂, ◌∙◌, subst}
use Rattle.std.specs.Prelude.{IfSome, MatchOption, OnOk}
use Rattle.std.specs.Io.KnownBytes.{Consumes}
use Rattle.std.proofs.KnownBytes.{Consumes-trans}
use Rattle.model.specs.access.Access.{Params}
use Rattle.model.specs.shown.Outcome.{BodyMeaning}
use Rattle.parsing.specs.Reads.{Reads, SpellsNone, SpellsOnly}
use Rattle.requests.specs.Load.{IsLoad}
use Rattle.requests.specs.declared.load.Load.{Load}
use Rattle.session.specs.Body.{AreFewer, IsKnownAs, ended}
use Rattle.session.specs.Entries.{is_done, load_entry, when_done}
use Rattle.session.specs.declared.body_lines.Follows.{Follows}
use Rattle.session.specs.declared.body_lines.Follows.TheVariants.{Whole}
use Rattle.session.specs.declared.reply.Reply.{Reply}
use Rattle.session.specs.declared.reply.Reply.TheVariants.{Done, Refused, Failed, Lost}
use Rattle.session.specs.Live.{Live}
use Rattle.session.specs.Played.{IsLeftOver, IsLoadTurn, IsTurn}
use Rattle.session.specs.Plays.{IsNoLoad}
use Rattle.session.specs.Plays.Sent.{Loads}
use Rattle.session.specs.declared.play.PlayFault.{PlayFault}
use Rattle.session.specs.declared.play.PlayFault.TheVariants as play
use Rattle.session.specs.declared.play.Replied.{Replied}
use Rattle.session.proofs.Noted.{load_noted, no_runs}

-- what a line is read as, by its text
pub read_line : (text line : List ℕ) (r : Option Load) → text ≡ line → Reads IsLoad text r → MatchOption r (IsNoLoad line) (SpellsOnly IsLoad line)
read_line text line None same none = λ is. subst (SpellsNone IsLoad) same none
read_line text line (Some load) same only = subst (λ l. SpellsOnly IsLoad l load) same only

-- what holds where there is a value, where there is one
pub ok_given : {T E : Type 0} (r : Result T E) (x : T) (P : Type 0) → r ≡ Ok x → OnOk r P → P
ok_given r x P is h = subst (λ o. OnOk o P) is h

-- the entry of lines that were loaded
pub loaded_entry : (line text body entry now : List ℕ) (known : Follows) (reply : Reply) → (is_done reply ≡ true → known ≡ Whole) → IsKnownAs known text body → (known ≡ Whole → entry ≡ ended line) → now ≡ when_done reply (entry ++ body) →
    now ≡ load_entry line text reply
loaded_entry line text body entry now known (Done clock shown) done is begun same = same ∙ ap₂ (λ (a b : List ℕ). a ++ b) (begun (done refl)) (subst (λ (k : Follows). IsKnownAs k text body) (done refl) is)
loaded_entry line text body entry now known (Refused why) done is begun same = same
loaded_entry line text body entry now known Failed done is begun same = same
loaded_entry line text body entry now known (Lost fault) done is begun same = same

module _ {B : Type 0} (meaning : B → Params → BodyMeaning) (scope : Bool) (width : ℕ) (recorded : Bool) (entry : List ℕ) (old new : Live B) (before mid after : Option (List ℕ)) (line : List ℕ) (load : Load) (asks : SpellsOnly IsLoad line load)
    (read : Consumes before mid (ended line)) where
  -- the input ends before all of them were read
  left_over : (before mid : Option (List ℕ)) → Consumes before mid (ended line) → IfSome mid (λ rest. AreFewer load.lines rest × (after ≡ Some [])) → IfSome before (λ rest. IsLeftOver rest × (after ≡ Some []))
  left_over None mid c h = tt
  left_over (Some xs) None c h = absurd c
  left_over (Some xs) (Some ys) c h = (inr (line, ys, load, asks, h.0, c), h.1)

  pub load_turn : (r : Result (Option Replied) PlayFault) → IsLoadTurn line load recorded entry old new mid after r → IsTurn meaning scope width recorded entry old new before after r
  load_turn (Ok (Some replied)) h = (
    Loads line h.0,
    record {
      exchange = (record { load = load; asks = asks; lines = h.1; replied = h.2 }, h.3);
      entry = load_noted meaning width old new recorded line h.0 entry replied.reply replied.runs.items h.4 h.5;
      traced = no_runs replied.runs.items h.4;
    },
    Consumes-trans before mid after (ended line) h.0 read h.6,
  )
  load_turn (Ok None) h = (h.0, left_over before mid read h.1)
  load_turn (Err play.Read) h = h
  load_turn (Err play.Memory) h = h
  load_turn (Err play.Write) h = absurd h
  load_turn (Err play.Record) h = absurd h
