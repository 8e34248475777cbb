-- A session that has gone on by one line.
use Rattle.std.proofs.Common.{◌≡◌, ℕ, Bool, true, false, List, [], ◌∷◌, ◌++◌, Option, Some, None, Result, Ok, Err, inl, inr, refl, sym, ap, ◌∙◌, subst}
use Rattle.std.specs.Prelude.{IsErrAnd, is_some}
use Rattle.std.specs.Io.KnownBytes.{Appends, Consumes}
use Rattle.std.proofs.KnownBytes.{Appends-nil, Appends-trans, Consumes-nil, Consumes-trans, Keeps-refl}
use Rattle.std.proofs.lemmas.Grind.{flat_map-append}
use Rattle.std.proofs.lemmas.List.{append-nil}
use Rattle.model.specs.access.Access.{Params}
use Rattle.model.specs.shown.Outcome.{BodyMeaning}
use Rattle.session.specs.Live.{Live}
use Rattle.session.specs.Entries.{IsEntry, entries_text, kept}
use Rattle.session.specs.Played.{AreEntries, Grows, HasActed, HavePlayed, IsDone, IsNoted, IsPlayed, IsTurn, KeepsAll, Streams}
use Rattle.session.specs.Plays.{IsExchange, Plays, Sent, bytes_of, sent_text, told_text}
use Rattle.session.specs.Replies.{reply_text}
use Rattle.session.specs.declared.play.PlayFault.{PlayFault}
use Rattle.session.specs.declared.play.PlayFault.TheVariants as play
use Rattle.session.specs.declared.reply.Reply.{Reply}
use Rattle.streams.specs.Writing.{AppendsFront}

-- what holds of an error holds of the result that it is
pub told_err : {T E : Type 0} (P : Result T E → Type 0) (r : Result T E) (e : E) → IsErrAnd r (λ x. x ≡ e) → P (Err e) → P r
told_err P (Ok t) e is p = absurd is
told_err P (Err x) e is p = subst (λ y. P (Err y)) (sym is) p

module _ {B : Type 0} (meaning : B → Params → BodyMeaning) (scope : Bool) (width : ℕ) where
  -- nothing was read yet
  pub played_none : (old : Live B) (before : Streams) → HavePlayed meaning scope width old old before before
  played_none old before = record {
    lines = [];
    replies = [];
    entries = [];
    plays = refl;
    noted = tt;
    read = Consumes-nil before.input;
    told = Appends-nil before.output;
    recorded = Appends-nil before.recorded;
  }

  -- one line more
  plays_more : (old mid new : Live B) (lines : List Sent) (replies : List Reply) (line : Sent) (reply : Reply) → Plays meaning scope width old lines replies mid → IsExchange meaning scope width mid line reply false new →
      Plays meaning scope width old (lines ++ line ∷ []) (replies ++ reply ∷ []) new
  plays_more old mid new [] [] line reply plays is = (new, subst (λ (l : Live B). IsExchange meaning scope width l line reply false new) (sym plays) is, refl)
  plays_more old mid new [] (r ∷ replies) line reply plays is = absurd plays
  plays_more old mid new (l ∷ lines) [] line reply plays is = absurd plays
  plays_more old mid new (l ∷ lines) (r ∷ replies) line reply plays is = (plays.0, plays.1, plays_more plays.0 mid new lines replies line reply plays.2 is)

  entries_more : (old mid new : Live B) (lines : List Sent) (replies : List Reply) (line : Sent) (reply : Reply) (plays : Plays meaning scope width old lines replies mid) (is : IsExchange meaning scope width mid line reply false new)
      (entries : List (List ℕ)) (entry : List ℕ) → AreEntries meaning scope width old lines replies mid plays entries → IsEntry meaning width mid line reply entry new →
      AreEntries meaning scope width old (lines ++ line ∷ []) (replies ++ reply ∷ []) new (plays_more old mid new lines replies line reply plays is) (entries ++ entry ∷ [])
  unfolding plays_more
  entries_more old mid new [] [] line reply plays is [] entry noted more = (subst (λ (l : Live B). IsEntry meaning width l line reply entry new) (sym plays) more, tt)
  entries_more old mid new [] [] line reply plays is (e ∷ entries) entry noted more = absurd noted
  entries_more old mid new [] (r ∷ replies) line reply plays is entries entry noted more = absurd plays
  entries_more old mid new (l ∷ lines) [] line reply plays is entries entry noted more = absurd plays
  entries_more old mid new (l ∷ lines) (r ∷ replies) line reply plays is [] entry noted more = absurd noted
  entries_more old mid new (l ∷ lines) (r ∷ replies) line reply plays is (e ∷ entries) entry noted more = (noted.0, entries_more plays.0 mid new lines replies line reply plays.2 is entries entry noted.1 more)

  pub played_more : (old mid new : Live B) (before middle after : Streams) (line : Sent) (reply : Reply) (entry : List ℕ) → HavePlayed meaning scope width old mid before middle → IsExchange meaning scope width mid line reply false new →
      IsEntry meaning width mid line reply entry new → Consumes middle.input after.input (bytes_of line) → Appends middle.output after.output (reply_text reply) → Appends middle.recorded after.recorded entry →
      HavePlayed meaning scope width old new before after
  played_more old mid new before middle after line reply entry played is noted read told recorded = record {
    lines = played.lines ++ line ∷ [];
    replies = played.replies ++ reply ∷ [];
    entries = played.entries ++ entry ∷ [];
    plays = plays_more old mid new played.lines played.replies line reply played.plays is;
    noted = entries_more old mid new played.lines played.replies line reply played.plays is played.entries entry played.noted noted;
    read = subst (Consumes before.input after.input) (sym (flat_map-append bytes_of played.lines (line ∷ []) ∙ ap (λ t. sent_text played.lines ++ t) (append-nil (bytes_of line))))
        (Consumes-trans before.input middle.input after.input (sent_text played.lines) (bytes_of line) played.read read);
    told = subst (Appends before.output after.output) (sym (flat_map-append reply_text played.replies (reply ∷ []) ∙ ap (λ t. told_text played.replies ++ t) (append-nil (reply_text reply))))
        (Appends-trans before.output middle.output after.output (told_text played.replies) (reply_text reply) played.told told);
    recorded = subst (Appends before.recorded after.recorded) (sym (flat_map-append (λ e. e) played.entries (entry ∷ []) ∙ ap (λ t. entries_text played.entries ++ t) (append-nil entry)))
        (Appends-trans before.recorded middle.recorded after.recorded (entries_text played.entries) entry played.recorded recorded);
  }

  -- ---- what a turn comes to

  -- the line was not read
  pub not_read : (old mid new : Live B) (before : Streams) (input rest output recorded : Option (List ℕ)) (known : Bool) (text : List ℕ) (fault : PlayFault) → HavePlayed meaning scope width old mid before (record { input = input; output = output; recorded = recorded }) →
      IsTurn meaning scope width known text mid new input rest (Err fault) → IsPlayed meaning scope width old new before (record { input = rest; output = output; recorded = recorded }) (Err fault)
  not_read old mid new before input rest output recorded known text play.Read played turn = record {
    middle = input;
    played = subst (λ (l : Live B). HavePlayed meaning scope width old l before (record { input = input; output = output; recorded = recorded })) (sym turn) played;
  }
  not_read old mid new before input rest output recorded known text play.Memory played turn = inl (record {
    middle = input;
    played = subst (λ (l : Live B). HavePlayed meaning scope width old l before (record { input = input; output = output; recorded = recorded })) (sym turn) played;
  })
  not_read old mid new before input rest output recorded known text play.Write played turn = absurd turn
  not_read old mid new before input rest output recorded known text play.Record played turn = absurd turn

  module _ (old mid new : Live B) (before : Streams) (input rest output recorded : Option (List ℕ)) (sent : Sent) (reply : Reply) (last : Bool) (entry : List ℕ)
      (played : HavePlayed meaning scope width old mid before (record { input = input; output = output; recorded = recorded })) (exchange : IsExchange meaning scope width mid sent reply last new)
      (noted : IsEntry meaning width mid sent reply entry new) (read : Consumes input rest (bytes_of sent)) where
    abbrev acted : (more written : Option (List ℕ)) (Recorded Told : Grows) → Recorded recorded more entry → Told output written (reply_text reply) →
        HasActed meaning scope width Recorded Told old new before (record { input = rest; output = written; recorded = more })
    acted more written Recorded Told is told = record {
      between = mid;
      middle = record { input = input; output = output; recorded = recorded };
      played = played;
      line = sent;
      reply = reply;
      last = last;
      entry = entry;
      exchange = exchange;
      noted = noted;
      read = read;
      recorded = is;
      told = told;
    }

    -- memory failed for its reply
    pub not_spelled : IsPlayed meaning scope width old new before (record { input = rest; output = output; recorded = recorded }) (Err play.Memory)
    not_spelled = inr (acted recorded output KeepsAll KeepsAll (Keeps-refl recorded) (Keeps-refl output))

    -- its entry was not recorded whole
    pub not_noted : (more : Option (List ℕ)) (fault : PlayFault) → IsNoted recorded more entry (Err fault) → IsPlayed meaning scope width old new before (record { input = rest; output = output; recorded = more }) (Err fault)
    not_noted more play.Record is = acted more output AppendsFront KeepsAll is (Keeps-refl output)
    not_noted more play.Memory is = inr (acted more output KeepsAll KeepsAll is (Keeps-refl output))
    not_noted more play.Read is = absurd is
    not_noted more play.Write is = absurd is

    module _ (more : Option (List ℕ)) (is : Appends recorded more entry) (written : Option (List ℕ)) where
      -- its reply was not written whole
      pub not_told : AppendsFront output written (reply_text reply) → IsPlayed meaning scope width old new before (record { input = rest; output = written; recorded = more }) (Err play.Write)
      not_told told = acted more written Appends AppendsFront is told

      -- it was the last one
      pub last_told : Appends output written (reply_text reply) → last ≡ true → IsDone meaning scope width old new before (record { input = rest; output = written; recorded = more })
      last_told told end = inr (acted more written Appends Appends is told, end)

      -- it goes on
      pub goes_on : Appends output written (reply_text reply) → last ≡ false → HavePlayed meaning scope width old new before (record { input = rest; output = written; recorded = more })
      goes_on told end = played_more old mid new before (record { input = input; output = output; recorded = recorded }) (record { input = rest; output = written; recorded = more }) sent reply entry played
          (subst (λ (b : Bool). IsExchange meaning scope width mid sent reply b new) end exchange) noted read told is

-- what is known of a record, where one is kept
pub noted_as : {J : Type 0} (contents : J → Option (List ℕ)) (journal : Option J) (after : Option (List ℕ)) (text entry : List ℕ) (r : Result (Unit {0}) PlayFault) → (is_some journal ≡ true → entry ≡ text) →
    IsNoted (kept contents journal) after text r → IsNoted (kept contents journal) after entry r
noted_as contents (Some j) after text entry r same is = subst (λ t. IsNoted (contents j) after t r) (sym (same refl)) is
noted_as contents None after text entry (Ok done) same is = tt
noted_as contents None after text entry (Err play.Record) same is = ([], entry, refl, tt)
noted_as contents None after text entry (Err play.Memory) same is = tt
noted_as contents None after text entry (Err play.Read) same is = absurd is
noted_as contents None after text entry (Err play.Write) same is = absurd is
