-- What a session recorded leads another one to the same states.
use Rattle.std.proofs.Common.{◌≡◌, ◌⊎◌, ℕ, Bool, true, false, List, [], ◌∷◌, Option, Some, None, inl, inr, refl, sym, ap, ap₂, ◌∙◌, subst}
use Rattle.std.proofs.lemmas.Bool.{false≢true}
use Rattle.model.specs.access.Access.{Params}
use Rattle.model.specs.runs.WideRuns.{AreWideRuns}
use Rattle.model.specs.sessions.Inputs.{after_input}
use Rattle.model.specs.sessions.Sessions.{AreReplayedRuns}
use Rattle.model.specs.sessions.Sessions.Turn.{Ran}
use Rattle.model.specs.shown.Outcome.{BodyMeaning}
use Rattle.model.specs.state.State.{State}
use Rattle.model.specs.steps.Schedule.{Recorded, Schedule}
use Rattle.model.proofs.sessions.Turns.{replayed_sessions_are_one, sessions_are_replayed}
use Rattle.engine.specs.EngineValue.{mended_with, with_state}
use Rattle.engine.specs.declared.faults.RunFault.{RunFault}
use Rattle.parsing.specs.Reads.{SpellsOnly}
use Rattle.requests.specs.Asked.{Asked}
use Rattle.requests.specs.Asked.{Asked as asked}
use Rattle.requests.specs.Grammar.{IsRequest}
use Rattle.requests.specs.declared.load.Load.{Load}
use Rattle.session.specs.Answers.{HasLost, IsAnswer, IsDone, IsLostBy, Stays}
use Rattle.session.specs.Entries.{AreRunsOf, is_done, is_recorded}
use Rattle.session.specs.Live.{Live, is_lost, meant_in, state_in, with_engine, with_marks}
use Rattle.session.specs.Marks.{kept_at, with_mark, without}
use Rattle.session.specs.Plays.{IsExchange, IsLoadReply, IsReplied, IsUnasked, Plays, Sent}
use Rattle.session.specs.Plays.Sent.{Line, TooLong, Loads}
use Rattle.session.specs.Records.{Act, AreTaken, Entry, HasRedone, HasRetaken, IsRedone, IsTaken}
use Rattle.session.specs.Records.{Act as act}
use Rattle.session.specs.Replayed.{AreNoted, AreSame, IsNotedAs, IsNotedLine, IsUnnoted, OneEntryIsReplayed, RecordsAreReplayed}
use Rattle.session.specs.Replies.{reply_text, shown_text}
use Rattle.session.specs.Saved.{IsLoadAnswer, IsSet}
use Rattle.session.specs.declared.reply.Refusal.{Refusal}
use Rattle.session.specs.declared.reply.Refusal.TheVariants as refusal
use Rattle.session.specs.declared.reply.Reply.{Reply}
use Rattle.session.specs.declared.reply.Shown.{Shown}
use Rattle.session.specs.declared.reply.Reply.TheVariants.{Done, Refused, Failed, Lost}

-- runs of an engine that are taken again leave the state that they left
runs_one : (width : ℕ) (s : Schedule) (bodies : List BodyMeaning) (w : State) (traces : List Recorded) (left again : State) → AreWideRuns width s bodies w traces left → AreReplayedRuns s bodies w traces again → again ≡ left
runs_one width s bodies w traces left again ran taken =
    replayed_sessions_are_one s bodies w (Ran traces ∷ []) again left (again, taken, refl) (sessions_are_replayed width s bodies w (Ran traces ∷ []) left (left, ran, refl))

-- what a turn leaves as it is
pub record Keeps {B : Type 0} (meaning : B → Params → BodyMeaning) (old new : Live B) : Type 0 where
  pub meant : meant_in meaning new ≡ meant_in meaning old

kept : {B : Type 0} (meaning : B → Params → BodyMeaning) (old new : Live B) → new ≡ old → Keeps meaning old new
kept meaning old new same = record { meant = ap (meant_in meaning) same }

-- ---- one session

module _ {B : Type 0} (meaning : B → Params → BodyMeaning) (old new : Live B) where
  -- what its bodies mean stays
  done_keeps : (width : ℕ) (request : Asked) (shown : List ℕ) → IsDone meaning width old request shown new → Keeps meaning old new
  done_keeps width asked.Hello shown h = kept meaning old new h.1
  done_keeps width (asked.Run times) shown h = record { meant = h.1.stays.meant }
  done_keeps width (asked.Put put) shown h = record { meant = ap (meant_in meaning) h.taken }
  done_keeps width (asked.Mark name) shown h = record { meant = ap (meant_in meaning) h.1.kept }
  done_keeps width (asked.Back name) shown h = record { meant = ap (meant_in meaning) h.1.back }
  done_keeps width (asked.Forget name) shown h = record { meant = ap (meant_in meaning) h.2 }
  done_keeps width asked.Quit shown h = kept meaning old new h.1
  done_keeps width asked.Save shown h = kept meaning old new h.same
  done_keeps width asked.World shown h = kept meaning old new h.same
  done_keeps width (asked.Entity id) shown h = kept meaning old new h.same
  done_keeps width (asked.Query since terms) shown h = kept meaning old new h.same
  done_keeps width asked.Resources shown h = kept meaning old new h.same
  done_keeps width (asked.Events kind from) shown h = kept meaning old new h.same
  done_keeps width asked.Values shown h = kept meaning old new h.same
  done_keeps width asked.Digest shown h = kept meaning old new h.same

  lost_keeps : (scope : Bool) (width : ℕ) (request : Asked) (fault : RunFault) → IsLostBy meaning scope width old request fault new → Keeps meaning old new
  lost_keeps scope width (asked.Run times) fault h = record { meant = h.stays.meant }
  lost_keeps scope width asked.Hello fault h = absurd h
  lost_keeps scope width (asked.Put put) fault h = absurd h
  lost_keeps scope width asked.World fault h = absurd h
  lost_keeps scope width (asked.Entity id) fault h = absurd h
  lost_keeps scope width (asked.Query since terms) fault h = absurd h
  lost_keeps scope width asked.Resources fault h = absurd h
  lost_keeps scope width (asked.Events kind from) fault h = absurd h
  lost_keeps scope width asked.Values fault h = absurd h
  lost_keeps scope width asked.Save fault h = absurd h
  lost_keeps scope width asked.Digest fault h = absurd h
  lost_keeps scope width (asked.Mark name) fault h = absurd h
  lost_keeps scope width (asked.Back name) fault h = absurd h
  lost_keeps scope width (asked.Forget name) fault h = absurd h
  lost_keeps scope width asked.Quit fault h = absurd h

  answer_keeps : (scope : Bool) (width : ℕ) (request : Asked) (reply : Reply) → IsAnswer meaning scope width old request reply new → Keeps meaning old new
  answer_keeps scope width request (Done clock shown) h = done_keeps width request (shown_text shown) h.1
  answer_keeps scope width request (Refused why) h = kept meaning old new h.0
  answer_keeps scope width request Failed h = kept meaning old new h.1
  answer_keeps scope width request (Lost fault) h = lost_keeps scope width request fault h

  set_keeps : (state : State) (reply : Reply) → IsSet old state reply new → Keeps meaning old new
  set_keeps state (Done clock shown) h = record { meant = ap (meant_in meaning) h.3 }
  set_keeps state (Refused refusal.OtherMemories) h = kept meaning old new h.0
  set_keeps state Failed h = kept meaning old new h
  set_keeps state (Refused _) h = absurd h
  set_keeps state (Lost fault) h = absurd h

  loaded_keeps : (load : Load) (text : List ℕ) (reply : Reply) → IsLoadAnswer old load text reply new → Keeps meaning old new
  loaded_keeps load text Failed h = kept meaning old new h
  loaded_keeps load text (Done clock shown) (inl h) = set_keeps h.0 (Done clock shown) h.2
  loaded_keeps load text (Done clock shown) (inr h) = kept meaning old new h.3
  loaded_keeps load text (Refused why) (inl h) = set_keeps h.0 (Refused why) h.2
  loaded_keeps load text (Refused why) (inr h) = kept meaning old new h.3
  loaded_keeps load text (Lost fault) (inl h) = set_keeps h.0 (Lost fault) h.2
  loaded_keeps load text (Lost fault) (inr h) = kept meaning old new h.3

  load_keeps : (load : Load) (text : List ℕ) (reply : Reply) → IsLoadReply old load text reply new → Keeps meaning old new
  load_keeps load text (Refused refusal.LongText) h = kept meaning old new h.1
  load_keeps load text (Refused why) h = loaded_keeps load text (Refused why) h
  load_keeps load text (Done clock shown) h = loaded_keeps load text (Done clock shown) h
  load_keeps load text Failed h = loaded_keeps load text Failed h
  load_keeps load text (Lost fault) h = loaded_keeps load text (Lost fault) h

  exchange_keeps : (scope : Bool) (width : ℕ) (line : Sent) (reply : Reply) (last : Bool) → IsExchange meaning scope width old line reply last new → Keeps meaning old new
  exchange_keeps scope width (Line line) reply last (_, inl h) = answer_keeps scope width h.asked reply h.answer
  exchange_keeps scope width (Line line) reply last (_, inr h) = kept meaning old new h.2
  exchange_keeps scope width (TooLong line) reply last h = kept meaning old new h.2
  exchange_keeps scope width (Loads line text) reply last h = load_keeps h.0.load text reply h.0.replied

-- ---- two sessions

module _ {B C : Type 0} (meaning : B → Params → BodyMeaning) (other_meaning : C → Params → BodyMeaning) where
  -- the first stays as it is
  still_same : (one one' : Live B) (other : Live C) → one' ≡ one → AreSame one other → AreSame one' other
  still_same one one' other stays same = subst (λ (l : Live B). AreSame l other) (sym stays) same

  -- it is lost
  lost_same : (scope : Bool) (width : ℕ) (request : Asked) (fault : RunFault) (one one' : Live B) (other : Live C) → IsLostBy meaning scope width one request fault one' → AreSame one other → AreSame one' other
  lost_same scope width (asked.Run times) fault one one' other h same = record {
    schedule = same.schedule ∙ sym h.stays.schedule;
    file = same.file ∙ sym h.stays.file;
    marks = same.marks ∙ sym h.stays.marks;
    there = λ e. absurd (false≢true (sym e ∙ h.lost));
    states = λ e. absurd (false≢true (sym e ∙ h.lost));
  }
  lost_same scope width asked.Hello fault one one' other h same = absurd h
  lost_same scope width (asked.Put put) fault one one' other h same = absurd h
  lost_same scope width asked.World fault one one' other h same = absurd h
  lost_same scope width (asked.Entity id) fault one one' other h same = absurd h
  lost_same scope width (asked.Query since terms) fault one one' other h same = absurd h
  lost_same scope width asked.Resources fault one one' other h same = absurd h
  lost_same scope width (asked.Events kind from) fault one one' other h same = absurd h
  lost_same scope width asked.Values fault one one' other h same = absurd h
  lost_same scope width asked.Save fault one one' other h same = absurd h
  lost_same scope width asked.Digest fault one one' other h same = absurd h
  lost_same scope width (asked.Mark name) fault one one' other h same = absurd h
  lost_same scope width (asked.Back name) fault one one' other h same = absurd h
  lost_same scope width (asked.Forget name) fault one one' other h same = absurd h
  lost_same scope width asked.Quit fault one one' other h same = absurd h

  -- what is recorded of nothing changes nothing
  unrecorded_stays : (width : ℕ) (request : Asked) (shown : List ℕ) (one one' : Live B) → is_recorded request ≡ false → IsDone meaning width one request shown one' → one' ≡ one
  unrecorded_stays width asked.Hello shown one one' un h = h.1
  unrecorded_stays width (asked.Run times) shown one one' un h = absurd (false≢true (sym un))
  unrecorded_stays width (asked.Put put) shown one one' un h = absurd (false≢true (sym un))
  unrecorded_stays width (asked.Mark name) shown one one' un h = absurd (false≢true (sym un))
  unrecorded_stays width (asked.Back name) shown one one' un h = absurd (false≢true (sym un))
  unrecorded_stays width (asked.Forget name) shown one one' un h = absurd (false≢true (sym un))
  unrecorded_stays width asked.Quit shown one one' un h = h.1
  unrecorded_stays width asked.Save shown one one' un h = h.same
  unrecorded_stays width asked.World shown one one' un h = h.same
  unrecorded_stays width (asked.Entity id) shown one one' un h = h.same
  unrecorded_stays width (asked.Query since terms) shown one one' un h = h.same
  unrecorded_stays width asked.Resources shown one one' un h = h.same
  unrecorded_stays width (asked.Events kind from) shown one one' un h = h.same
  unrecorded_stays width asked.Values shown one one' un h = h.same
  unrecorded_stays width asked.Digest shown one one' un h = absurd (false≢true (sym un))

  answer_unnoted : (scope : Bool) (width : ℕ) (request : Asked) (reply : Reply) (one one' : Live B) (other : Live C) → (is_done reply ≡ false) ⊎ (is_recorded request ≡ false) → IsAnswer meaning scope width one request reply one' →
      AreSame one other → AreSame one' other
  answer_unnoted scope width request (Done clock shown) one one' other (inl un) h same = absurd (false≢true (sym un))
  answer_unnoted scope width request (Done clock shown) one one' other (inr un) h same = still_same one one' other (unrecorded_stays width request (shown_text shown) one one' un h.1) same
  answer_unnoted scope width request (Refused why) one one' other un h same = still_same one one' other h.0 same
  answer_unnoted scope width request Failed one one' other un h same = still_same one one' other h.1 same
  answer_unnoted scope width request (Lost fault) one one' other un h same = lost_same scope width request fault one one' other h same

  set_unnoted : (state : State) (reply : Reply) (one one' : Live B) → is_done reply ≡ false → IsSet one state reply one' → one' ≡ one
  set_unnoted state (Done clock shown) one one' un h = absurd (false≢true (sym un))
  set_unnoted state (Refused refusal.OtherMemories) one one' un h = h.0
  set_unnoted state Failed one one' un h = h
  set_unnoted state (Refused _) one one' un h = absurd h
  set_unnoted state (Lost fault) one one' un h = absurd h

  loaded_unnoted : (load : Load) (text : List ℕ) (reply : Reply) (one one' : Live B) → is_done reply ≡ false → IsLoadAnswer one load text reply one' → one' ≡ one
  loaded_unnoted load text Failed one one' un h = h
  loaded_unnoted load text (Done clock shown) one one' un h = absurd (false≢true (sym un))
  loaded_unnoted load text (Refused why) one one' un (inl h) = set_unnoted h.0 (Refused why) one one' un h.2
  loaded_unnoted load text (Refused why) one one' un (inr h) = h.3
  loaded_unnoted load text (Lost fault) one one' un (inl h) = set_unnoted h.0 (Lost fault) one one' un h.2
  loaded_unnoted load text (Lost fault) one one' un (inr h) = h.3

  load_unnoted : (load : Load) (text : List ℕ) (reply : Reply) (one one' : Live B) → is_done reply ≡ false → IsLoadReply one load text reply one' → one' ≡ one
  load_unnoted load text (Refused refusal.LongText) one one' un h = h.1
  load_unnoted load text (Refused why) one one' un h = loaded_unnoted load text (Refused why) one one' un h
  load_unnoted load text (Done clock shown) one one' un h = absurd (false≢true (sym un))
  load_unnoted load text Failed one one' un h = loaded_unnoted load text Failed one one' un h
  load_unnoted load text (Lost fault) one one' un h = loaded_unnoted load text (Lost fault) one one' un h

  unnoted : (scope : Bool) (width : ℕ) (line : Sent) (reply : Reply) (last : Bool) (one one' : Live B) (other : Live C) → IsUnnoted line reply → IsExchange meaning scope width one line reply last one' → AreSame one other → AreSame one' other
  unnoted scope width (Line line) reply last one one' other (inl un) (_, inl h) same = answer_unnoted scope width h.asked reply one one' other (inl un) h.answer same
  unnoted scope width (Line line) reply last one one' other (inr un) (_, inl h) same =
      answer_unnoted scope width h.asked reply one one' other (inr (ap is_recorded (un.1.1 h.asked h.spells.0) ∙ un.2)) h.answer same
  unnoted scope width (Line line) reply last one one' other un (_, inr h) same = still_same one one' other h.2 same
  unnoted scope width (TooLong line) reply last one one' other un h same = still_same one one' other h.2 same
  unnoted scope width (Loads line text) reply last one one' other un h same = still_same one one' other (load_unnoted h.0.load text reply one one' un h.0.replied) same

  -- ---- an entry

  module _ (width : ℕ) (one one' : Live B) (other other' : Live C) (same : AreSame one other) where
    -- runs
    run_same : (times : ℕ) (traces : List Recorded) → Stays meaning one one' → is_lost one ≡ false → AreWideRuns width one.engine.schedule (meant_in meaning one) (state_in one) traces (state_in one') →
        HasRetaken (meant_in meaning one) other other' traces → AreSame one' other'
    run_same times traces stays there ran again =
        let bodies = meant_in meaning one in
        let runs = subst (λ (s : Schedule). AreReplayedRuns s bodies (state_in other) traces again.state) same.schedule again.runs in
        let from = subst (λ (w : State). AreReplayedRuns one.engine.schedule bodies w traces again.state) (same.states there) runs in
        record {
          schedule = ap (λ (l : Live C). l.engine.schedule) again.taken ∙ same.schedule ∙ sym stays.schedule;
          file = ap (λ (l : Live C). l.file) again.taken ∙ same.file ∙ sym stays.file;
          marks = ap (λ (l : Live C). l.marks) again.taken ∙ same.marks ∙ sym stays.marks;
          there = λ _. ap is_lost again.taken;
          states = λ _. ap state_in again.taken ∙ runs_one width one.engine.schedule bodies (state_in one) traces (state_in one') again.state ran from;
        }

    -- each is another one now
    both : (l : Live B) (m : Live C) → one' ≡ l → other' ≡ m → AreSame l m → AreSame one' other'
    both l m is other_is so = subst (λ (x : Live B). AreSame x other') (sym is) (subst (λ (x : Live C). AreSame l x) (sym other_is) so)

    -- the state that was kept, if any
    abbrev kept_or : State → Option State → State
    kept_or default (Some state) = state
    kept_or default None = default

    entry_same : (request : Asked) (traces : List Recorded) (clock : ℕ) (shown : Shown) (reply : Reply) → IsDone meaning width one request (shown_text shown) one' → AreRunsOf meaning width one request (Done clock shown) traces one' →
        is_recorded request ≡ true → is_done reply ≡ true → IsRedone other_meaning (meant_in meaning one) other request traces reply other' → AreSame one' other'
    entry_same (asked.Run times) traces clock shown (Done c s) h runs rec done g = run_same times traces h.1.stays h.1.there runs.ran g.2
    entry_same (asked.Put put) traces clock shown (Done c s) h runs rec done g =
        both (with_engine (with_state (after_input put (state_in one)) one.engine) one) (with_engine (with_state (after_input put (state_in other)) other.engine) other) h.taken g.1.taken
        (record { schedule = same.schedule; file = same.file; marks = same.marks; there = same.there; states = λ e. ap (after_input put) (same.states e) })
    entry_same (asked.Mark name) traces clock shown (Done c s) h runs rec done g =
        both (with_marks (with_mark name (state_in one) one.marks) one) (with_marks (with_mark name (state_in other) other.marks) other) h.1.kept g.1.1.kept
        (record { schedule = same.schedule; file = same.file; marks = ap₂ (λ (w : State) (ms : List (List ℕ × State)). with_mark name w ms) (same.states h.1.there) same.marks; there = same.there; states = same.states })
    entry_same (asked.Back name) traces clock shown (Done c s) h runs rec done g =
        both (with_engine (mended_with h.1.state one.engine) one) (with_engine (mended_with g.1.1.state other.engine) other) h.1.back g.1.1.back
        (record {
          schedule = same.schedule;
          file = same.file;
          marks = same.marks;
          there = λ _. refl;
          states = λ _. ap (kept_or h.1.state) (sym g.1.1.kept ∙ ap (kept_at name) same.marks ∙ h.1.kept);
        })
    entry_same (asked.Forget name) traces clock shown (Done c s) h runs rec done g =
        both (with_marks (without name one.marks) one) (with_marks (without name other.marks) other) h.2 g.1.2
        (record { schedule = same.schedule; file = same.file; marks = ap (without name) same.marks; there = same.there; states = same.states })
    entry_same asked.Digest traces clock shown (Done c s) h runs rec done g = both one other h.same g.1.same same
    entry_same asked.Hello traces clock shown (Done c s) h runs rec done g = absurd (false≢true rec)
    entry_same asked.World traces clock shown (Done c s) h runs rec done g = absurd (false≢true rec)
    entry_same (asked.Entity id) traces clock shown (Done c s) h runs rec done g = absurd (false≢true rec)
    entry_same (asked.Query since terms) traces clock shown (Done c s) h runs rec done g = absurd (false≢true rec)
    entry_same asked.Resources traces clock shown (Done c s) h runs rec done g = absurd (false≢true rec)
    entry_same (asked.Events kind from) traces clock shown (Done c s) h runs rec done g = absurd (false≢true rec)
    entry_same asked.Values traces clock shown (Done c s) h runs rec done g = absurd (false≢true rec)
    entry_same asked.Save traces clock shown (Done c s) h runs rec done g = absurd (false≢true rec)
    entry_same asked.Quit traces clock shown (Done c s) h runs rec done g = absurd (false≢true rec)
    entry_same request traces clock shown (Refused why) h runs rec done g = absurd (false≢true done)
    entry_same request traces clock shown Failed h runs rec done g = absurd (false≢true done)
    entry_same request traces clock shown (Lost fault) h runs rec done g = absurd (false≢true done)

    -- of an answer that is known to be done
    answer_same : (scope : Bool) (request : Asked) (traces : List Recorded) (reply other_reply : Reply) → IsAnswer meaning scope width one request reply one' → AreRunsOf meaning width one request reply traces one' → is_done reply ≡ true →
        is_recorded request ≡ true → is_done other_reply ≡ true → IsRedone other_meaning (meant_in meaning one) other request traces other_reply other' → AreSame one' other'
    answer_same scope request traces (Done clock shown) other_reply h runs done rec other_done g = entry_same request traces clock shown other_reply h.1 runs rec other_done g
    answer_same scope request traces (Refused why) other_reply h runs done rec other_done g = absurd (false≢true done)
    answer_same scope request traces Failed other_reply h runs done rec other_done g = absurd (false≢true done)
    answer_same scope request traces (Lost fault) other_reply h runs done rec other_done g = absurd (false≢true done)

    unasked : (line : List ℕ) (reply : Reply) → IsUnasked line reply → is_done reply ≡ true → ⊥
    unasked line (Done clock shown) un done = un
    unasked line (Refused why) un done = false≢true done
    unasked line Failed un done = false≢true done
    unasked line (Lost fault) un done = un

    act_same : (scope : Bool) (line : Sent) (reply other_reply : Reply) (last : Bool) (a : Act) (told : List ℕ) → IsExchange meaning scope width one line reply last one' →
        IsNotedAs meaning width one line reply one' (record { act = a; told = told }) → IsTaken other_meaning (meant_in meaning one) other (record { act = a; told = told }) other_reply other' →
        (reply_text reply ≡ reply_text other_reply) × AreSame one' other'
    act_same scope (Line line) reply other_reply last (act.Does recorded request traces) told (_, inl h) noted taken = (
      sym noted.told ∙ taken.told,
      answer_same scope request traces reply other_reply
          (subst (λ (r : Asked). IsAnswer meaning scope width one r reply one') (noted.spells.1 h.asked h.spells.0) h.answer) noted.runs noted.done taken.redone.recorded taken.done taken.redone.redone,
    )
    act_same scope (Line line) reply other_reply last (act.Does recorded request traces) told (_, inr h) noted taken = absurd (unasked line reply h.0 noted.done)
    act_same scope (Line line) reply other_reply last (act.Loads recorded load text) told h noted taken = absurd noted
    act_same scope (TooLong line) reply other_reply last a told h noted taken = absurd noted
    act_same scope (Loads line lines) reply other_reply last a told h noted taken = absurd noted

  pub one_replayed : OneEntryIsReplayed meaning other_meaning
  one_replayed scope width line reply other_reply last entry one one' other other' same h noted taken =
      act_same width one one' other other' same scope line reply other_reply last entry.act entry.told h noted taken

  -- ---- a record

  all_replayed : (scope : Bool) (width : ℕ) (bodies : List BodyMeaning) (lines : List Sent) (replies other_replies : List Reply) (entries : List Entry) (one one' : Live B) (other other' : Live C) → bodies ≡ meant_in meaning one → AreSame one other →
      (plays : Plays meaning scope width one lines replies one') → AreNoted meaning scope width one lines replies one' plays entries → AreTaken other_meaning bodies other entries other_replies other' → AreSame one' other'
  all_replayed scope width bodies [] [] [] [] one one' other other' meant same plays noted taken = subst (λ (l : Live B). AreSame l other') plays (subst (λ (l : Live C). AreSame one l) taken same)
  all_replayed scope width bodies [] [] (r ∷ others) [] one one' other other' meant same plays noted taken = absurd taken
  all_replayed scope width bodies [] [] others (e ∷ entries) one one' other other' meant same plays noted taken = absurd noted
  all_replayed scope width bodies [] (r ∷ replies) others entries one one' other other' meant same plays noted taken = absurd plays
  all_replayed scope width bodies (l ∷ lines) [] others entries one one' other other' meant same plays noted taken = absurd plays
  all_replayed scope width bodies (l ∷ lines) (r ∷ replies) others [] one one' other other' meant same plays noted taken =
      all_replayed scope width bodies lines replies others [] plays.0 one' other other' (meant ∙ sym (exchange_keeps meaning one plays.0 scope width l r false plays.1).meant)
      (unnoted scope width l r false one plays.0 other noted.0 plays.1 same) plays.2 noted.1 taken
  all_replayed scope width bodies (l ∷ lines) (r ∷ replies) others (e ∷ entries) one one' other other' meant same plays (inl noted) taken =
      all_replayed scope width bodies lines replies others (e ∷ entries) plays.0 one' other other' (meant ∙ sym (exchange_keeps meaning one plays.0 scope width l r false plays.1).meant)
      (unnoted scope width l r false one plays.0 other noted.0 plays.1 same) plays.2 noted.1 taken
  all_replayed scope width bodies (l ∷ lines) (r ∷ replies) [] (e ∷ entries) one one' other other' meant same plays (inr noted) taken = absurd taken
  all_replayed scope width bodies (l ∷ lines) (r ∷ replies) (o ∷ others) (e ∷ entries) one one' other other' meant same plays (inr noted) taken =
      let now = one_replayed scope width l r o false e one plays.0 other taken.0 same plays.1 noted.0 (subst (λ bs. IsTaken other_meaning bs other e o taken.0) meant taken.1) in
      all_replayed scope width bodies lines replies others entries plays.0 one' taken.0 other' (meant ∙ sym (exchange_keeps meaning one plays.0 scope width l r false plays.1).meant) now.1 plays.2 noted.1 taken.2

  pub records_replayed : RecordsAreReplayed meaning other_meaning
  records_replayed scope width lines replies other_replies entries one one' other other' same plays noted taken =
      all_replayed scope width (meant_in meaning one) lines replies other_replies entries one one' other other' refl same plays noted taken
