-- Two sessions that agree reply the same to the same requests, and agree again.
use Rattle.std.proofs.Common.{◌≡◌, ℕ, Bool, true, false, List, [], ◌∷◌, ◌++◌, map, codes, Some, is_some, inl, inr, refl, sym, ap, ap₂, ◌∙◌, subst, subst₂}
use Rattle.std.specs.Prelude.{if◌then◌else◌}
use Rattle.std.specs.Fmt.{decimal}
use Rattle.std.specs.List.{AllByRecursion}
use Rattle.std.proofs.lemmas.Bool.{both_ways, false≢true}
use Rattle.model.specs.access.Access.{Params}
use Rattle.model.specs.shown.Outcome.{BodyMeaning}
use Rattle.model.specs.state.Agreement.{Agrees}
use Rattle.model.specs.state.Shape.{BodiesKeepWithin, IsStateOf}
use Rattle.model.specs.state.State.{State}
use Rattle.model.specs.steps.Ambiguity.{Settled}
use Rattle.model.specs.steps.Built.{IsBuilt}
use Rattle.model.specs.steps.Schedule.{Recorded, Schedule}
use Rattle.model.specs.runs.Causes.{Cause}
use Rattle.model.specs.runs.Causes.Cause.{NoEventNumber, NoIds, NoTick, Refused as Refuses}
use Rattle.model.specs.runs.WideRuns.{AreWideRuns}
use Rattle.model.specs.sessions.Inputs as inputs
use Rattle.model.specs.sessions.Inputs.{HasWidths, KeepsAgreementIn, after_input, can_input, cause_of_input}
use Rattle.model.specs.sessions.Sessions.Turn.{Ran}
use Rattle.model.specs.sessions.Sessions.Wish.{Times}
use Rattle.model.proofs.agreement.Agreement.{agrees_sym}
use Rattle.model.proofs.sessions.Agreement.{inputs_keep_agreement}
use Rattle.model.proofs.sessions.Shape.{input_causes_are_exact, inputs_keep_shape}
use Rattle.model.proofs.sessions.Turns.{sessions_agree, sessions_keep_shape, turns_are_any}
use Rattle.model.proofs.sessions.Unstamped.{inputs_are_alike}
use Rattle.kinds.specs.Components.{widths}
use Rattle.engine.specs.EngineValue.{mended_with, with_state}
use Rattle.engine.specs.RunsAs.{RunsAs}
use Rattle.requests.specs.Asked.{Asked}
use Rattle.requests.specs.Asked.{Asked as asked}
use Rattle.session.specs.Answers.{HasGoneBack, HasLooked, HasMarked, HasPut, HasRun, IsAnswer, IsDone, IsRefused, IsRefusedFor, IsUntaken}
use Rattle.session.specs.Live.{Live, clock_in, is_lost, meant_in, state_in, with_engine, with_marks}
use Rattle.requests.specs.Widths.{AskedHasWidths}
use Rattle.session.specs.Lockstep.{AllKeepLockstep, AreAnswers, AreInLockstep, IsReady, KeepsLockstep, MarksAgree, OneReplyAgrees, RepliesAgree, is_told_alike, is_undisturbed}
use Rattle.session.specs.Looks.{seen_by}
use Rattle.session.specs.Marks.{can_keep, is_kept, kept_at, with_mark, without}
use Rattle.session.specs.Replies.{reply_text, shown_text}
use Rattle.session.specs.declared.reply.Refusal.{Refusal}
use Rattle.session.specs.declared.reply.Refusal.TheVariants as refusal
use Rattle.session.specs.declared.reply.Reply.{Reply}
use Rattle.session.specs.declared.reply.Reply.TheVariants.{Done, Failed, Lost, Refused}
use Rattle.session.specs.declared.reply.Shown.{Shown}
use Rattle.session.proofs.Alike.{lines_alike, seen_alike}
use Rattle.session.proofs.LineCounts.{counted_alike}
use Rattle.session.proofs.Lives.{all_kept, all_marked, all_without}
use Rattle.session.proofs.MarksAlike.{can_keep_alike, has_place, is_kept_alike, kept_alike, marks_agree_sym, with_mark_alike, without_alike}

-- ---- sessions of one schedule

-- a session that isn't lost, of a schedule, whose bodies mean this, and whose states are of the schedule
pub record IsSessionOf {B : Type 0} (meaning : B → Params → BodyMeaning) (s : Schedule) (bodies : List BodyMeaning) (live : Live B) : Type 0 where
  pub there : is_lost live ≡ false
  pub schedule : live.engine.schedule ≡ s
  pub meant : meant_in meaning live ≡ bodies
  pub state : IsStateOf widths s (state_in live)
  pub kept : AllByRecursion (λ (mark : List ℕ × State). IsStateOf widths s mark.1) live.marks

-- two such sessions, whose states agree
pub record AreInStep {B C : Type 0} (meaning : B → Params → BodyMeaning) (other_meaning : C → Params → BodyMeaning) (s : Schedule) (bodies : List BodyMeaning) (one : Live B) (other : Live C) : Type 0 where
  pub first : IsSessionOf meaning s bodies one
  pub second : IsSessionOf other_meaning s bodies other
  pub states : Agrees s (state_in one) (state_in other)
  pub marks : MarksAgree s one.marks other.marks

-- an input keeps agreement in a state
abbrev pub KeepsStep : Schedule → Asked → State → Type 0
KeepsStep s (asked.Put put) w = KeepsAgreementIn s put w
KeepsStep s _ w = Unit {0}

-- as it does in a session
pub keeps_step : {B : Type 0} (s : Schedule) (live : Live B) (request : Asked) → live.engine.schedule ≡ s → KeepsLockstep live request → KeepsStep s request (state_in live)
keeps_step s live (asked.Put put) schedule keeps = subst (λ (x : Schedule). KeepsAgreementIn x put (state_in live)) schedule keeps
keeps_step s live _ schedule keeps = tt

-- ---- one session

-- runs keep the shape of a state
runs_keep : (width : ℕ) (s : Schedule) (bodies : List BodyMeaning) (w : State) (traces : List Recorded) (w' : State) → IsBuilt s → BodiesKeepWithin widths s bodies →
    IsStateOf widths s w → AreWideRuns width s bodies w traces w' → IsStateOf widths s w'
runs_keep width s bodies w traces w' built within shape ran =
    sessions_keep_shape widths s bodies w (Ran traces ∷ []) w' built within (tt, tt) shape (turns_are_any width s bodies w (Ran traces ∷ []) w' (inl (w', ran, refl)))

module _ {B : Type 0} (meaning : B → Params → BodyMeaning) (s : Schedule) (bodies : List BodyMeaning) where
  -- its runs are runs of the schedule
  runs_of : (width times : ℕ) (old new : Live B) → IsSessionOf meaning s bodies old → (h : HasRun meaning width times old new) →
      RunsAs width s bodies times (state_in old) (state_in new) h.traces
  runs_of width times old new is h =
      subst₂ (λ (x : Schedule) (bs : List BodyMeaning). RunsAs width x bs times (state_in old) (state_in new) h.traces) is.schedule is.meant h.runs

  -- after runs it is such a session
  session_run : (width times : ℕ) (old new : Live B) → IsBuilt s → BodiesKeepWithin widths s bodies → IsSessionOf meaning s bodies old → HasRun meaning width times old new →
      IsSessionOf meaning s bodies new
  session_run width times old new built within is h = record {
    there = h.sound;
    schedule = h.stays.schedule ∙ is.schedule;
    meant = h.stays.meant ∙ is.meant;
    state = runs_keep width s bodies (state_in old) h.traces (state_in new) built within is.state (runs_of width times old new is h).ran;
    kept = subst (λ marks. AllByRecursion (λ (mark : List ℕ × State). IsStateOf widths s mark.1) marks) (sym h.stays.marks) is.kept;
  }

  -- after an input
  session_put : (put : inputs.Input) (old : Live B) → HasWidths widths put → can_input put (state_in old) ≡ true → IsSessionOf meaning s bodies old →
      IsSessionOf meaning s bodies (with_engine (with_state (after_input put (state_in old)) old.engine) old)
  session_put put old wide can is = record {
    there = is.there;
    schedule = is.schedule;
    meant = is.meant;
    state = inputs_keep_shape widths s put (state_in old) wide can is.state;
    kept = is.kept;
  }

  -- once a state is kept
  session_marked : (name : List ℕ) (old : Live B) → IsSessionOf meaning s bodies old → IsSessionOf meaning s bodies (with_marks (with_mark name (state_in old) old.marks) old)
  session_marked name old is = record {
    there = is.there;
    schedule = is.schedule;
    meant = is.meant;
    state = is.state;
    kept = all_marked (λ (mark : List ℕ × State). IsStateOf widths s mark.1) name (state_in old) old.marks is.kept is.state;
  }

  -- once it went back
  session_back : (name : List ℕ) (old : Live B) (state : State) → kept_at name old.marks ≡ Some state → IsSessionOf meaning s bodies old →
      IsSessionOf meaning s bodies (with_engine (mended_with state old.engine) old)
  session_back name old state kept is = record {
    there = refl;
    schedule = is.schedule;
    meant = is.meant;
    state = all_kept (IsStateOf widths s) name old.marks state is.kept kept;
    kept = is.kept;
  }

  -- once a state is let go
  session_forgot : (name : List ℕ) (old : Live B) → IsSessionOf meaning s bodies old → IsSessionOf meaning s bodies (with_marks (without name old.marks) old)
  session_forgot name old is = record {
    there = is.there;
    schedule = is.schedule;
    meant = is.meant;
    state = is.state;
    kept = all_without (λ (mark : List ℕ × State). IsStateOf widths s mark.1) name old.marks is.kept;
  }

-- ---- refusals

-- what an input is refused for
abbrev refusal_by : Cause → Refusal
refusal_by NoTick = refusal.ClockSpent
refusal_by NoEventNumber = refusal.ClockSpent
refusal_by NoIds = refusal.IdsSpent
refusal_by (Refuses n) = refusal.Lost

module _ {B : Type 0} where
  -- an input that isn't taken has a cause, and is refused for it
  untaken : (old : Live B) (put : inputs.Input) (why : Refusal) → IsUntaken old put why → (cause : Cause) × (cause_of_input put (state_in old) ≡ Some cause) × (why ≡ refusal_by cause)
  untaken old put refusal.ClockSpent (inl h) = (NoTick, h, refl)
  untaken old put refusal.ClockSpent (inr h) = (NoEventNumber, h, refl)
  untaken old put refusal.IdsSpent h = (NoIds, h, refl)
  untaken old put _ h = absurd h

  -- what a request about a name is refused for
  mark_refused : (old : Live B) (name : List ℕ) (why : Refusal) → IsRefused old (asked.Mark name) why → (why ≡ refusal.ManyMarks) × (can_keep name old.marks ≡ false)
  mark_refused old name refusal.ManyMarks h = (refl, h)
  mark_refused old name _ h = absurd h

  back_refused : (old : Live B) (name : List ℕ) (why : Refusal) → IsRefused old (asked.Back name) why → (why ≡ refusal.NoMark) × (is_kept name old.marks ≡ false)
  back_refused old name refusal.NoMark h = (refl, h)
  back_refused old name _ h = absurd h

  forget_refused : (old : Live B) (name : List ℕ) (why : Refusal) → IsRefused old (asked.Forget name) why → (why ≡ refusal.NoMark) × (is_kept name old.marks ≡ false)
  forget_refused old name refusal.NoMark h = (refl, h)
  forget_refused old name _ h = absurd h

  -- where the state is there, it isn't what a request is refused for
  refused_there : (old : Live B) (request : Asked) (why : Refusal) → is_lost old ≡ false → IsRefusedFor old request why → IsRefused old request why
  refused_there old request refusal.Lost there h = absurd (both_ways (is_lost old) there h.0)
  refused_there old request _ there h = h

-- an input that can be taken has no cause
taken_in : (put : inputs.Input) (w : State) (cause : Cause) → can_input put w ≡ true → cause_of_input put w ≡ Some cause → ⊥
taken_in put w cause can met = both_ways (can_input put w) ((input_causes_are_exact put w).1 (ap is_some met)) can

-- ---- replies

-- two that agree have the same clock
module _ {B C : Type 0} (meaning : B → Params → BodyMeaning) (other_meaning : C → Params → BodyMeaning) (s : Schedule) (bodies : List BodyMeaning) where
  clock_alike : (one : Live B) (other : Live C) → AreInStep meaning other_meaning s bodies one other → clock_in one ≡ clock_in other
  clock_alike one other both =
      ap₂ (λ lost clock. if lost then 0 else clock) (both.first.there ∙ sym both.second.there) (ap (λ (x : State). x.world.clock) both.states.same)

  -- either way
  other_way : (one : Live B) (other : Live C) → AreInStep meaning other_meaning s bodies one other → AreInStep other_meaning meaning s bodies other one
  other_way one other both = record {
    first = both.second;
    second = both.first;
    states = agrees_sym s (state_in one) (state_in other) both.states;
    marks = marks_agree_sym s one.marks other.marks both.marks;
  }

  -- runs
  runs_alike : (width other_width times : ℕ) (one one' : Live B) (other other' : Live C) → IsBuilt s → Settled s → BodiesKeepWithin widths s bodies →
      AreInStep meaning other_meaning s bodies one other → HasRun meaning width times one one' → HasRun other_meaning other_width times other other' →
      AreInStep meaning other_meaning s bodies one' other'
  runs_alike width other_width times one one' other other' built settled within both h g =
      let here = runs_of meaning s bodies width times one one' both.first h in
      let there = runs_of other_meaning s bodies other_width times other other' both.second g in
      record {
        first = session_run meaning s bodies width times one one' built within both.first h;
        second = session_run other_meaning s bodies other_width times other other' built within both.second g;
        states = (sessions_agree widths width other_width s bodies (state_in one) (state_in other) (Ran h.traces ∷ []) (Ran g.traces ∷ []) (state_in one') (state_in other')
            built settled within both.first.state both.second.state both.states (ap (λ n. Times n ∷ []) (here.count ∙ sym there.count)) (tt, tt) (tt, tt)
            (state_in one', here.ran, refl) (state_in other', there.ran, refl)).1;
        marks = subst₂ (MarksAgree s) (sym h.stays.marks) (sym g.stays.marks) both.marks;
      }

  -- an input
  puts_alike : (put : inputs.Input) (one one' : Live B) (other other' : Live C) (shown other_shown : List ℕ) → HasWidths widths put → KeepsAgreementIn s put (state_in one) →
      AreInStep meaning other_meaning s bodies one other → HasPut put one one' shown → HasPut put other other' other_shown →
      (shown ≡ other_shown) × AreInStep meaning other_meaning s bodies one' other'
  puts_alike put one one' other other' shown other_shown wide keeps both h g = (
    h.lines ∙ lines_alike put (state_in one) (state_in other) both.states.same ∙ sym g.lines,
    subst₂ (AreInStep meaning other_meaning s bodies) (sym h.taken) (sym g.taken) (record {
      first = session_put meaning s bodies put one wide h.can both.first;
      second = session_put other_meaning s bodies put other wide g.can both.second;
      states = inputs_keep_agreement widths s put (state_in one) (state_in other) both.first.state both.second.state keeps both.states;
      marks = both.marks;
    }),
  )

  -- a state that is kept
  marked_alike : (name : List ℕ) (one one' : Live B) (other other' : Live C) → AreInStep meaning other_meaning s bodies one other →
      HasMarked name one one' → HasMarked name other other' → AreInStep meaning other_meaning s bodies one' other'
  marked_alike name one one' other other' both h g = subst₂ (AreInStep meaning other_meaning s bodies) (sym h.kept) (sym g.kept) (record {
    first = session_marked meaning s bodies name one both.first;
    second = session_marked other_meaning s bodies name other both.second;
    states = both.states;
    marks = with_mark_alike s name (state_in one) (state_in other) one.marks other.marks both.states both.marks;
  })

  -- going back
  back_alike : (name : List ℕ) (one one' : Live B) (other other' : Live C) → AreInStep meaning other_meaning s bodies one other →
      HasGoneBack name one one' → HasGoneBack name other other' → AreInStep meaning other_meaning s bodies one' other'
  back_alike name one one' other other' both h g = subst₂ (AreInStep meaning other_meaning s bodies) (sym h.back) (sym g.back) (record {
    first = session_back meaning s bodies name one h.state h.kept both.first;
    second = session_back other_meaning s bodies name other g.state g.kept both.second;
    states = kept_alike s name one.marks other.marks h.state g.state both.marks h.kept g.kept;
    marks = both.marks;
  })

  -- a state that is let go
  forgotten_alike : (name : List ℕ) (one one' : Live B) (other other' : Live C) → AreInStep meaning other_meaning s bodies one other →
      one' ≡ with_marks (without name one.marks) one → other' ≡ with_marks (without name other.marks) other → AreInStep meaning other_meaning s bodies one' other'
  forgotten_alike name one one' other other' both h g = subst₂ (AreInStep meaning other_meaning s bodies) (sym h) (sym g) (record {
    first = session_forgot meaning s bodies name one both.first;
    second = session_forgot other_meaning s bodies name other both.second;
    states = both.states;
    marks = without_alike s name one.marks other.marks both.marks;
  })

  -- a look
  looks_alike : (look : Asked) (one one' : Live B) (other other' : Live C) (shown other_shown : List ℕ) → is_told_alike look ≡ true →
      AreInStep meaning other_meaning s bodies one other → HasLooked one one' shown (seen_by look (state_in one)) → HasLooked other other' other_shown (seen_by look (state_in other)) →
      (shown ≡ other_shown) × AreInStep meaning other_meaning s bodies one' other'
  looks_alike look one one' other other' shown other_shown told both h g = (
    h.lines ∙ seen_alike look (state_in one) (state_in other) told both.states.same ∙ sym g.lines,
    subst₂ (AreInStep meaning other_meaning s bodies) (sym h.same) (sym g.same) both,
  )

  -- what is done
  done_alike : (request : Asked) (width other_width : ℕ) (one one' : Live B) (other other' : Live C) (shown other_shown : List ℕ) →
      IsBuilt s → Settled s → BodiesKeepWithin widths s bodies → AreInStep meaning other_meaning s bodies one other →
      is_told_alike request ≡ true → AskedHasWidths request → KeepsStep s request (state_in one) →
      IsDone meaning width one request shown one' → IsDone other_meaning other_width other request other_shown other' →
      (shown ≡ other_shown) × AreInStep meaning other_meaning s bodies one' other'
  done_alike asked.Hello width other_width one one' other other' shown other_shown built settled within both told wide keeps h g = absurd (false≢true told)
  done_alike (asked.Run times) width other_width one one' other other' shown other_shown built settled within both told wide keeps h g =
      (h.0 ∙ sym g.0, runs_alike width other_width times one one' other other' built settled within both h.1 g.1)
  done_alike (asked.Put put) width other_width one one' other other' shown other_shown built settled within both told wide keeps h g =
      puts_alike put one one' other other' shown other_shown wide keeps both h g
  done_alike (asked.Mark name) width other_width one one' other other' shown other_shown built settled within both told wide keeps h g =
      (h.0 ∙ sym g.0, marked_alike name one one' other other' both h.1 g.1)
  done_alike (asked.Back name) width other_width one one' other other' shown other_shown built settled within both told wide keeps h g =
      (h.0 ∙ sym g.0, back_alike name one one' other other' both h.1 g.1)
  done_alike (asked.Forget name) width other_width one one' other other' shown other_shown built settled within both told wide keeps h g =
      (h.0 ∙ sym g.0, forgotten_alike name one one' other other' both h.2 g.2)
  done_alike asked.Quit width other_width one one' other other' shown other_shown built settled within both told wide keeps h g =
      (h.0 ∙ sym g.0, subst₂ (AreInStep meaning other_meaning s bodies) (sym h.1) (sym g.1) both)
  done_alike asked.World width other_width one one' other other' shown other_shown built settled within both told wide keeps h g =
      looks_alike asked.World one one' other other' shown other_shown told both h g
  done_alike (asked.Entity e) width other_width one one' other other' shown other_shown built settled within both told wide keeps h g =
      looks_alike (asked.Entity e) one one' other other' shown other_shown told both h g
  done_alike (asked.Query since terms) width other_width one one' other other' shown other_shown built settled within both told wide keeps h g =
      looks_alike (asked.Query since terms) one one' other other' shown other_shown told both h g
  done_alike asked.Resources width other_width one one' other other' shown other_shown built settled within both told wide keeps h g =
      looks_alike asked.Resources one one' other other' shown other_shown told both h g
  done_alike (asked.Events kind from) width other_width one one' other other' shown other_shown built settled within both told wide keeps h g =
      looks_alike (asked.Events kind from) one one' other other' shown other_shown told both h g
  done_alike asked.Values width other_width one one' other other' shown other_shown built settled within both told wide keeps h g =
      looks_alike asked.Values one one' other other' shown other_shown told both h g
  done_alike asked.Save width other_width one one' other other' shown other_shown built settled within both told wide keeps h g = absurd (false≢true told)
  done_alike asked.Digest width other_width one one' other other' shown other_shown built settled within both told wide keeps h g =
      looks_alike asked.Digest one one' other other' shown other_shown told both h g

  -- what is done in the one isn't refused in the other
  spared : (request : Asked) (width : ℕ) (one one' : Live B) (other : Live C) (shown : List ℕ) (why : Refusal) → AreInStep meaning other_meaning s bodies one other →
      IsDone meaning width one request shown one' → IsRefused other request why → ⊥
  spared asked.Hello width one one' other shown why both h g = g
  spared (asked.Run times) width one one' other shown why both h g = g
  spared (asked.Put put) width one one' other shown why both h g =
      let cause = untaken other put why g in
      taken_in put (state_in other) cause.0 (sym (inputs_are_alike s put (state_in one) (state_in other) both.states).0 ∙ h.can) cause.1
  spared (asked.Mark name) width one one' other shown why both h g =
      both_ways (can_keep name other.marks) (mark_refused other name why g).1 (sym (can_keep_alike s name one.marks other.marks both.marks) ∙ h.1.room)
  spared (asked.Back name) width one one' other shown why both h g =
      both_ways (is_kept name other.marks) (back_refused other name why g).1 (sym (is_kept_alike s name one.marks other.marks both.marks) ∙ has_place name one.marks h.1.state h.1.kept)
  spared (asked.Forget name) width one one' other shown why both h g =
      both_ways (is_kept name other.marks) (forget_refused other name why g).1 (sym (is_kept_alike s name one.marks other.marks both.marks) ∙ h.1)
  spared asked.Quit width one one' other shown why both h g = g
  spared asked.World width one one' other shown why both h g = g
  spared (asked.Entity e) width one one' other shown why both h g = g
  spared (asked.Query since terms) width one one' other shown why both h g = g
  spared asked.Resources width one one' other shown why both h g = g
  spared (asked.Events kind from) width one one' other shown why both h g = g
  spared asked.Values width one one' other shown why both h g = g
  spared asked.Save width one one' other shown why both h g = g
  spared asked.Digest width one one' other shown why both h g = g

  -- what is refused in both is so for one reason
  refused_alike : (request : Asked) (one : Live B) (other : Live C) (why other_why : Refusal) → AreInStep meaning other_meaning s bodies one other →
      IsRefused one request why → IsRefused other request other_why → why ≡ other_why
  refused_alike asked.Hello one other why other_why both h g = absurd h
  refused_alike (asked.Run times) one other why other_why both h g = absurd h
  refused_alike (asked.Put put) one other why other_why both h g =
      let here = untaken one put why h in
      let there = untaken other put other_why g in
      let causes : Some here.0 ≡ Some there.0 = sym here.1 ∙ (inputs_are_alike s put (state_in one) (state_in other) both.states).1 ∙ there.1 in
      let cause : here.0 ≡ there.0 = cc in
      here.2 ∙ ap refusal_by cause ∙ sym there.2
  refused_alike (asked.Mark name) one other why other_why both h g = (mark_refused one name why h).0 ∙ sym (mark_refused other name other_why g).0
  refused_alike (asked.Back name) one other why other_why both h g = (back_refused one name why h).0 ∙ sym (back_refused other name other_why g).0
  refused_alike (asked.Forget name) one other why other_why both h g = (forget_refused one name why h).0 ∙ sym (forget_refused other name other_why g).0
  refused_alike asked.Quit one other why other_why both h g = absurd h
  refused_alike asked.World one other why other_why both h g = absurd h
  refused_alike (asked.Entity e) one other why other_why both h g = absurd h
  refused_alike (asked.Query since terms) one other why other_why both h g = absurd h
  refused_alike asked.Resources one other why other_why both h g = absurd h
  refused_alike (asked.Events kind from) one other why other_why both h g = absurd h
  refused_alike asked.Values one other why other_why both h g = absurd h
  refused_alike asked.Save one other why other_why both h g = absurd h
  refused_alike asked.Digest one other why other_why both h g = absurd h

  -- ---- one request

  -- what both do is told the same
  told_alike : (request : Asked) (width other_width clock other_clock : ℕ) (shown other_shown : Shown) (one one' : Live B) (other other' : Live C) →
      IsBuilt s → Settled s → BodiesKeepWithin widths s bodies → AreInStep meaning other_meaning s bodies one other →
      is_told_alike request ≡ true → AskedHasWidths request → KeepsStep s request (state_in one) →
      (clock ≡ clock_in one') × IsDone meaning width one request (shown_text shown) one' →
      (other_clock ≡ clock_in other') × IsDone other_meaning other_width other request (shown_text other_shown) other' →
      (reply_text (Done clock shown) ≡ reply_text (Done other_clock other_shown)) × AreInStep meaning other_meaning s bodies one' other'
  told_alike request width other_width clock other_clock shown other_shown one one' other other' built settled within both told wide keeps h g =
      let done = done_alike request width other_width one one' other other' (shown_text shown) (shown_text other_shown) built settled within both told wide keeps h.1 g.1 in
      let clocks : clock ≡ other_clock = h.0 ∙ clock_alike one' other' done.1 ∙ sym g.0 in
      (λ i. codes "ok " ++ decimal (counted_alike shown other_shown done.0 i) ++ (32 ∷ decimal (clocks i)) ++ (10 ∷ done.0 i), done.1)

module _ {B C : Type 0} (meaning : B → Params → BodyMeaning) (other_meaning : C → Params → BodyMeaning) (s : Schedule) (bodies : List BodyMeaning) where
  -- a request
  pub in_step_by_one : (scope other_scope : Bool) (width other_width : ℕ) (request : Asked) (one one' : Live B) (other other' : Live C) (reply other_reply : Reply) →
      IsBuilt s → Settled s → BodiesKeepWithin widths s bodies → AreInStep meaning other_meaning s bodies one other →
      is_told_alike request ≡ true → AskedHasWidths request → KeepsStep s request (state_in one) →
      is_undisturbed reply ≡ true → is_undisturbed other_reply ≡ true →
      IsAnswer meaning scope width one request reply one' → IsAnswer other_meaning other_scope other_width other request other_reply other' →
      (reply_text reply ≡ reply_text other_reply) × AreInStep meaning other_meaning s bodies one' other'
  in_step_by_one scope other_scope width other_width request one one' other other' (Done clock shown) (Done other_clock other_shown) built settled within both told wide keeps calm other_calm h g =
      told_alike meaning other_meaning s bodies request width other_width clock other_clock shown other_shown one one' other other' built settled within both told wide keeps h g
  in_step_by_one scope other_scope width other_width request one one' other other' (Done clock shown) (Refused why) built settled within both told wide keeps calm other_calm h g =
      absurd (spared meaning other_meaning s bodies request width one one' other (shown_text shown) why both h.1 (refused_there other request why both.second.there g.1))
  in_step_by_one scope other_scope width other_width request one one' other other' (Refused why) (Done other_clock other_shown) built settled within both told wide keeps calm other_calm h g =
      absurd (spared other_meaning meaning s bodies request other_width other other' one (shown_text other_shown) why (other_way meaning other_meaning s bodies one other both) g.1
      (refused_there one request why both.first.there h.1))
  in_step_by_one scope other_scope width other_width request one one' other other' (Refused why) (Refused other_why) built settled within both told wide keeps calm other_calm h g = (
    ap (λ reason. reply_text (Refused reason))
        (refused_alike meaning other_meaning s bodies request one other why other_why both (refused_there one request why both.first.there h.1) (refused_there other request other_why both.second.there g.1)),
    subst₂ (AreInStep meaning other_meaning s bodies) (sym h.0) (sym g.0) both,
  )
  in_step_by_one scope other_scope width other_width request one one' other other' Failed other_reply built settled within both told wide keeps calm other_calm h g = absurd (false≢true calm)
  in_step_by_one scope other_scope width other_width request one one' other other' (Lost fault) other_reply built settled within both told wide keeps calm other_calm h g = absurd (false≢true calm)
  in_step_by_one scope other_scope width other_width request one one' other other' reply Failed built settled within both told wide keeps calm other_calm h g = absurd (false≢true other_calm)
  in_step_by_one scope other_scope width other_width request one one' other other' reply (Lost fault) built settled within both told wide keeps calm other_calm h g = absurd (false≢true other_calm)

  -- requests
  in_step_by_all : (scope other_scope : Bool) (width other_width : ℕ) (requests : List Asked) (one one' : Live B) (other other' : Live C) (replies other_replies : List Reply) →
      IsBuilt s → Settled s → BodiesKeepWithin widths s bodies → AreInStep meaning other_meaning s bodies one other →
      AllByRecursion (λ request. is_told_alike request ≡ true) requests → AllByRecursion AskedHasWidths requests →
      AllByRecursion (λ reply. is_undisturbed reply ≡ true) replies → AllByRecursion (λ reply. is_undisturbed reply ≡ true) other_replies →
      (are : AreAnswers meaning scope width one requests replies one') → AllKeepLockstep meaning scope width one requests replies one' are →
      AreAnswers other_meaning other_scope other_width other requests other_replies other' →
      (map reply_text replies ≡ map reply_text other_replies) × AreInStep meaning other_meaning s bodies one' other'
  in_step_by_all scope other_scope width other_width [] one one' other other' [] [] built settled within both told wide calm other_calm are keeps others =
      (refl, subst₂ (AreInStep meaning other_meaning s bodies) are others both)
  in_step_by_all scope other_scope width other_width [] one one' other other' [] (other_reply ∷ other_replies) built settled within both told wide calm other_calm are keeps others = absurd others
  in_step_by_all scope other_scope width other_width [] one one' other other' (reply ∷ replies) other_replies built settled within both told wide calm other_calm are keeps others = absurd are
  in_step_by_all scope other_scope width other_width (request ∷ requests) one one' other other' [] other_replies built settled within both told wide calm other_calm are keeps others = absurd are
  in_step_by_all scope other_scope width other_width (request ∷ requests) one one' other other' (reply ∷ replies) [] built settled within both told wide calm other_calm are keeps others = absurd others
  in_step_by_all scope other_scope width other_width (request ∷ requests) one one' other other' (reply ∷ replies) (other_reply ∷ other_replies) built settled within both told wide calm other_calm are keeps others =
      let first = in_step_by_one scope other_scope width other_width request one are.0 other others.0 reply other_reply
      built settled within both told.0 wide.0 (keeps_step s one request both.first.schedule keeps.0) calm.0 other_calm.0 are.1 others.1 in
      let rest = in_step_by_all scope other_scope width other_width requests are.0 one' others.0 other' replies other_replies
      built settled within first.1 told.1 wide.1 calm.1 other_calm.1 are.2 keeps.1 others.2 in
      (ap₂ ◌∷◌ first.0 rest.0, rest.1)

-- ---- sessions that are ready

-- a session of a built schedule and of bodies that keep within
ready_in : {B : Type 0} (meaning : B → Params → BodyMeaning) (s : Schedule) (bodies : List BodyMeaning) (live : Live B) → IsBuilt s → BodiesKeepWithin widths s bodies →
    IsSessionOf meaning s bodies live → IsReady meaning live
ready_in meaning s bodies live built within is = record {
  built = subst IsBuilt (sym is.schedule) built;
  within = subst₂ (BodiesKeepWithin widths) (sym is.schedule) (sym is.meant) within;
  state = subst (λ (x : Schedule). IsStateOf widths x (state_in live)) (sym is.schedule) is.state;
  kept = subst (λ (x : Schedule). AllByRecursion (λ (mark : List ℕ × State). IsStateOf widths x mark.1) live.marks) (sym is.schedule) is.kept;
}

module _ {B C : Type 0} (meaning : B → Params → BodyMeaning) (other_meaning : C → Params → BodyMeaning) where
  -- two that are in lockstep are sessions of the schedule of the one
  pub into_step : (one : Live B) (other : Live C) → AreInLockstep meaning other_meaning one other → AreInStep meaning other_meaning one.engine.schedule (meant_in meaning one) one other
  into_step one other both = record {
    first = record { there = both.alike.there; schedule = refl; meant = refl; state = both.ready.state; kept = both.ready.kept };
    second = record {
      there = both.alike.other_there;
      schedule = both.alike.schedule;
      meant = both.alike.meant;
      state = subst (λ (s : Schedule). IsStateOf widths s (state_in other)) both.alike.schedule both.other_ready.state;
      kept = subst (λ (s : Schedule). AllByRecursion (λ (mark : List ℕ × State). IsStateOf widths s mark.1) other.marks) both.alike.schedule both.other_ready.kept;
    };
    states = both.alike.states;
    marks = both.alike.marks;
  }

  -- and so they are if they are such sessions
  pub from_step : (s : Schedule) (bodies : List BodyMeaning) (one : Live B) (other : Live C) → IsBuilt s → BodiesKeepWithin widths s bodies →
      AreInStep meaning other_meaning s bodies one other → AreInLockstep meaning other_meaning one other
  from_step s bodies one other built within both = record {
    ready = ready_in meaning s bodies one built within both.first;
    other_ready = ready_in other_meaning s bodies other built within both.second;
    alike = record {
      there = both.first.there;
      other_there = both.second.there;
      schedule = both.second.schedule ∙ sym both.first.schedule;
      meant = both.second.meant ∙ sym both.first.meant;
      states = subst (λ (x : Schedule). Agrees x (state_in one) (state_in other)) (sym both.first.schedule) both.states;
      marks = subst (λ (x : Schedule). MarksAgree x one.marks other.marks) (sym both.first.schedule) both.marks;
    };
  }

  -- a request
  pub one_reply_agrees : OneReplyAgrees meaning other_meaning
  one_reply_agrees scope other_scope width other_width request one one' other other' reply other_reply settled both told wide keeps calm other_calm h g =
      let s = one.engine.schedule in
      let bodies = meant_in meaning one in
      let step = in_step_by_one meaning other_meaning s bodies scope other_scope width other_width request one one' other other' reply other_reply
      both.ready.built settled both.ready.within (into_step one other both) told wide (keeps_step s one request refl keeps) calm other_calm h g in
      (step.0, from_step s bodies one' other' both.ready.built both.ready.within step.1)

  -- requests
  pub replies_agree : RepliesAgree meaning other_meaning
  replies_agree scope other_scope width other_width requests one one' other other' replies other_replies settled both told wide calm other_calm are keeps others =
      let s = one.engine.schedule in
      let bodies = meant_in meaning one in
      let step = in_step_by_all meaning other_meaning s bodies scope other_scope width other_width requests one one' other other' replies other_replies
      both.ready.built settled both.ready.within (into_step one other both) told wide calm other_calm are keeps others in
      (step.0, from_step s bodies one' other' both.ready.built both.ready.within step.1)
