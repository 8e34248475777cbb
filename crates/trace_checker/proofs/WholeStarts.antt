-- A start that is taken whole: what it makes of the run state, what stops it, and the bodies after it. And the other steps of a replay.
use Rattle.std.proofs.Common.{ℕ, zero, suc, ◌<◌, Bool, true, false, ◌≡◌, List, [], ◌∷◌, length, map, set, slice_get, get_or, cond, Option, Some, None, option_and_then, Result, Ok, Err, refl, sym, ◌∙◌, ap, ap₂, subst, arith}
use Rattle.std.proofs.lemmas.Bool.{eq-eqb}
use Rattle.std.proofs.lemmas.List.{length-map, length-set}
use Rattle.model.specs.declared.steps.Step.TheVariants.{Cond, Start}
use Rattle.model.specs.Lists.{provided, first_some}
use Rattle.model.specs.access.Access.{Params}
use Rattle.model.specs.state.Shape.{AreIdsFor}
use Rattle.model.specs.state.State.{State}
use Rattle.model.specs.shown.Input.{shown}
use Rattle.model.specs.shown.Outcome.{AreSpawns, BodyMeaning, Command, spawned_by, words_written}
use Rattle.model.specs.steps.Schedule.{ScheduledSystem, Schedule, params_of, access_of}
use Rattle.model.specs.runs.RunState.{RunningSystem, after_condition, after_start, after_sync, answer_of, body_of, can_start, finish, has_tick, memory_of_system, next_tick, started_system}
use Rattle.model.specs.runs.Meaning.{Interleaved, running_system, without_system, with_running_systems}
use Rattle.model.specs.runs.Causes.{Cause, unless, cause_of_answer, cause_of_finish, cause_of_running, serial_cause_of}
use Rattle.model.specs.runs.Causes.Cause.{NoTick, Refused, NoEventNumber}
use Rattle.model.proofs.faults.Causes.{with_running_systems-parts}
use Rattle.model.proofs.lists.Lists.{provided-Some}
use Rattle.body.specs.Answers.{Answers}
use Rattle.body.specs.Seen.{Seen}
use Rattle.body.specs.Steps.{HasShape, asked_at, laid, noted, ticked}
use Rattle.body.specs.declared.system_body.BodyFault.{BodyFault}
use Rattle.body.specs.declared.system_body.BodyFault.TheVariants.{Memory, Refused as Refusing}
use Rattle.engine.specs.Jobs.{IsPlaced}
use Rattle.engine.specs.Deferred.{DeferredValue, AreInHand, IsDeferredFor, grants_at, run_with, with_commands}
use Rattle.engine.specs.Meanings.{meanings_of, meanings, body_at, body_fits, fits_at, AllKeepWithin, HasMemories, Suits}
use Rattle.engine.specs.Stops.{IsNotLaid, LacksTick}
use Rattle.engine.proofs.RunAgreement.{state_of_schedule}
use Rattle.engine.proofs.IdsInHand.{AreAlike, alike_after, in_hand_alike, in_hand_put}
use Rattle.engine.proofs.BodiesWithin.{bodies_keep}
use Rattle.engine.proofs.JobsOut.{placed_first}
use Rattle.engine.proofs.StateMemories.{memories_asked, memories_at, memories_laid, memories_noted, memories_synced}
use Rattle.engine.proofs.InterleavedSteps.{over, IsAnswered, numbers_of, ask_woven, finish_woven, start_woven, unsent_woven}
use Rattle.model.specs.runs.Replays.{IsStepTaken}
use Rattle.trace_checker.specs.ReplayFaults.{HasRun}

-- ---- bodies in their places

place-of : {B : Type 0} (bodies : List B) (n : ℕ) (body : B) → slice_get bodies n ≡ Some body → body_at (map Some bodies) n ≡ Some body
place-of [] n body e = absurd (let clash = e in cc)
place-of (b ∷ bodies) zero body e = e
place-of (b ∷ bodies) (suc n) body e = place-of bodies n body e

-- a body in the place of one that means the same changes no meaning
same-meanings : {B : Type 0} (meaning : B → Params → BodyMeaning) (systems : List ScheduledSystem) (bodies : List B) (n : ℕ) (body ended : B) → slice_get bodies n ≡ Some body → meaning ended ≡ meaning body
    → meanings_of meaning systems (map Some (set bodies n ended)) ≡ meanings_of meaning systems (map Some bodies)
same-meanings meaning [] bodies n body ended there same = refl
same-meanings meaning (x ∷ systems) [] n body ended there same = refl
same-meanings meaning (x ∷ systems) (b ∷ bodies) zero body ended there same =
    let is : b ≡ body = cc in
    ap (λ (f : Params → BodyMeaning). f x.params ∷ meanings_of meaning systems (map Some bodies)) (same ∙ ap meaning (sym is))
same-meanings meaning (x ∷ systems) (b ∷ bodies) (suc n) body ended there same = ap (λ ms. meaning b x.params ∷ ms) (same-meanings meaning systems bodies n body ended there same)

-- nor whether one fits
same-fits : {B : Type 0} (fits : B → Params → Bool) (bodies : List B) (n : ℕ) (body ended : B) (m : ℕ) (params : Params) → slice_get bodies n ≡ Some body → fits ended ≡ fits body
    → body_fits fits (body_at (map Some (set bodies n ended)) m) params ≡ body_fits fits (body_at (map Some bodies) m) params
same-fits fits [] n body ended m params there same = refl
same-fits fits (b ∷ bodies) zero body ended zero params there same =
    let is : b ≡ body = cc in
    ap (λ (f : Params → Bool). f params) (same ∙ ap fits (sym is))
same-fits fits (b ∷ bodies) zero body ended (suc m) params there same = refl
same-fits fits (b ∷ bodies) (suc n) body ended zero params there same = refl
same-fits fits (b ∷ bodies) (suc n) body ended (suc m) params there same = same-fits fits bodies n body ended m params there same

module _ {B : Type 0} (meaning : B → Params → BodyMeaning) (fits : B → Params → Bool) (s : Schedule) (bodies : List B) where
  -- a body for each system
  pub has-body : (state : State) (n : ℕ) → Suits fits s (map Some bodies) state → n < length s.systems → n < length bodies
  has-body state n suits known = let e = suits.body_count in let f = length-map bodies (λ (b : B). Some b) in omega arith

  module _ (n : ℕ) (body : B) (there : slice_get bodies n ≡ Some body) (state : State) (suits : Suits fits s (map Some bodies) state) (known : n < length s.systems) where
    -- it means what the schedule's meanings say, and fits
    body-is : (meaning body (params_of s n) ≡ body_of (meanings meaning s (map Some bodies)) n) × (fits body (params_of s n) ≡ true)
    body-is =
        let placed = placed_first meaning fits false s (map Some bodies) (record { state = state; layout = [] }) suits tt in
        let home = subst (IsPlaced meaning fits (params_of s n) (body_of (meanings meaning s (map Some bodies)) n) false) (place-of bodies n body there) (placed.home n known) in
        (home.1, home.2)

    pub body_means : meaning body (params_of s n) ≡ body_of (meanings meaning s (map Some bodies)) n
    body_means = body-is.0

    pub body_fit : fits body (params_of s n) ≡ true
    body_fit = body-is.1

  -- the bodies after one ran
  module _ (n : ℕ) (before after : Seen) (later : List B) (answer : Result (Unit {0}) BodyFault) (ran : HasRun meaning fits bodies n before later after answer) where
    pub meanings_after : meanings meaning s (map Some later) ≡ meanings meaning s (map Some bodies)
    meanings_after = ap (λ (bs : List B). meanings meaning s (map Some bs)) ran.later_is ∙ same-meanings meaning s.systems bodies n ran.body ran.ended ran.there ran.same_meaning

    -- they suit any state that has the memories
    pub suits_after : (old new : State) → Suits fits s (map Some bodies) old → HasMemories s new → Suits fits s (map Some later) new
    suits_after old new suits memories = record {
      body_count = length-map later (λ (b : B). Some b) ∙ ap length ran.later_is ∙ length-set bodies n ran.ended ∙ sym (length-map bodies (λ (b : B). Some b)) ∙ suits.body_count;
      memories = memories;
      fit = λ m known. ap (λ (bs : List B). fits_at fits s (map Some bs) m) ran.later_is ∙ same-fits fits bodies n ran.body ran.ended m (params_of s m) ran.there ran.same_fit ∙ suits.fit m known;
    }

  -- what a body that ran answered, of the system
  module _ (n : ℕ) (before after : Seen) (later : List B) (answer : Result (Unit {0}) BodyFault) (ran : HasRun meaning fits bodies n before later after answer) (state : State)
      (suits : Suits fits s (map Some bodies) state) (known : n < length s.systems) (params : before.params ≡ params_of s n) where
    meant : body_of (meanings meaning s (map Some bodies)) n after.shown ≡ meaning ran.body before.params before.shown
    meant =
        ap (body_of (meanings meaning s (map Some bodies)) n) ran.shown
        ∙ ap (λ (m : BodyMeaning). m before.shown) (sym (body_means n ran.body ran.there state suits known))
        ∙ ap (λ p. meaning ran.body p before.shown) (sym params)

    pub is_answered : answer ≡ Ok tt → IsAnswered s (meanings meaning s (map Some bodies)) n after
    is_answered ok = record {
      params = ran.params ∙ params;
      answered = meant ∙ subst (Answers (meaning ran.body before.params before.shown) after) ok ran.answered;
    }

    pub is_refused : (k : ℕ) → answer ≡ Err (Refusing k) → body_of (meanings meaning s (map Some bodies)) n after.shown ≡ Err k
    is_refused k refused = meant ∙ subst (Answers (meaning ran.body before.params before.shown) after) refused ran.answered

-- the memories after a start that was noted, and after one that was taken whole
memories_started : (s : Schedule) (state : State) (n clock : ℕ) → HasMemories s state → HasMemories s (noted n (params_of s n).reads clock (ticked state))
memories_started s state n clock memories = memories_noted s (ticked state) (memories_at s state memories (next_tick state)) n clock

pub memories_after : (s : Schedule) (state : State) (n tick clock : ℕ) (seen : Seen) → HasMemories s state → HasMemories s (laid n tick seen (noted n (params_of s n).reads clock (ticked state)))
memories_after s state n tick clock seen memories =
    memories_laid s (noted n (params_of s n).reads clock (ticked state)) (memories_started s state n clock memories) n tick seen

-- there is a memory of the system once the start is noted
pub noted_known : (s : Schedule) (state later : State) (n clock : ℕ) → HasMemories s state → n < length s.systems → later ≡ noted n (params_of s n).reads clock (ticked state) → n < length later.systems
noted_known s state later n clock memories known is =
    let count : length later.systems ≡ length s.systems = ap (λ (x : State). length x.systems) is ∙ (memories_started s state n clock memories).systems in
    omega (arith, known, count)

-- ---- what it makes of the run state

module _ (s : Schedule) (bodies : List BodyMeaning) (n : ℕ) (w : State) (deferred : DeferredValue) where
  -- the state in which the start is noted, and the system as it runs
  abbrev mid : State
  mid = noted n (params_of s n).reads (next_tick w) (ticked w)

  abbrev runner : RunningSystem
  runner = record { system = n; tick = next_tick w; shown = shown (params_of s n) (memory_of_system w n) w (grants_at deferred n) }

  -- what its finish meets comes after what stops it before its body
  pub start_cause : (cause : Cause) → LacksTick w cause → serial_cause_of s bodies (Start n) (run_with w deferred) ≡ Some cause
  start_cause cause e = ap (λ o. first_some o (cause_of_finish s bodies (started_system s n (run_with w deferred)) (after_start s n (run_with w deferred)))) e

  module _ (tick : has_tick w ≡ true) where
    woven-parts : (can_start (run_with w deferred) ≡ true) × ((after_start s n (run_with w deferred) ≡ run_with mid deferred) × (started_system s n (run_with w deferred) ≡ runner))
    woven-parts =
        let made : Interleaved = record { run = after_start s n (run_with w deferred); running_systems = started_system s n (run_with w deferred) ∷ [] } in
        let p = provided-Some (can_start (run_with w deferred)) made (over deferred mid (runner ∷ [])) (start_woven s bodies n w deferred [] tick) in
        (p.0, (ap (λ (x : Interleaved). x.run) p.1, ap (λ (x : Interleaved). get_or x.running_systems 0 runner) p.1))

    -- the cause of its finish is its own
    whole-cause : (cause : Cause) → cause_of_finish s bodies runner (run_with mid deferred) ≡ Some cause → serial_cause_of s bodies (Start n) (run_with w deferred) ≡ Some cause
    whole-cause cause e =
        ap (λ o. first_some o (cause_of_finish s bodies (started_system s n (run_with w deferred)) (after_start s n (run_with w deferred)))) (ap (λ b. unless b NoTick) tick)
        ∙ ap₂ (cause_of_finish s bodies) woven-parts.1.1 woven-parts.1.0
        ∙ e

    -- a body that refuses
    refusal-stops : (seen : Seen) (k : ℕ) → seen.shown ≡ runner.shown → body_of bodies n seen.shown ≡ Err k → serial_cause_of s bodies (Start n) (run_with w deferred) ≡ Some (Refused k)
    refusal-stops seen k same e =
        whole-cause (Refused k) (ap (λ answer. cause_of_answer s runner answer (run_with mid deferred)) (ap (body_of bodies n) (sym same) ∙ e))

    module _ (seen : Seen) (same : seen.shown ≡ runner.shown) (is : IsAnswered s bodies n seen) where
      -- what is deferred with its commands
      abbrev kept : DeferredValue
      kept = with_commands n seen.outcome.commands deferred

      alone-found : running_system n (runner ∷ []) ≡ Some (record { system = n; tick = next_tick w; shown = seen.shown })
      alone-found = ap (λ b. cond b (Some runner) None) (eq-eqb n n refl) ∙ ap (λ x. Some (record { system = n; tick = next_tick w; shown = x })) (sym same)

      found : running_system n (runner ∷ []) ≡ Some runner
      found = ap (λ b. cond b (Some runner) None) (eq-eqb n n refl)

      -- an event without a number
      unsent-stops : numbers_of seen mid ≡ false → serial_cause_of s bodies (Start n) (run_with w deferred) ≡ Some NoEventNumber
      unsent-stops none =
          whole-cause NoEventNumber (sym (ap (λ o. cause_of_running s bodies o (run_with mid deferred)) found) ∙ unsent_woven s bodies n (next_tick w) mid deferred (runner ∷ []) seen is none alone-found)

      -- the whole start
      pub start_taken : (later : State) → n < length deferred.commands → numbers_of seen mid ≡ true → later ≡ laid n (next_tick w) seen mid →
          IsStepTaken s bodies (run_with w deferred) (Start n) (run_with later kept)
      start_taken later known numbers e = record {
        meaning =
            ap (λ b. option_and_then (finish s bodies (started_system s n (run_with w deferred))) (provided b (after_start s n (run_with w deferred)))) woven-parts.0
            ∙ ap₂ (finish s bodies) woven-parts.1.1 woven-parts.1.0
            ∙ finished ∙ ap (λ x. Some (run_with x kept)) (sym e);
        answer = tt;
      }
        where
          finished : finish s bodies runner (run_with mid deferred) ≡ Some (run_with (laid n (next_tick w) seen mid) kept)
          finished =
              let others = without_system n (runner ∷ []) in
              let done : with_running_systems others (finish s bodies runner (run_with mid deferred)) ≡ Some (over kept (laid n (next_tick w) seen mid) others) =
              sym (ap (option_and_then (λ p. with_running_systems others (finish s bodies p (run_with mid deferred)))) found) ∙ finish_woven s bodies n (next_tick w) mid deferred (runner ∷ []) seen known is numbers alone-found in
              let p = with_running_systems-parts others (finish s bodies runner (run_with mid deferred)) (over kept (laid n (next_tick w) seen mid) others) done in
              p.1 ∙ ap (λ (x : Interleaved). Some x.run) (sym p.2)

      -- the commands that it keeps spawn ids of its own, and the ids stay in hand
      spawns-own : n < length s.systems → AreIdsFor s n (grants_at deferred n) → AllKeepWithin s bodies → HasMemories s w → HasShape w → AreSpawns (grants_at deferred n) (spawned_by seen.outcome.commands)
      unfolding shown
      spawns-own known given keep has shape =
          (bodies_keep s bodies keep n w (grants_at deferred n) seen.outcome known (state_of_schedule s w has shape) given (ap (body_of bodies n) (sym same) ∙ is.answered)).spawns

      pub in_hand_kept : (later : State) (tick : ℕ) → n < length s.systems → n < length deferred.commands → AreIdsFor s n (grants_at deferred n) → AllKeepWithin s bodies → HasMemories s w → HasShape w →
          AreInHand w.world.slots deferred → later ≡ laid n tick seen mid → AreInHand later.world.slots kept
      in_hand_kept later tick known room given keep has shape hand e =
          let words = words_written seen.params.queries seen.shown.rows seen.outcome.cells in
          let alike = subst (λ (x : State). AreAlike mid.world.slots x.world.slots) (sym e) (alike_after tick words mid.world.slots) in
          in_hand_put n seen.outcome.commands later.world.slots deferred room (spawns-own known given keep has shape) (in_hand_alike mid.world.slots later.world.slots deferred alike hand)

    -- what isn't laid over the state
    pub close_stops : (seen : Seen) (answer : Result (Unit {0}) BodyFault) → seen.shown ≡ runner.shown → (answer ≡ Ok tt → IsAnswered s bodies n seen) → ((k : ℕ) → answer ≡ Err (Refusing k) → body_of bodies n seen.shown ≡ Err k) →
        (met : Cause) → IsNotLaid answer seen mid met → serial_cause_of s bodies (Start n) (run_with w deferred) ≡ Some met
    close_stops seen (Ok done) same answered refused met e = go (numbers_of seen mid) refl e
      where
        go : (b : Bool) → numbers_of seen mid ≡ b → unless b NoEventNumber ≡ Some met → serial_cause_of s bodies (Start n) (run_with w deferred) ≡ Some met
        go true is h = absurd (let clash = h in cc)
        go false is h = unsent-stops seen same (answered refl) is ∙ h
    close_stops seen (Err Memory) same answered refused met e = absurd e
    close_stops seen (Err (Refusing k)) same answered refused met e = refusal-stops seen k same (refused k refl) ∙ ap (λ x. Some x) (sym e)

-- what is deferred after a start is for the schedule still
pub deferred_for_start : (s : Schedule) (n : ℕ) (commands : List Command) (deferred : DeferredValue) → IsDeferredFor s deferred → IsDeferredFor s (with_commands n commands deferred)
deferred_for_start s n commands deferred suits = record {
  command_count = length-set deferred.commands n commands ∙ suits.command_count;
  grant_count = suits.grant_count;
  level_count = suits.level_count;
  levels_are = suits.levels_are;
  spawners_are = suits.spawners_are;
}

-- ---- the other steps

-- a condition that is asked, whose recorded answer is its meaning
pub ask_taken : (s : Schedule) (bodies : List BodyMeaning) (c : ℕ) (answer : Bool) (w later : State) (deferred : DeferredValue) → has_tick w ≡ true → later ≡ asked_at c (access_of s c).reads (next_tick w) (ticked w) →
    answer ≡ answer_of s c (run_with w deferred) → IsStepTaken s bodies (run_with w deferred) (Cond c answer) (run_with later deferred)
ask_taken s bodies c answer w later deferred tick e told =
    let asked : Interleaved = record { run = after_condition s c (run_with w deferred); running_systems = [] } in
    let p = provided-Some (has_tick w) asked (over deferred (asked_at c (access_of s c).reads (next_tick w) (ticked w)) []) (ask_woven s bodies c answer w deferred [] tick) in
    record {
      meaning = ap (λ b. provided b (after_condition s c (run_with w deferred))) tick ∙ ap (λ (x : Interleaved). Some x.run) p.1 ∙ ap (λ x. Some (run_with x deferred)) (sym e);
      answer = λ can. told;
    }

-- the memories after a condition was asked, and after a sync point
pub suits_asked : {B : Type 0} (fits : B → Params → Bool) (s : Schedule) (slots : List (Option B)) (c : ℕ) (w later : State) → Suits fits s slots w → later ≡ asked_at c (access_of s c).reads (next_tick w) (ticked w) → Suits fits s slots later
suits_asked fits s slots c w later suits e = record {
  body_count = suits.body_count;
  memories = subst (HasMemories s) (sym e) (memories_asked s (ticked w) (memories_at s w suits.memories (next_tick w)) c (next_tick w));
  fit = suits.fit;
}

pub suits_synced : {B : Type 0} (fits : B → Params → Bool) (s : Schedule) (slots : List (Option B)) (k : ℕ) (w later : State) (deferred deferred_later : DeferredValue) → Suits fits s slots w →
    run_with later deferred_later ≡ after_sync s k (run_with w deferred) → Suits fits s slots later
suits_synced fits s slots k w later deferred deferred_later suits e = record {
  body_count = suits.body_count;
  memories = memories_synced s w suits.memories k deferred deferred_later later e;
  fit = suits.fit;
}
