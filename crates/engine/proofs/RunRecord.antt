-- A run that records one more list of kind sets is what it was up to there.
use Rattle.std.proofs.Common.{ℕ, suc, true, ◌<◌, ◌≡◌, inl, inr, List, [], ◌∷◌, ◌++◌, length, Option, Some, None, length-append, refl, sym, ◌∙◌, subst, subst₂, arith}
use Rattle.model.specs.declared.steps.Step.{Step}
use Rattle.model.specs.declared.steps.Step.TheVariants.{Cond, Start, Skip, Finish, Sync}
use Rattle.model.specs.declared.steps.Ready.{Ready}
use Rattle.model.specs.declared.steps.Ready.TheVariants as ready
use Rattle.model.specs.state.State.{State}
use Rattle.model.specs.state.KindSets.{kind_sets_of}
use Rattle.model.specs.shown.Outcome.{BodyMeaning}
use Rattle.model.specs.steps.Schedule.{Schedule, recording, params_of, access_of}
use Rattle.model.specs.steps.Lawful.{MaySync, syncs_in, sets_at}
use Rattle.model.specs.steps.Ready.{Offers, IsReadySync, IsReadyAmong}
use Rattle.model.specs.steps.Widths.{IsNextWide, IsWide}
use Rattle.model.specs.runs.RunState.{can_sync, after_sync}
use Rattle.model.specs.runs.Meaning.{AreSetsOf, HasTrueSets, interleaved}
use Rattle.model.proofs.order.Extending.{free-recording, meets-recording, sets-extended, syncs-before, may_extended}
use Rattle.model.proofs.serial.Recording.{answers-recording, can_sync-recording, interleaved-recording, sync-recording}
use Rattle.executor_core.specs.Stands.{AreListed}
use Rattle.executor_core.specs.Traces.{with_list}
use Rattle.executor_core.proofs.AcceptedSteps.{recorded_last}
use Rattle.worker_pool.specs.JobOut.{JobOut}
use Rattle.engine.specs.Deferred.{DeferredValue, run_with}
use Rattle.engine.specs.Jobs.{woven}
use Rattle.engine.specs.Stage.{Stage, IsTake}
use Rattle.engine.proofs.RunStages.{stage_sync}

-- ---- where what was recorded last is the same

-- a sync point may come just so
sync-same : (s : Schedule) (sets : Option (List (List ℕ))) (h : List Step) (k : ℕ) → MaySync s h k → MaySync (recording s sets) h k
sync-same s sets h k may = record { known = may.known; fresh = may.fresh; lower = may.lower; level = may.level }

-- a system offers just the same
offer-same : (s : Schedule) (sets : Option (List (List ℕ))) (h : List Step) (n : ℕ) (r : Ready) → sets_at s h ≡ sets_at (recording s sets) h → Offers s h n r → Offers (recording s sets) h n r
offer-same s sets h n (ready.Ask c) e offer = (
  free-recording s sets h n offer.0,
  (
    (offer.1.0.0, offer.1.0.1, λ meets. offer.1.0.2 (meets-recording s sets h (access_of s c) e meets)),
    λ j below askable. offer.1.1 j below (askable.0, askable.1, λ meets. askable.2 (meets-recording (recording s sets) s.sets h (access_of s j) (sym e) meets)),
  ),
)
offer-same s sets h n (ready.Skip m) e offer = (
  free-recording s sets h n offer.0,
  (offer.1.0, record { free = free-recording s sets h n offer.1.1.free; asked = offer.1.1.asked; refused = offer.1.1.refused }),
)
offer-same s sets h n (ready.Start m) e offer = (
  free-recording s sets h n offer.0,
  (
    offer.1.0,
    record {
      free = free-recording s sets h n offer.1.1.free;
      answers = offer.1.1.answers;
      apart = λ meets. offer.1.1.apart (meets-recording s sets h (params_of s n) e meets);
    },
  ),
)
offer-same s sets h n (ready.Sync k) e offer = absurd offer.1

-- so is the sync point that may come
ready_sync-same : (s : Schedule) (sets : Option (List (List ℕ))) (h : List Step) (o : Option Ready) → IsReadySync s h o → IsReadySync (recording s sets) h o
ready_sync-same s sets h None is = λ k may. is k (sync-same (recording s sets) s.sets h k may)
ready_sync-same s sets h (Some (ready.Sync k)) is = sync-same s sets h k is
ready_sync-same s sets h (Some (ready.Ask c)) is = absurd is
ready_sync-same s sets h (Some (ready.Skip n)) is = absurd is
ready_sync-same s sets h (Some (ready.Start n)) is = absurd is

-- and what is ready
ready-same : (s : Schedule) (sets : Option (List (List ℕ))) (h : List Step) (ns : List ℕ) (o : Option Ready) → sets_at s h ≡ sets_at (recording s sets) h → IsReadyAmong s h ns o →
    IsReadyAmong (recording s sets) h ns o
ready-same s sets h [] o e is = ready_sync-same s sets h o is
ready-same s sets h (n ∷ ns) o e (inl found) = inl (found.0, found.1, offer-same s sets h n found.0 e found.2)
ready-same s sets h (n ∷ ns) o e (inr rest) =
    inr ((λ r offer. rest.0 r (offer-same (recording s sets) s.sets h n r (sym e) offer)), ready-same s sets h ns o e rest.1)

-- so the next step
next-same : (width : ℕ) (s : Schedule) (sets : Option (List (List ℕ))) (h : List Step) (step : Step) → sets_at s h ≡ sets_at (recording s sets) h →
    IsNextWide width s h step → IsNextWide width (recording s sets) h step
next-same width s sets h (Finish n) e (inl full) = inl full
next-same width s sets h (Finish n) e (inr is) = inr (ready-same s sets h s.order None e is)
next-same width s sets h (Cond c answer) e next = (next.0, (next.1.0, next.1.1, ready-same s sets h s.order (Some next.1.0) e next.1.2, next.1.3))
next-same width s sets h (Start n) e next = (next.0, (next.1.0, next.1.1, ready-same s sets h s.order (Some next.1.0) e next.1.2, next.1.3))
next-same width s sets h (Skip n) e next = (next.0, (next.1.0, next.1.1, ready-same s sets h s.order (Some next.1.0) e next.1.2, next.1.3))
next-same width s sets h (Sync k) e next = (next.0, (next.1.0, next.1.1, ready-same s sets h s.order (Some next.1.0) e next.1.2, next.1.3))

-- ---- with one more list

module _ (s : Schedule) (lists : List (List ℕ)) (more : List ℕ) where
  abbrev before : Schedule
  before = recording s (Some lists)

  abbrev after : Schedule
  after = recording s (Some (lists ++ more ∷ []))

  wide_extended : (width : ℕ) (h : List Step) → syncs_in h < length lists → IsWide width before h → IsWide width after h
  wide_extended width [] below wide = tt
  wide_extended width (step ∷ h) below wide =
      let shorter = syncs-before step h (length lists) below in (
        may_extended s lists more h step shorter wide.0,
        next-same width before (Some (lists ++ more ∷ [])) h step (sets-extended s lists more h shorter) wide.1,
        wide_extended width h shorter wide.2,
      )

  list_extended : (bodies : List BodyMeaning) (start : State) (h : List Step) → syncs_in h < length lists →
      AreSetsOf (sets_at before h) (interleaved before bodies start h) → AreSetsOf (sets_at after h) (interleaved after bodies start h)
  list_extended bodies start h below is = subst₂ AreSetsOf (sets-extended s lists more h below) (sym (interleaved-recording before (Some (lists ++ more ∷ [])) bodies start h)) is

  sets_extended : (bodies : List BodyMeaning) (start : State) (h : List Step) → syncs_in h < length lists → HasTrueSets before bodies start h → HasTrueSets after bodies start h
  sets_extended bodies start [] below told = list_extended bodies start [] below told
  sets_extended bodies start (Cond c answer ∷ h) below told = sets_extended bodies start h below told
  sets_extended bodies start (Start n ∷ h) below told = sets_extended bodies start h below told
  sets_extended bodies start (Skip n ∷ h) below told = sets_extended bodies start h below told
  sets_extended bodies start (Finish n ∷ h) below told = sets_extended bodies start h below told
  sets_extended bodies start (Sync k ∷ h) below told =
      (list_extended bodies start (Sync k ∷ h) below told.0, sets_extended bodies start h (syncs-before (Sync k) h (length lists) below) told.1)

  stage_extended : {B : Type 0} (width : ℕ) (bodies : List BodyMeaning) (start : State) (h : List Step) (state : State) (deferred : DeferredValue) (out : List (JobOut B)) →
      syncs_in h < length lists → Stage width before bodies start h state deferred out → Stage width after bodies start h state deferred out
  stage_extended width bodies start h state deferred out below stage = record {
    wide = wide_extended width h below stage.wide;
    running = stage.running;
    room = stage.room;
    answers = answers-recording before (Some (lists ++ more ∷ [])) bodies start h stage.answers;
    sets = sets_extended bodies start h below stage.sets;
    meaning = interleaved-recording before (Some (lists ++ more ∷ [])) bodies start h ∙ stage.meaning;
  }

  take_extended : (h : List Step) (running width k : ℕ) → syncs_in h < length lists → IsTake before h running width (ready.Sync k) → IsTake after h running width (ready.Sync k)
  take_extended h running width k below next = record {
    room = next.room;
    is = ready-same before (Some (lists ++ more ∷ [])) h s.order (Some (ready.Sync k)) (sets-extended s lists more h below) next.is;
    allowed = λ answer. may_extended s lists more h (Sync k) below (next.allowed answer);
  }

-- ---- a sync point

-- one more list is recorded
pub listed_synced : (sets : Option (List (List ℕ))) (more : List ℕ) (h : List Step) (k : ℕ) → AreListed sets h → AreListed (with_list more sets) (Sync k ∷ h)
listed_synced None more h k listed = tt
listed_synced (Some lists) more h k listed = let e = length-append lists (more ∷ []) in let n : length lists ≡ suc (syncs_in h) = listed in omega (arith, e, n)

-- after it the run stands with the kind sets that are there
pub stage_synced : {B : Type 0} (width : ℕ) (s : Schedule) (sets : Option (List (List ℕ))) (bodies : List BodyMeaning) (start : State) (h : List Step) (state : State) (deferred : DeferredValue) (out : List (JobOut B)) →
    AreListed sets h → Stage width (recording s sets) bodies start h state deferred out → (k : ℕ) (state' : State) (deferred' : DeferredValue) → IsTake (recording s sets) h (length out) width (ready.Sync k) →
    can_sync s k (run_with state deferred) ≡ true → run_with state' deferred' ≡ after_sync s k (run_with state deferred) →
    Stage width (recording s (with_list (kind_sets_of state'.world.slots) sets)) bodies start (Sync k ∷ h) state' deferred' out
stage_synced width s None bodies start h state deferred out listed stage k state' deferred' next can synced =
    stage_sync width (recording s None) bodies start h state deferred out stage k state' deferred' next
    (can_sync-recording s None k (run_with state deferred) ∙ can) (synced ∙ sym (sync-recording s None k (run_with state deferred))) tt
stage_synced width s (Some lists) bodies start h state deferred out listed stage k state' deferred' next can synced =
    let more = kind_sets_of state'.world.slots in
    let longer : Option (List (List ℕ)) = Some (lists ++ more ∷ []) in
    let below : syncs_in h < length lists = let n : length lists ≡ suc (syncs_in h) = listed in omega (arith, n) in
    stage_sync width (recording s longer) bodies start h state deferred out (stage_extended s lists more width bodies start h state deferred out below stage) k state' deferred'
    (take_extended s lists more h (length out) width k below next)
    (can_sync-recording s longer k (run_with state deferred) ∙ can) (synced ∙ sym (sync-recording s longer k (run_with state deferred)))
    (subst (λ there. AreSetsOf there (Some (woven state' deferred' out))) (sym (recorded_last s lists more h k listed)) refl)
