-- On one thread what a run records of kind sets doesn't matter: nothing runs where something else than a finish is chosen.
use Rattle.std.proofs.Common.{ℕ, ◌≡◌, inl, inr, List, [], ◌∷◌, Option, Some, None, refl, ◌∙◌}
use Rattle.std.proofs.lemmas.Bool.{both_ways}
use Rattle.model.specs.declared.steps.Step.{Step}
use Rattle.model.specs.declared.steps.Step.TheVariants.{Cond, Start, Skip, Finish, Sync}
use Rattle.model.specs.declared.steps.Ready.{Ready}
use Rattle.model.specs.declared.steps.Ready.TheVariants as ready
use Rattle.model.specs.state.State.{State}
use Rattle.model.specs.access.Access.{Params}
use Rattle.model.specs.shown.Outcome.{BodyMeaning}
use Rattle.model.specs.steps.Schedule.{Schedule, recording}
use Rattle.model.specs.steps.Lawful.{runs, NoneRuns, MeetsRunning, MaySync}
use Rattle.model.specs.steps.Ready.{Offers, IsReadySync, IsReadyAmong}
use Rattle.model.specs.steps.Widths.{just_started, IsNextSingle, IsSingle}
use Rattle.model.specs.runs.Meaning.{HasTrueSets}
use Rattle.model.specs.runs.Runs.{IsSingleRun}
use Rattle.model.proofs.order.Extending.{free-recording}
use Rattle.model.proofs.serial.Recording.{serial-recording, answers-recording, complete-recording}
use Rattle.model.proofs.progress.Single.{single_is_wide, wide_lawful}
use Rattle.model.proofs.progress.WideOfOne.{none_runs}

-- where nothing runs, nothing is met
none_met : (s : Schedule) (h : List Step) (access : Params) → NoneRuns h → MeetsRunning s h access → ⊥
none_met s h access none meets = both_ways (runs h meets.0) (none meets.0) meets.1

-- ---- what is ready, where nothing runs

-- a sync point may come just so
sync-recording : (s : Schedule) (sets : Option (List (List ℕ))) (h : List Step) (k : ℕ) → MaySync s h k → MaySync (recording s sets) h k
sync-recording s sets h k may = record { known = may.known; fresh = may.fresh; lower = may.lower; level = may.level }

-- a system offers just the same
offer-recording : (s : Schedule) (sets : Option (List (List ℕ))) (h : List Step) (n : ℕ) (r : Ready) → NoneRuns h → Offers s h n r → Offers (recording s sets) h n r
offer-recording s sets h n (ready.Ask c) none offer = (
  free-recording s sets h n offer.0,
  (
    (offer.1.0.0, offer.1.0.1, λ meets. none_met (recording s sets) h _ none meets),
    λ j below askable. offer.1.1 j below (askable.0, askable.1, λ meets. none_met s h _ none meets),
  ),
)
offer-recording s sets h n (ready.Skip m) none offer = (
  free-recording s sets h n offer.0,
  (offer.1.0, record { free = free-recording s sets h n offer.1.1.free; asked = offer.1.1.asked; refused = offer.1.1.refused }),
)
offer-recording s sets h n (ready.Start m) none offer = (
  free-recording s sets h n offer.0,
  (
    offer.1.0,
    record {
      free = free-recording s sets h n offer.1.1.free;
      answers = offer.1.1.answers;
      apart = λ meets. none_met (recording s sets) h _ none meets;
    },
  ),
)
offer-recording s sets h n (ready.Sync k) none offer = absurd offer.1

-- the sync point that may come is the same
ready_sync-recording : (s : Schedule) (sets : Option (List (List ℕ))) (h : List Step) (o : Option Ready) → IsReadySync s h o → IsReadySync (recording s sets) h o
ready_sync-recording s sets h None is = λ k may. is k (sync-recording (recording s sets) s.sets h k may)
ready_sync-recording s sets h (Some (ready.Sync k)) is = sync-recording s sets h k is
ready_sync-recording s sets h (Some (ready.Ask c)) is = absurd is
ready_sync-recording s sets h (Some (ready.Skip n)) is = absurd is
ready_sync-recording s sets h (Some (ready.Start n)) is = absurd is

-- what is ready is the same
ready-recording : (s : Schedule) (sets : Option (List (List ℕ))) (h : List Step) (ns : List ℕ) (o : Option Ready) → NoneRuns h → IsReadyAmong s h ns o →
    IsReadyAmong (recording s sets) h ns o
ready-recording s sets h [] o none is = ready_sync-recording s sets h o is
ready-recording s sets h (n ∷ ns) o none (inl found) = inl (found.0, found.1, offer-recording s sets h n found.0 none found.2)
ready-recording s sets h (n ∷ ns) o none (inr rest) =
    inr ((λ r offer. rest.0 r (offer-recording (recording s sets) s.sets h n r none offer)), ready-recording s sets h ns o none rest.1)

-- ---- lists and runs of one thread

-- a list of one thread is one whatever is recorded
pub single-recording : (s : Schedule) (sets : Option (List (List ℕ))) (h : List Step) → IsSingle s h → IsSingle (recording s sets) h
single-recording s sets [] single = tt
single-recording s sets (step ∷ h) single = (go (just_started h) refl single.0, single-recording s sets h single.1)
  where
    go : (o : Option ℕ) → just_started h ≡ o → IsNextSingle s h step o → IsNextSingle (recording s sets) h step o
    go (Some n) e next = next
    go None e next =
        let none = none_runs s h single.1 (wide_lawful 1 s h (single_is_wide s h single.1)) e in
        (next.0, next.1, ready-recording s sets h s.order (Some next.0) none next.2, next.3)

-- what isn't recorded is true
pub none_told : (s : Schedule) (bodies : List BodyMeaning) (w : State) (h : List Step) → HasTrueSets (recording s None) bodies w h
none_told s bodies w [] = tt
none_told s bodies w (Cond c answer ∷ h) = none_told s bodies w h
none_told s bodies w (Start n ∷ h) = none_told s bodies w h
none_told s bodies w (Skip n ∷ h) = none_told s bodies w h
none_told s bodies w (Finish n ∷ h) = none_told s bodies w h
none_told s bodies w (Sync k ∷ h) = (tt, none_told s bodies w h)

-- a run of one thread is one that records nothing
pub plain_run : (s : Schedule) (bodies : List BodyMeaning) (w : State) (h : List Step) (w' : State) → IsSingleRun s bodies w h w' → IsSingleRun (recording s None) bodies w h w'
plain_run s bodies w h w' r =
    let single = single-recording s None h r.single in
    record {
      single = single;
      lawful = wide_lawful 1 (recording s None) h (single_is_wide (recording s None) h single);
      complete = complete-recording s None h r.complete;
      answers = answers-recording s None bodies w h r.answers;
      sets = none_told s bodies w h;
      end = r.end;
      meaning = serial-recording s None bodies w h ∙ r.meaning;
      leaves = r.leaves;
    }
