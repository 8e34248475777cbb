-- Where two traces part: the first run after which the texts of their worlds differ, and the first step in which their lists do.
use Rattle.std.specs.Prelude.{ℕ, ◌+◌, ◌≡◌, ◌≢◌, ◌<◌, ◌⊎◌, List, [], ◌∷◌, reverse, take, Option, Some, None, string_bytes}
use Rattle.std.specs.List.{slice_get}
use Rattle.model.specs.declared.steps.Step.{Step}
use Rattle.model.specs.runs.Replays.{IsReplayed}
use Rattle.model.specs.shown.Outcome.{BodyMeaning}
use Rattle.model.specs.state.State.{State}
use Rattle.model.specs.steps.Schedule.{Schedule, Recorded, recording}
use Rattle.state_lines.specs.WorldText.{world_text}
use Rattle.program.specs.Replayed.{AreReplayed}
use Rattle.findings.specs.declared.diverging.Parting.{Parting}
use Rattle.findings.specs.declared.diverging.Parting.TheVariants as parting
use Rattle.findings.specs.declared.diverging.Place.{Place}

-- ---- worlds

-- the worlds of two states behind so many runs have texts that differ, and those are told
abbrev pub IsPartingAt : ℕ → State → State → Parting → Type 0
IsPartingAt count left beside (parting.None n) = ⊥
IsPartingAt count left beside (parting.Longer n) = ⊥
IsPartingAt count left beside (parting.After run text other) =
    (run ≡ count) × (string_bytes text ≡ world_text count left) × (string_bytes other ≡ world_text count beside) × (world_text count left ≢ world_text count beside)

-- what two lists come to whose items are taken from these on, behind so many of each, where each leads to a state: an item of each is taken, from where the one
-- before it led. Where the texts of the two worlds differ after it, it is the one that is told; else the items behind it decide, and where one list has no
-- more, how many both have
abbrev pub IsPartingBy : {X S : Type 0} → (S → X → S → Type 0) → (S → X → S → Type 0) → (S → State) → ℕ → S → S → List X → List X → Parting → Type 0
IsPartingBy Takes TakesBeside state count start beginning [] [] p = p ≡ parting.None count
IsPartingBy Takes TakesBeside state count start beginning [] (q ∷ others) p = p ≡ parting.Longer count
IsPartingBy Takes TakesBeside state count start beginning (r ∷ runs) [] p = p ≡ parting.Longer count
IsPartingBy {X} {S} Takes TakesBeside state count start beginning (r ∷ runs) (q ∷ others) p =
    (left : S) × (beside : S) × Takes start r left × TakesBeside beginning q beside
    × (IsPartingAt (count + 1) (state left) (state beside) p
    ⊎ ((world_text (count + 1) (state left) ≡ world_text (count + 1) (state beside)) × IsPartingBy Takes TakesBeside state (count + 1) left beside runs others p))

-- a run is replayed, from one state to another
abbrev pub IsRunTo : Schedule → List BodyMeaning → State → Recorded → State → Type 0
IsRunTo s bodies start r left = IsReplayed (recording s r.sets) bodies start r.steps left

-- what two traces come to whose runs begin with these states, behind so many runs of each
abbrev pub IsParting : Schedule → List BodyMeaning → ℕ → State → State → List Recorded → List Recorded → Parting → Type 0
IsParting s bodies count start beginning runs others p = IsPartingBy (IsRunTo s bodies) (IsRunTo s bodies) (λ state. state) count start beginning runs others p

-- ---- runs

-- all of these runs are replayed, each from the state that the one before it leaves
abbrev pub AreAllReplayed : Schedule → List BodyMeaning → State → List Recorded → Type 0
AreAllReplayed s bodies start runs = (last : State) × AreReplayed s bodies start runs last

-- ---- steps

-- the steps of a run, in the order in which they came; none where there is no such run
abbrev pub steps_in : Option Recorded → List Step
steps_in None = []
steps_in (Some run) = reverse run.steps

-- those of the run at a place
abbrev pub recorded_steps : List Recorded → ℕ → List Step
recorded_steps runs n = steps_in (slice_get runs n)

-- it is where the steps of two traces differ first: those of each run before its run are the same in both, and so are those before it in its run; there each
-- has another step, or one of them has none. Runs and steps are counted from 1
pub record IsFirstDifference (ones others : List Recorded) (place : Place) : Type 0 where
  pub run : ℕ
  pub step : ℕ
  pub run_counted : place.run ≡ run + 1
  pub step_counted : place.step ≡ step + 1
  pub runs_before : (n : ℕ) → n < run → recorded_steps ones n ≡ recorded_steps others n
  pub before : take step (recorded_steps ones run) ≡ take step (recorded_steps others run)
  pub one : place.one ≡ slice_get (recorded_steps ones run) step
  pub other : place.other ≡ slice_get (recorded_steps others run) step
  pub apart : place.one ≢ place.other

-- where the steps of two traces differ first; none where all runs have the same
abbrev pub IsDifferenceOf : List Recorded → List Recorded → Option Place → Type 0
IsDifferenceOf ones others None = (n : ℕ) → recorded_steps ones n ≡ recorded_steps others n
IsDifferenceOf ones others (Some place) = IsFirstDifference ones others place
