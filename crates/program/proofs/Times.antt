-- Runs one after the other: one more run, and none.
use Rattle.std.proofs.Common.{◌≡◌, ℕ, true, List, [], ◌∷◌, ◌++◌, is_some, refl, sym, subst}
use Rattle.std.specs.List.{AllByRecursion}
use Rattle.model.specs.shown.Outcome.{BodyMeaning}
use Rattle.model.specs.runs.Runs.{AreSingleRuns, AreSoundRuns}
use Rattle.model.specs.runs.WideRuns.{AreWideRuns}
use Rattle.model.specs.steps.Schedule.{Schedule, Recorded}
use Rattle.model.specs.state.State.{State}
use Rattle.program.specs.Recorded.{HaveRun}

-- runs after runs
more-records : (hs gs : List Recorded) → AllByRecursion (λ r. is_some r.sets ≡ true) hs → AllByRecursion (λ r. is_some r.sets ≡ true) gs → AllByRecursion (λ r. is_some r.sets ≡ true) (hs ++ gs)
more-records [] gs first more = more
more-records (h ∷ hs) gs first more = (first.0, more-records hs gs first.1 more)

pub more-wide : (width : ℕ) (s : Schedule) (bodies : List BodyMeaning) (w : State) (hs gs : List Recorded) (middle w' : State)
    → AreWideRuns width s bodies w hs middle → AreWideRuns width s bodies middle gs w' → AreWideRuns width s bodies w (hs ++ gs) w'
more-wide width s bodies w [] gs middle w' ran more = subst (λ v. AreWideRuns width s bodies v gs w') (sym ran) more
more-wide width s bodies w (h ∷ hs) gs middle w' ran more = (ran.0, ran.1, more-wide width s bodies ran.0 hs gs middle w' ran.2 more)

more-single : (s : Schedule) (bodies : List BodyMeaning) (w : State) (hs gs : List Recorded) (middle w' : State)
    → AreSingleRuns s bodies w hs middle → AreSingleRuns s bodies middle gs w' → AreSingleRuns s bodies w (hs ++ gs) w'
more-single s bodies w [] gs middle w' ran more = subst (λ v. AreSingleRuns s bodies v gs w') (sym ran) more
more-single s bodies w (h ∷ hs) gs middle w' ran more = (ran.0, ran.1, more-single s bodies ran.0 hs gs middle w' ran.2 more)

more-sound : (s : Schedule) (bodies : List BodyMeaning) (w : State) (hs gs : List Recorded) (middle w' : State)
    → AreSoundRuns s bodies w hs middle → AreSoundRuns s bodies middle gs w' → AreSoundRuns s bodies w (hs ++ gs) w'
more-sound s bodies w [] gs middle w' ran more = subst (λ v. AreSoundRuns s bodies v gs w') (sym ran) more
more-sound s bodies w (h ∷ hs) gs middle w' ran more = (ran.0, ran.1, more-sound s bodies ran.0 hs gs middle w' ran.2 more)

-- no run leaves the state
pub none-run : (width : ℕ) (s : Schedule) (bodies : List BodyMeaning) (w : State) → HaveRun width s bodies w [] w
none-run width s bodies w = record { records = tt; ran = refl; sound = refl; single = λ one. refl }

-- runs, and runs after them
more-run : (width : ℕ) (s : Schedule) (bodies : List BodyMeaning) (w middle w' : State) (hs gs : List Recorded)
    → HaveRun width s bodies w hs middle → HaveRun width s bodies middle gs w' → HaveRun width s bodies w (hs ++ gs) w'
more-run width s bodies w middle w' hs gs first more = record {
  records = more-records hs gs first.records more.records;
  ran = more-wide width s bodies w hs gs middle w' first.ran more.ran;
  sound = more-sound s bodies w hs gs middle w' first.sound more.sound;
  single = λ one. more-single s bodies w hs gs middle w' (first.single one) (more.single one);
}

-- more runs of the same schedule with bodies that mean the same
pub next-run : (width : ℕ) (s z : Schedule) (bodies others : List BodyMeaning) (w middle w' : State) (hs gs : List Recorded) → z ≡ s → others ≡ bodies
    → HaveRun width s bodies w hs middle → HaveRun width z others middle gs w' → HaveRun width s bodies w (hs ++ gs) w'
next-run width s z bodies others w middle w' hs gs same_schedule same_bodies first more =
    more-run width s bodies w middle w' hs gs first
    (subst (λ bs. HaveRun width s bs middle gs w') same_bodies (subst (λ t. HaveRun width t others middle gs w') same_schedule more))
