-- What so many runs of an engine come to.
use Rattle.std.specs.Prelude.{ℕ, ◌≡◌, true, List, length, is_some}
use Rattle.std.specs.List.{AllByRecursion}
use Rattle.model.specs.state.State.{State}
use Rattle.model.specs.state.Agreement.{AgreesWithAll}
use Rattle.model.specs.shown.Outcome.{BodyMeaning}
use Rattle.model.specs.steps.Schedule.{Schedule, Recorded}
use Rattle.model.specs.runs.Runs.{AreSingleRuns, AreSoundRuns}
use Rattle.model.specs.runs.WideRuns.{AreWideRuns}
use Rattle.kinds.specs.Components.{widths}

-- from one state to another, with room for so many systems at once: so many complete runs, which record kind sets, are sound, are those of one thread where there is
-- room for one, and leave what agrees with whatever else as many runs leave, where the schedule is settled
pub record RunsAs (width : ℕ) (s : Schedule) (bodies : List BodyMeaning) (times : ℕ) (w : State) (w' : State) (traces : List Recorded) : Type 0 where
  pub count : length traces ≡ times
  pub records : AllByRecursion (λ r. is_some r.sets ≡ true) traces
  pub ran : AreWideRuns width s bodies w traces w'
  pub sound : AreSoundRuns s bodies w traces w'
  pub single : width ≡ 1 → AreSingleRuns s bodies w traces w'
  pub agreement : AgreesWithAll widths s bodies w times w'
