-- What the program tells: the text of a state that runs leave.
use Rattle.std.specs.Prelude.{ℕ, ◌≡◌, List, length}
use Rattle.model.specs.state.State.{State}
use Rattle.model.specs.shown.Outcome.{BodyMeaning}
use Rattle.model.specs.steps.Schedule.{Schedule, Recorded}
use Rattle.model.specs.runs.Runs.{AreSoundRuns}
use Rattle.state_lines.specs.WorldText.{world_text}

-- after so many sound runs of a schedule with these bodies from a state, this is the text of the state that they leave
pub record IsPrinted (times : ℕ) (s : Schedule) (bodies : List BodyMeaning) (start : State) (bytes : List ℕ) : Type 0 where
  pub runs : List Recorded
  pub count : length runs ≡ times
  pub last : State
  pub sound : AreSoundRuns s bodies start runs last
  pub text : bytes ≡ world_text times last
