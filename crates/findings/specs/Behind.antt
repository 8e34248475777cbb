-- States behind some runs: each run is lawful and complete, with true answers.
use Rattle.std.specs.Prelude.{ℕ, ◌≡◌, List, length}
use Rattle.model.specs.shown.Outcome.{BodyMeaning}
use Rattle.model.specs.state.State.{State}
use Rattle.model.specs.runs.Replays.{IsReplayed}
use Rattle.model.specs.steps.Schedule.{Schedule, Recorded, recording}
use Rattle.program.specs.Replayed.{AreReplayed}

-- a run leads from a state to another
pub record IsNext (s : Schedule) (bodies : List BodyMeaning) (start final : State) : Type 0 where
  pub run : Recorded
  pub replayed : IsReplayed (recording s run.sets) bodies start run.steps final

-- so many runs, one after the other, lead from a state to another
pub record IsBehind (s : Schedule) (bodies : List BodyMeaning) (start : State) (count : ℕ) (final : State) : Type 0 where
  pub runs : List Recorded
  pub many : length runs ≡ count
  pub replayed : AreReplayed s bodies start runs final
