-- The world after each sync point of a recorded run.
use Rattle.std.specs.Prelude.{ℕ, ◌+◌, List, [], ◌∷◌, ◌++◌, codes, length, Option, Some, None}
use Rattle.std.specs.Fmt.{decimal}
use Rattle.model.specs.declared.steps.Step.{Step}
use Rattle.model.specs.declared.steps.Step.TheVariants.{Cond, Start, Skip, Finish, Sync}
use Rattle.model.specs.runs.Meaning.{serial}
use Rattle.model.specs.runs.RunState.{RunState}
use Rattle.model.specs.shown.Outcome.{BodyMeaning}
use Rattle.model.specs.state.State.{State}
use Rattle.model.specs.steps.Schedule.{Schedule}
use Rattle.state_lines.specs.WorldText.{world_text}

-- the line before a world, in the run behind so many: the numbers of the run and of the step, and the sync point
abbrev pub head_text : ℕ → ℕ → ℕ → List ℕ
head_text before step point = codes "== run " ++ (decimal (before + 1) ++ (codes " step " ++ (decimal step ++ (codes " sync " ++ (decimal point ++ 10 ∷ [])))))

-- a state after a step of this number: its world, where the step is a sync point
abbrev pub scene_text : ℕ → ℕ → Step → State → List ℕ
scene_text before number (Cond c answer) state = []
scene_text before number (Start n) state = []
scene_text before number (Skip n) state = []
scene_text before number (Finish n) state = []
scene_text before number (Sync k) state = head_text before number k ++ world_text before state

-- the same where a history has a meaning
abbrev pub after_text : ℕ → ℕ → Step → Option RunState → List ℕ
after_text before number step None = []
after_text before number step (Some run) = scene_text before number step run.state

-- the worlds after the sync points of a history, which has the latest step first: those of its serial meaning
abbrev pub worlds_text : Schedule → List BodyMeaning → State → ℕ → List Step → List ℕ
worlds_text s bodies start before [] = []
worlds_text s bodies start before (step ∷ h) = worlds_text s bodies start before h ++ after_text before (length h + 1) step (serial s bodies start (step ∷ h))
