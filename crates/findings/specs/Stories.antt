-- Recorded runs as a story: those that are asked for, one after the other.
use Rattle.std.specs.Prelude.{ℕ, ◌+◌, ◌≡◌, ◌==◌, Bool, true, cond, List, [], ◌∷◌, ◌++◌, codes, Option, Some, None}
use Rattle.std.specs.Fmt.{decimal}
use Rattle.model.specs.declared.steps.Step.{Step}
use Rattle.model.specs.runs.Replays.{IsReplayed}
use Rattle.model.specs.shown.Outcome.{BodyMeaning}
use Rattle.model.specs.state.State.{State}
use Rattle.model.specs.steps.Schedule.{Schedule, Recorded, recording}
use Rattle.findings.specs.Worlds.{worlds_text}

-- whether the run of this number is asked for: all where none is named
abbrev pub is_asked : Option ℕ → ℕ → Bool
is_asked None number = true
is_asked (Some asked) number = asked == number

-- what a run behind so many adds to a text
abbrev pub told_text : Bool → Schedule → List BodyMeaning → State → ℕ → List Step → List ℕ
told_text is_told s bodies start before h = cond is_told (worlds_text s bodies start before h) []

-- the text behind these runs, which come behind so many and begin with this state, where it is this before them: each run is replayed, from the state that
-- the one before it leaves, and the worlds of those that are asked for are added
abbrev pub IsStory : Schedule → List BodyMeaning → Option ℕ → ℕ → State → List Recorded → List ℕ → List ℕ → Type 0
IsStory s bodies asked before start [] text whole = text ≡ whole
IsStory s bodies asked before start (r ∷ runs) text whole =
    (left : State) × IsReplayed (recording s r.sets) bodies start r.steps left
    × IsStory s bodies asked (before + 1) left runs (text ++ told_text (is_asked asked (before + 1)) s bodies start before r.steps) whole

-- the first line of a story of so many runs
abbrev pub count_text : ℕ → List ℕ
count_text count = codes "runs " ++ (decimal count ++ 10 ∷ [])
