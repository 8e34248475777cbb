-- Runs of a schedule, what they leave, and their record.
use Rattle.std.specs.Prelude.{ℕ, ◌≡◌, ◌≤◌, ◌<◌, Bool, true, List, length, Option, None, Some, IsSome, is_some, string_bytes}
use Rattle.std.specs.List.{AllByRecursion}
use Rattle.std.specs.declared.string.String.{String}
use Rattle.std.specs.declared.alloc.Global.{Global}
use Rattle.model.specs.shown.Outcome.{BodyMeaning}
use Rattle.model.specs.runs.Runs.{AreSingleRuns, AreSoundRuns}
use Rattle.model.specs.runs.WideRuns.{AreWideRuns}
use Rattle.model.specs.steps.Schedule.{Schedule, Recorded}
use Rattle.model.specs.state.State.{State}
use Rattle.trace_checker.specs.Grammar.{trace_text}
use Rattle.state_lines.specs.WorldText.{world_text}

-- complete runs of a schedule with room for so many running systems, one after the other, lead from one state to another, and record kind sets.
-- With room for one they are those of one thread
pub record HaveRun (width : ℕ) (s : Schedule) (bodies : List BodyMeaning) (start : State) (traces : List Recorded) (final : State) : Type 0 where
  pub records : AllByRecursion (λ r. is_some r.sets ≡ true) traces
  pub ran : AreWideRuns width s bodies start traces final
  pub sound : AreSoundRuns s bodies start traces final
  pub single : width ≡ 1 → AreSingleRuns s bodies start traces final

-- it is the record of runs, and may be written
pub record IsRecordOf (traces : List Recorded) (noted : List ℕ) : Type 0 where
  pub same : noted ≡ trace_text traces
  pub within : length noted ≤ 67108864

-- what is kept of the record of runs: its text while that may be written, and of a longer one nothing
abbrev pub IsKeptOf : List Recorded → Option (String Global) → Type 0
IsKeptOf traces (Some text) = IsRecordOf traces (string_bytes text)
IsKeptOf traces None = 67108864 < length (trace_text traces)

-- so many complete runs lead from one state to another, and this is kept of their record where they are recorded
pub record HaveKept (width : ℕ) (s : Schedule) (bodies : List BodyMeaning) (start : State) (times : ℕ) (recorded : Bool) (final : State) (text : Option (String Global)) : Type 0 where
  pub traces : List Recorded
  pub many : length traces ≡ times
  pub runs : HaveRun width s bodies start traces final
  pub kept : recorded ≡ true → IsKeptOf traces text
  pub there : (recorded ≡ true → ⊥) → IsSome text

-- so many complete runs lead on from a state, and their record is longer than one that may be written
pub record IsRecordTooLong (width : ℕ) (s : Schedule) (bodies : List BodyMeaning) (start : State) (times : ℕ) : Type 0 where
  pub traces : List Recorded
  pub many : length traces ≡ times
  pub final : State
  pub runs : HaveRun width s bodies start traces final
  pub beyond : 67108864 < length (trace_text traces)

-- so many complete runs lead from one state to another, and this is their record where they are recorded
pub record HaveNoted (width : ℕ) (s : Schedule) (bodies : List BodyMeaning) (start : State) (times : ℕ) (recorded : Bool) (final : State) (noted : List ℕ) : Type 0 where
  pub traces : List Recorded
  pub many : length traces ≡ times
  pub runs : HaveRun width s bodies start traces final
  pub kept : recorded ≡ true → IsRecordOf traces noted

-- the text of a state that so many complete runs of a schedule leave, with their record where they are recorded
pub record IsTextOfRuns (width : ℕ) (s : Schedule) (bodies : List BodyMeaning) (start : State) (times : ℕ) (recorded : Bool) (text noted : List ℕ) : Type 0 where
  pub final : State
  pub runs : HaveNoted width s bodies start times recorded final noted
  pub same : text ≡ world_text times final
