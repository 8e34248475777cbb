-- What a run adds to the traces of those before it, and what its end leaves to the next one, in the same call or a later one.
use Rattle.std.specs.Prelude.{ℕ, ◌≡◌, ◌++◌, true, List, [], ◌∷◌, is_some}
use Rattle.model.specs.steps.Schedule.{Schedule, Recorded, recording}
use Rattle.model.specs.shown.Outcome.{BodyMeaning}
use Rattle.model.specs.state.State.{Slot, State}
use Rattle.model.specs.runs.WideRuns.{IsWideRun}
use Rattle.model.specs.state.KindSets.{kind_sets_of}
use Rattle.executor_core.specs.Stands.{AreMeetings, Stand}

-- a core for a schedule, which knows who meets whom in these kind sets
pub record IsCoreFor (core : Stand) (s : Schedule) (sets : List ℕ) : Type 0 where
  pub schedule : core.schedule ≡ s
  pub meetings : AreMeetings core sets

-- between the runs of a schedule: a core knows who meets whom in these kind sets, and they are those of the slots
pub record IsFollowing (core : Stand) (s : Schedule) (sets : List ℕ) (slots : List Slot) : Type 0 where
  pub knows : IsCoreFor core s sets
  pub there : sets ≡ kind_sets_of slots

-- one run more, with room for so many systems at once: it leads from one state to another, and its trace, which records kind sets, stands behind the traces
-- of the runs before
pub record IsOneMoreRun (width : ℕ) (s : Schedule) (bodies : List BodyMeaning) (w : State) (before : List Recorded) (w' : State) (after : List Recorded) : Type 0 where
  pub trace : Recorded
  pub more : after ≡ before ++ trace ∷ []
  pub records : is_some trace.sets ≡ true
  pub ran : IsWideRun width (recording s trace.sets) bodies w trace.steps w'
