-- Rows of series over the runs of an engine.
use Rattle.std.specs.Prelude.{ℕ, ◌≡◌, ◌+◌, ◌<◌, ◌≤◌, false, List, [], ◌∷◌, length}
use Rattle.engine.specs.Stops.{StopsAs}
use Rattle.engine.specs.declared.faults.RunFault.{RunFault}
use Rattle.model.specs.runs.Runs.{AreSingleRuns}
use Rattle.model.specs.shown.Outcome.{BodyMeaning}
use Rattle.model.specs.state.State.{State}
use Rattle.model.specs.steps.Schedule.{Schedule, Recorded}
use Rattle.series.specs.Values.{values_of}
use Rattle.series.specs.declared.rows.Row.{Row}
use Rattle.series.specs.declared.series.Series.{Series}

-- so many complete runs on one thread, one after the other, lead from one state to another
pub record LeadOn (s : Schedule) (bodies : List BodyMeaning) (times : ℕ) (start final : State) : Type 0 where
  pub runs : List Recorded
  pub many : length runs ≡ times
  pub ran : AreSingleRuns s bodies start runs final

-- the row of a state behind so many runs: the value of each series
pub record IsRowOf (series : List Series) (run : ℕ) (state : State) (row : Row) : Type 0 where
  pub number : row.run ≡ run
  pub values : row.values.items ≡ values_of state.world series

-- rows behind a state that comes after so many runs: each is that of the state to which so many more runs lead, and there is one as long as these are no more
-- than all
abbrev pub AreRowsFrom : Schedule → List BodyMeaning → List Series → ℕ → ℕ → ℕ → State → List Row → Type 0
AreRowsFrom s bodies series every times done state [] = times < done + every
AreRowsFrom s bodies series every times done state (row ∷ rows) =
    (done + every ≤ times) × (next : State) × LeadOn s bodies every state next × IsRowOf series (done + every) next row × AreRowsFrom s bodies series every times (done + every) next rows

-- all rows: that of the state before the first run, and those behind it
abbrev pub AreRows : Schedule → List BodyMeaning → List Series → ℕ → ℕ → State → List Row → Type 0
AreRows s bodies series every times start [] = ⊥
AreRows s bodies series every times start (row ∷ rows) = IsRowOf series 0 start row × AreRowsFrom s bodies series every times 0 start rows

-- of so many runs some lead to a state from which the next ones stop, with this fault
pub record AreStoppedWithin (s : Schedule) (bodies : List BodyMeaning) (times : ℕ) (start : State) (fault : RunFault) : Type 0 where
  pub done : ℕ
  pub middle : State
  pub led : LeadOn s bodies done start middle
  pub count : ℕ
  pub within : done + count ≤ times
  pub stopped : StopsAs false 1 s bodies count middle fault
