-- What contracts see of an engine.
use Rattle.std.specs.Prelude.{Bool, false, List, Option, refl}
use Rattle.std.specs.Coded.{Coded, code_by, coded×, coded_list, coded_option, coded_bool}
use Rattle.model.specs.state.State.{State}
use Rattle.model.specs.steps.Schedule.{Schedule}
use Rattle.model.specs.steps.Codes.{schedule_code}
use Rattle.body.specs.contracts.state.State as state

-- a schedule, for each system its body where that is there, the state, and whether a run failed
pub record EngineValue (B : Type 0) : Type 0 where
  pub schedule : Schedule
  pub bodies : List (Option B)
  pub state : State
  pub spoiled : Bool

-- with another state
abbrev pub with_state : {B : Type 0} → State → EngineValue B → EngineValue B
with_state state e = record { schedule = e.schedule; bodies = e.bodies; state = state; spoiled = e.spoiled }

-- with another state, and mended
abbrev pub mended_with : {B : Type 0} → State → EngineValue B → EngineValue B
mended_with state e = record { schedule = e.schedule; bodies = e.bodies; state = state; spoiled = false }

-- it is stored as the tuple of its parts
abbrev pub engine_code : {B : Type 0} → Coded B → Coded (EngineValue B)
engine_code {B} body = code_by (Schedule × (List (Option B) × (State × Bool)))
    (coded× schedule_code (coded× (coded_list (coded_option body)) (coded× state.the_row.coded coded_bool)))
    (λ e. (e.schedule, (e.bodies, (e.state, e.spoiled))))
    (λ p. record { schedule = p.0; bodies = p.1.0; state = p.1.1.0; spoiled = p.1.1.1 })
    (λ _. refl)
