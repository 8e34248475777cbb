-- What contracts see of a session.
use Rattle.std.specs.Prelude.{ℕ, Bool, if◌then◌else◌, List, refl}
use Rattle.std.specs.List.{AllByRecursion}
use Rattle.std.specs.Coded.{Coded, code_by, coded×, coded_list, coded_ℕ}
use Rattle.model.specs.access.Access.{Params}
use Rattle.model.specs.shown.Outcome.{BodyMeaning}
use Rattle.model.specs.state.State.{State}
use Rattle.body.specs.contracts.state.State as state
use Rattle.engine.specs.EngineValue.{EngineValue, engine_code}
use Rattle.engine.specs.Meanings.{AreFit, LacksMemories, meanings}

-- the engine, the states that are kept by name, the SHA-256 digest of the program file, and the lines with which a host is greeted
pub record Live (B : Type 0) : Type 0 where
  pub engine : EngineValue B
  pub marks : List (List ℕ × State)
  pub file : List ℕ
  pub greeting : List ℕ

-- it is stored as the tuple of its parts
abbrev pub live_code : {B : Type 0} → Coded B → Coded (Live B)
live_code {B} body = code_by (EngineValue B × (List (List ℕ × State) × (List ℕ × List ℕ)))
    (coded× (engine_code body) (coded× (coded_list (coded× (coded_list coded_ℕ) state.the_row.coded)) (coded× (coded_list coded_ℕ) (coded_list coded_ℕ))))
    (λ l. (l.engine, (l.marks, (l.file, l.greeting))))
    (λ p. record { engine = p.0; marks = p.1.0; file = p.1.1.0; greeting = p.1.1.1 })
    (λ _. refl)

-- with another engine, and with other states kept
abbrev pub with_engine : {B : Type 0} → EngineValue B → Live B → Live B
with_engine engine l = record { engine = engine; marks = l.marks; file = l.file; greeting = l.greeting }

abbrev pub with_marks : {B : Type 0} → List (List ℕ × State) → Live B → Live B
with_marks marks l = record { engine = l.engine; marks = marks; file = l.file; greeting = l.greeting }

-- whether its state is lost
abbrev pub is_lost : {B : Type 0} → Live B → Bool
is_lost l = l.engine.spoiled

-- its state, where it isn't lost
abbrev pub state_in : {B : Type 0} → Live B → State
state_in l = l.engine.state

-- its clock, 0 where the state is lost
abbrev pub clock_in : {B : Type 0} → Live B → ℕ
clock_in l = if is_lost l then 0 else (state_in l).world.clock

-- what its bodies mean
abbrev pub meant_in : {B : Type 0} → (B → Params → BodyMeaning) → Live B → List BodyMeaning
meant_in meaning l = meanings meaning l.engine.schedule l.engine.bodies

-- what holds of every session: each body fits its system, and each state that is kept has the memories of the schedule
pub record IsLive {B : Type 0} (fits : B → Params → Bool) (engine : EngineValue B) (marks : List (List ℕ × State)) : Type 0 where
  pub fit : AreFit fits engine.schedule engine.bodies
  pub kept : AllByRecursion (λ (m : List ℕ × State). LacksMemories engine.schedule m.1 → ⊥) marks
