-- What the texts of states tell of them.
use Rattle.std.specs.Prelude.{◌≡◌, ◌<◌, ◌^◌, length, FitsSigned}
use Rattle.std.specs.Int.{w64}
use Rattle.std.specs.List.{AllByRecursion}
use Rattle.sha2.specs.Sha256.{sha256}
use Rattle.kinds.specs.Kind.{kind_count}
use Rattle.model.specs.steps.Schedule.{Schedule}
use Rattle.model.specs.state.State.{Component, Memory, State}
use Rattle.model.specs.state.Agreement.{without_stamps, Agrees}
use Rattle.body.specs.Steps.{HasShape}
use Rattle.state_text.specs.StateText.{state_text, values_text}

-- ---- values

-- states that are equal without their stamps have one text of values
abbrev pub ValuesAreUnstamped : Type 0
ValuesAreUnstamped = (v w : State) → without_stamps v ≡ without_stamps w → values_text v ≡ values_text w

-- states that agree have one digest of values
abbrev pub AgreeingHaveOneDigest : Type 0
AgreeingHaveOneDigest = (s : Schedule) (v w : State) → Agrees s v w → sha256 (values_text v) ≡ sha256 (values_text w)

-- ---- whole states

-- a component of a kind that has a name, of words of 64 bits
pub record FitsComponent (c : Component) : Type 0 where
  pub kind : c.kind < kind_count
  pub words : AllByRecursion (FitsSigned w64) c.cell.words

-- a memory of registers of 64 bits, and cursors below 2^64
pub record FitsMemory (m : Memory) : Type 0 where
  pub registers : AllByRecursion (FitsSigned w64) m.registers
  pub cursors : AllByRecursion (λ cursor. cursor < 2 ^ 64) m.cursors

-- a state of words of 64 bits, with fewer than 2^64 systems and conditions
pub record Fits (w : State) : Type 0 where
  pub components : AllByRecursion (λ slot. AllByRecursion FitsComponent slot.row) w.world.slots
  pub resources : AllByRecursion (λ r. FitsSigned w64 r.value) w.world.resources
  pub events : AllByRecursion (λ queue. AllByRecursion (λ e. FitsSigned w64 e.value) queue.kept) w.events
  pub systems : AllByRecursion FitsMemory w.systems
  pub conditions : AllByRecursion FitsMemory w.conditions
  pub few_systems : length w.systems < 2 ^ 64
  pub few_conditions : length w.conditions < 2 ^ 64

-- states of one text are one
abbrev pub StatesHaveOneText : Type 0
StatesHaveOneText = (v w : State) → HasShape v → HasShape w → Fits v → Fits w → state_text v ≡ state_text w → v ≡ w

-- states of one text of values are equal without their stamps
abbrev pub ValuesHaveOneText : Type 0
ValuesHaveOneText = (v w : State) → HasShape v → HasShape w → Fits v → Fits w → values_text v ≡ values_text w → without_stamps v ≡ without_stamps w
