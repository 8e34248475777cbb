-- What the faults of an input mean.
use Rattle.std.specs.Prelude.{◌≡◌, ◌⊎◌, Some}
use Rattle.model.specs.state.State.{State}
use Rattle.model.specs.sessions.Inputs.{Input, cause_of_input}
use Rattle.model.specs.runs.Causes.Cause.{NoTick, NoIds, NoEventNumber}
use Rattle.body.specs.declared.input.PutFault.{PutFault}
use Rattle.body.specs.declared.input.PutFault.TheVariants as put
use Rattle.engine.specs.declared.faults.InputFault.{InputFault}
use Rattle.engine.specs.declared.faults.InputFault.TheVariants as fault

-- as what a fault of a state is reported
abbrev pub fault_of_put : PutFault → InputFault
fault_of_put put.Memory = fault.Memory
fault_of_put put.NoTick = fault.ClockSpent
fault_of_put put.NoEventNumber = fault.ClockSpent
fault_of_put put.NoIds = fault.IdsSpent

-- what a fault says of an input and a state: an allocation may fail at any time, and a spoiled engine takes none
abbrev pub IsInputFault : Input → State → InputFault → Type 0
IsInputFault input w fault.Memory = Unit {0}
IsInputFault input w fault.Spoiled = Unit {0}
IsInputFault input w fault.ClockSpent = (cause_of_input input w ≡ Some NoTick) ⊎ (cause_of_input input w ≡ Some NoEventNumber)
IsInputFault input w fault.IdsSpent = cause_of_input input w ≡ Some NoIds
