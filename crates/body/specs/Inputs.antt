-- What an input says to the definitions, and what its faults mean.
use Rattle.std.specs.Prelude.{◌≡◌, map, Some}
use Rattle.kinds.specs.Kind.{kind_number}
use Rattle.kinds.specs.Res.{res_number, event_number}
use Rattle.kinds.specs.Value.{value_number, value_words}
use Rattle.kinds.specs.declared.value.Value.{Value}
use Rattle.model.specs.state.Loaded.{Given}
use Rattle.model.specs.state.State.{State}
use Rattle.model.specs.sessions.Inputs as inputs
use Rattle.model.specs.sessions.Inputs.{cause_of_input}
use Rattle.model.specs.sessions.Inputs.Input.{SetResource, Emit, Spawn, Insert, Remove, Despawn}
use Rattle.model.specs.runs.Causes.Cause.{NoTick, NoIds, NoEventNumber}
use Rattle.entity_table.specs.declared.fault.GrantFault.{GrantFault}
use Rattle.entity_table.specs.declared.fault.GrantFault.TheVariants as grant_fault
use Rattle.event_buffers.specs.declared.queue.SendFault.{SendFault}
use Rattle.event_buffers.specs.declared.queue.SendFault.TheVariants as send_fault
use Rattle.body.specs.declared.input.Input.{Input}
use Rattle.body.specs.declared.input.Input.TheVariants as the
use Rattle.body.specs.declared.input.PutFault.{PutFault}
use Rattle.body.specs.declared.input.PutFault.TheVariants as fault

-- a component by the number of its kind and its words
abbrev pub given_by : Value → Given
given_by value = record { kind = value_number value; words = value_words value }

-- an input, by the numbers of kinds and the words of components
abbrev pub input_of : Input → inputs.Input
input_of (the.SetResource res value) = SetResource (res_number res) value
input_of (the.Emit event value) = Emit (event_number event) value
input_of (the.Spawn values) = Spawn (map given_by values.items)
input_of (the.Insert e value) = Insert e (value_number value) (value_words value)
input_of (the.Remove e kind) = Remove e (kind_number kind)
input_of (the.Despawn e) = Despawn e

-- what the faults of parts are
abbrev pub fault_of_send : SendFault → PutFault
fault_of_send send_fault.NumbersSpent = fault.NoEventNumber
fault_of_send send_fault.Memory = fault.Memory

abbrev pub fault_of_grant : GrantFault → PutFault
fault_of_grant grant_fault.IdsSpent = fault.NoIds
fault_of_grant grant_fault.Memory = fault.Memory

-- what a fault says of an input and a state: an allocation may fail at any time
abbrev pub IsPutFault : inputs.Input → State → PutFault → Type 0
IsPutFault input w fault.Memory = Unit {0}
IsPutFault input w fault.NoTick = cause_of_input input w ≡ Some NoTick
IsPutFault input w fault.NoEventNumber = cause_of_input input w ≡ Some NoEventNumber
IsPutFault input w fault.NoIds = cause_of_input input w ≡ Some NoIds
