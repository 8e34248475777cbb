-- A stamped component as the definitions have it, and the writes of one kind.
use Rattle.std.specs.Prelude.{ℕ, ℤ, List, Option, Some, None}
use Rattle.model.specs.state.State.{Component}
use Rattle.model.specs.Lists.{with_at}
use Rattle.kinds.specs.declared.value.Value.{Value}
use Rattle.column_store.specs.declared.stamped.StampedValue.{StampedValue}
use Rattle.column_store.specs.Cells.{stamped_number, stamped_cell}

-- the component that the definitions speak of
abbrev pub component_of : StampedValue → Component
component_of s = record { kind = stamped_number s; cell = stamped_cell s }

-- the writes by kind of one kind alone
abbrev pub only : ℕ → List ℤ → ℕ → Option (List ℤ)
only kind words = with_at kind (Some words) (λ _. None)

-- a component that is added
abbrev pub added_at : ℕ → Value → StampedValue
added_at tick value = record { value = value; stamp = record { added = tick; changed = tick } }
