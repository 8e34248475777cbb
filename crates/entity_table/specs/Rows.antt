-- Slots with the rows of their entities, which the id book has not.
use Rattle.std.specs.Prelude.{ℕ, List}
use Rattle.model.specs.Lists.{map_index}
use Rattle.model.specs.state.State.{Component, Slot}
use Rattle.model.specs.state.Commands.{with_row}

-- the slots with this row at each index
abbrev pub with_rows : (ℕ → List Component) → List Slot → List Slot
with_rows rows slots = map_index (λ index. with_row (λ old. rows index)) slots
