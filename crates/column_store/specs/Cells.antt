-- Components with their stamps, and what a write leaves of them.
use Rattle.std.specs.Prelude.{ℕ, ℤ, List}
use Rattle.kinds.specs.Value.{value_number, value_words}
use Rattle.change_ticks.specs.declared.stamp.Stamp.{Stamp}
use Rattle.model.specs.state.State.{Cell}
use Rattle.column_store.specs.declared.stamped.StampedValue.{StampedValue}
use Rattle.column_store.specs.Column.{cell_of}

-- the number of a component's kind
abbrev pub stamped_number : StampedValue → ℕ
stamped_number s = value_number s.value

-- the cell that the definitions speak of
abbrev pub stamped_cell : StampedValue → Cell
stamped_cell s = cell_of (value_words s.value) s.stamp

-- the stamp of a cell
abbrev pub stamp_of : Cell → Stamp
stamp_of c = record { added = c.added; changed = c.changed }

-- a cell after a write at a tick: its added stamp stays
abbrev pub changed_cell : List ℤ → ℕ → Cell → Cell
changed_cell words tick c = record { words = words; added = c.added; changed = tick }
