-- A slot as contracts see it.
use Rattle.std.specs.Arc.{arc_value}
use Rattle.column_store.specs.declared.column_slot.Spot.{Spot}
use Rattle.column_store.specs.declared.column_slot.Spot.TheVariants as spot
use Rattle.column_store.specs.Table.{ColumnSlotValue}
use Rattle.column_store.specs.Table.Standing.{Owned, Shared, Away}

-- where the column is, and the column: one that is away is as it left
abbrev pub slot_of : Spot → ColumnSlotValue
slot_of (spot.Home c) = record { standing = Owned; column = c }
slot_of (spot.Shared c) = record { standing = Shared; column = arc_value c }
slot_of (spot.Away s) = record { standing = Away; column = s.value }
