-- The entities of a table: their order, and the copy of them that readers elsewhere have a part in.
use Rattle.std.specs.Prelude.{Vec}
use Rattle.std.specs.declared.sync.Arc.{Arc}
use Rattle.std.specs.declared.alloc.Global.{Global}
use Rattle.std.specs.Prelude.{◌≡◌, ℕ, ◌≤◌, ◌^◌, ◌-◌, Bool, true, false, cond, List, length, Option, None, Some}
use Rattle.std.specs.Arc.{arc_value}
use Rattle.model.specs.declared.entities.Entity.{Entity}
use Rattle.column_store.specs.Order.{AreRising, AreApart}
use Rattle.column_store.specs.RowOrder.{IsOrderOf}

-- numbers, and for how many there is room
pub record GapListValue : Type 0 where
  pub items : List ℕ
  pub room : ℕ

-- entities, row by row, and for how many there is room
pub record EntityListValue : Type 0 where
  pub list : List Entity
  pub room : ℕ

-- so many rows have numbers of 32 bits
abbrev pub row_limit : ℕ
row_limit = 2 ^ 32 - 1

-- a copy is of just these entities
abbrev pub IsCopy : List Entity → Option (Arc (Vec Entity Global) Global) → Type 0
IsCopy entities None = Unit {0}
IsCopy entities (Some copy) = (arc_value copy).items ≡ entities

-- the order as it is kept: rows as they stand, or by these numbers
abbrev pub IsKept : List Entity → Bool → List ℕ → Type 0
IsKept entities false numbers = AreRising entities
IsKept entities true numbers = IsOrderOf entities numbers

-- what holds of the inside of a list
pub record IsEntityList (entities : List Entity) (listed : Bool) (numbers : GapListValue) (copy : Option (Arc (Vec Entity Global) Global)) : Type 0 where
  pub apart : AreApart entities
  pub kept : IsKept entities listed numbers.items
  pub as_many : length numbers.items ≡ cond listed (length entities) 0
  pub room : length entities ≤ numbers.room
  pub few : length entities ≤ row_limit
  pub copied : IsCopy entities copy
