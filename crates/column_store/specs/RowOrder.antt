-- The order of the rows of a table.
use Rattle.std.specs.Prelude.{◌≡◌, ◌<◌, ℕ, zero, suc, true, List, [], ◌∷◌, ◌++◌, length, reverse, map, get_or}
use Rattle.std.specs.List.{AllByRecursion}
use Rattle.model.specs.Lists.{has}
use Rattle.model.specs.declared.entities.Entity.{Entity}
use Rattle.column_store.specs.Order.{AreRising}
use Rattle.column_store.specs.declared.row_order.RowOrder.{RowOrder}
use Rattle.column_store.specs.declared.row_order.RowOrder.TheVariants.{Rising, Listed}

-- so many numbers in turn, from a first one on
abbrev pub numbers_from : ℕ → ℕ → List ℕ
numbers_from first zero = []
numbers_from first (suc count) = first ∷ numbers_from (suc first) count

-- the row numbers in their order, where there are so many rows
abbrev pub rows_in : ℕ → RowOrder → List ℕ
rows_in count Rising = numbers_from 0 count
rows_in count (Listed front back) = front.now ++ reverse back.now

-- the entity of a row
abbrev pub entity_at : List Entity → ℕ → Entity
entity_at entities row = get_or entities row (record { index = 0; generation = 0 })

-- these are the row numbers of all these entities, and in their order the ids rise
pub record IsOrderOf (entities : List Entity) (rows : List ℕ) : Type 0 where
  pub within : AllByRecursion (λ row. row < length entities) rows
  pub every : (row : ℕ) → row < length entities → has row rows ≡ true
  pub rising : AreRising (map (entity_at entities) rows)

-- the order is that of these entities, row by row
abbrev pub OrdersRows : List Entity → RowOrder → Type 0
OrdersRows entities order = IsOrderOf entities (rows_in (length entities) order)
