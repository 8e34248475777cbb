-- The numbers of rows by index: where in its table each entity has its row.
use Rattle.std.specs.Prelude.{◌≡◌, ℕ, ◌≤◌, List, length, get_or, Option, Some}
use Rattle.column_store.specs.Order.{AreApart}
use Rattle.column_store.specs.Table.{TableValue}
use Rattle.archetype_store.specs.declared.locations.EntityLocation.{EntityLocation}
use Rattle.archetype_store.specs.Storage.{place_of}
use Rattle.archetype_store.specs.Tables.{entities_at, entity_in_row}

-- the row number of an index
abbrev pub number_of_row : List ℕ → ℕ → ℕ
number_of_row numbers index = get_or numbers index 0

-- what holds of the numbers: the row at an entity's place and number is its, and none is in a table twice
pub record AreRowsKnown (tables : List TableValue) (places : List (Option EntityLocation)) (numbers : List ℕ) : Type 0 where
  pub there : (i : ℕ) (p : EntityLocation) → place_of places i ≡ Some p → entity_in_row tables p.table (number_of_row numbers i) ≡ Some (record { index = i; generation = p.generation })
  pub apart : (t : ℕ) → AreApart (entities_at tables t)
  pub as_many : length places ≤ length numbers
