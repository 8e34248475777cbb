-- What a store has inside: the id book, and the rows of the entities that live.
use Rattle.std.specs.Prelude.{◌≡◌, ℕ, true, List, [], Some, None}
use Rattle.kinds.specs.Components.{widths}
use Rattle.model.specs.state.State.{Slot, Resource}
use Rattle.model.specs.state.Commands.{is_alive}
use Rattle.model.specs.state.Shape.{IsWorld}
use Rattle.entity_table.specs.Rows.{with_rows}
use Rattle.archetype_store.specs.declared.table_index.TableIndex.{TableIndex}
use Rattle.archetype_store.specs.Layout.{layout_of}
use Rattle.archetype_store.specs.Rows.{RowsValue, rows_seen}
use Rattle.archetype_store.specs.Storage.{StorageValue, row_of, holder_of}
use Rattle.archetype_store.specs.Store.{StoreValue}
use Rattle.archetype_store.specs.TableIndex.{IsIndexed}

-- the slots of a book and rows
abbrev pub slots_seen : List Slot → RowsValue → List Slot
slots_seen book v = with_rows (row_of (rows_seen v).rows) book

-- the store that contracts see
abbrev pub store_seen : List Slot → RowsValue → List Resource → ℕ → StoreValue
store_seen book v resources clock = record { state = record { slots = slots_seen book v; resources = resources; clock = clock }; layout = layout_of v.tables }

-- rows of the indices of a book: who has one lives, and an index of which nobody has one has none
pub record HasRows (book : List Slot) (archetypes : StorageValue) : Type 0 where
  pub live : (index generation : ℕ) → holder_of archetypes.holders index ≡ Some generation → is_alive book (record { index = index; generation = generation }) ≡ true
  pub empty : (index : ℕ) → holder_of archetypes.holders index ≡ None → row_of archetypes.rows index ≡ []

-- what holds of the inside: the rows are of the book, tables are found, and the state has the shape of a world
pub record IsStore (book : List Slot) (v : RowsValue) (index : TableIndex) (resources : List Resource) (clock : ℕ) : Type 0 where
  pub held : HasRows book (rows_seen v)
  pub indexed : IsIndexed v.tables index
  pub shape : IsWorld widths (store_seen book v resources clock).state
