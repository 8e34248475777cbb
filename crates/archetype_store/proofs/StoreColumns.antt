-- The columns of a store, by the archetypes that contracts see.
use Rattle.archetype_store.proofs.Common.{◌≡◌, ◌≤◌, ℕ, Bool, Some, List, length, ap, ◌∙◌, Slot, AreRows, IsStore, IsTableOf, RowsValue, StoreValue, archetype_at, cells_at, column_cells, column_home, layout_of, rows_seen, store_seen}
use Rattle.model.specs.state.State.{Resource}
use Rattle.archetype_store.specs.declared.table_index.TableIndex.{TableIndex}
use Rattle.archetype_store.proofs.ArchetypeColumns.{no_column, column_seen}
use Rattle.archetype_store.proofs.ColumnSlots.{cells_seen}
use Rattle.archetype_store.proofs.TableLayouts.{laid_out}

module _ {book : List Slot} {v : RowsValue} {index : TableIndex} {resources : List Resource} {clock : ℕ} (h : IsStore book v index resources clock) (x : StoreValue) (seen : store_seen book v resources clock ≡ x) (n k : ℕ) where
  -- whether it is at home
  pub column_is : (b : Bool) → column_home (archetype_at x.layout n) k ≡ Some b → column_home (archetype_at (layout_of v.tables) n) k ≡ Some b
  column_is b home = ap (λ (y : StoreValue). column_home (archetype_at y.layout n) k) seen ∙ home

  pub column_there : (b : Bool) → column_home (archetype_at x.layout n) k ≡ Some b → length (layout_of v.tables) ≤ n → ⊥
  column_there b home past = no_column (layout_of v.tables) n k b past (column_is b home)

  -- its cells
  pub cells_are : (t : ℕ) → IsTableOf v.tables n t → AreRows v → cells_at v.tables t k ≡ column_cells x.state.slots (archetype_at x.layout n).entities k
  cells_are t at known = column_seen v.tables v.places known.whole n t at k (known.apart t) ∙ cells_seen book (rows_seen v) h.held (laid_out v.tables v.places known.whole) n k
      ∙ ap (λ (y : StoreValue). column_cells y.state.slots (archetype_at y.layout n).entities k) seen
