-- The queries of a view together, and what the columns that they give back are to a store.
use Rattle.std.specs.Prelude.{ℕ, ℤ, ◌≡◌, true, List, map, slice_get, Option, Some, option_map}
use Rattle.model.specs.declared.entities.Entity.{Entity}
use Rattle.model.specs.state.State.{Cell, Slot}
use Rattle.model.specs.state.Rows.{cell_at}
use Rattle.model.specs.access.Query.{Term, writes}
use Rattle.model.specs.shown.Input.{ShownRow, words_of, shown_row}
use Rattle.model.specs.shown.Outcome.{words_in_query, words_written}
use Rattle.model.specs.shown.Overlay.{cell_after}
use Rattle.query_plan.specs.declared.row.Row.{Row}
use Rattle.body.specs.Columns.{Column, cells_after, column_after}
use Rattle.body.specs.Seen.{fetches}
use Rattle.body.specs.Sheet.{Sheet, seen_at, row_of, IsReached, WritesReach}

-- the words written through one query, and through all
abbrev pub words_of_sheet : Sheet → ℕ → ℕ → Option (List ℤ)
words_of_sheet s = words_in_query s.terms s.rows s.cells

abbrev pub words_of_all : List Sheet → ℕ → ℕ → Option (List ℤ)
words_of_all sheets = words_written (map (λ (s : Sheet). s.terms) sheets) (map (λ (s : Sheet). s.rows) sheets) (map (λ (s : Sheet). s.cells) sheets)

-- no other query that writes the kind of a column of this one has a row at an entity of that column
abbrev pub IsAlone : List Sheet → ℕ → Sheet → Type 0
IsAlone sheets n s = (j : ℕ) (column : Column) → slice_get s.taken j ≡ Some column → (place : ℕ) (e : Entity) → slice_get column.entities place ≡ Some e →
    (m : ℕ) (t : Sheet) → slice_get sheets m ≡ Some t → (m ≡ n → ⊥) → writes t.terms column.kind ≡ true → (r : ℕ) (row : ShownRow) → slice_get t.rows r ≡ Some row → row.entity.index ≡ e.index → ⊥

-- the columns of a query after its own writes are those after the writes of all
abbrev pub CloseTogether : Type 0
CloseTogether = (sheets : List Sheet) (n : ℕ) (s : Sheet) → slice_get sheets n ≡ Some s → IsAlone sheets n s → map (column_after s.tick (words_of_sheet s)) s.taken ≡ map (column_after s.tick (words_of_all sheets)) s.taken

-- where what each query writes reaches one of its columns, what is written through all reaches a column of one of them
pub record IsReachedIn (sheets : List Sheet) (index number : ℕ) : Type 0 where
  pub query : ℕ
  pub sheet : Sheet
  pub there : slice_get sheets query ≡ Some sheet
  pub reached : IsReached sheet.taken index number

abbrev pub ReachTogether : Type 0
ReachTogether = (sheets : List Sheet) → ((n : ℕ) (s : Sheet) → slice_get sheets n ≡ Some s → WritesReach (words_of_sheet s) s.taken) →
    (index kind : ℕ) (w : List ℤ) → words_of_all sheets index kind ≡ Some w → IsReachedIn sheets index kind

-- a row shows of an index what the definitions show of its slot, where its cells have the slot's words at each kind that is fetched
abbrev pub RowsAreShown : Type 0
RowsAreShown = (terms : List Term) (slots : List (List (Option ℕ))) (taken : List Column) (row : Row) (index : ℕ) (slot : Slot) → row.entity ≡ record { index = index; generation = slot.generation } →
    ((kind : ℕ) → fetches terms kind ≡ true → words_of (seen_at slots taken row kind) ≡ words_of (cell_at slot.row kind)) → row_of slots taken terms row ≡ shown_row terms index slot

-- where a column was taken with the cells that a store has of its entities, it is given back with these after the writes
abbrev pub CellsAreAfter : Type 0
CellsAreAfter = (tick : ℕ) (words : ℕ → ℕ → Option (List ℤ)) (kind : ℕ) (entities : List Entity) (cells : List Cell) (stored : Entity → Option Cell) → map (λ cell. Some cell) cells ≡ map stored entities →
    map (λ cell. Some cell) (cells_after tick words kind entities cells) ≡ map (λ e. option_map (cell_after tick (words e.index kind)) (stored e)) entities
