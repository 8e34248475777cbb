-- A query of a view over columns: what its rows show is a function of the columns as they were taken, and what was written is what has the
-- tick of the start as its changed stamp.
use Rattle.std.specs.Prelude.{ℕ, ℤ, ◌<◌, ◌≡◌, ◌==◌, ◌⊎◌, true, cond, List, [], ◌∷◌, map, length, get_or, slice_get, Option, Some, None, IsSome}
use Rattle.std.specs.List.{AllByRecursion}
use Rattle.model.specs.Lists.{update_at}
use Rattle.model.specs.declared.entities.Entity.{Entity}
use Rattle.model.specs.state.State.{Cell}
use Rattle.model.specs.access.Query.{Term, written, writes}
use Rattle.model.specs.access.QueryFaults.{fetched}
use Rattle.model.specs.shown.Input.{ShownRow, words_of}
use Rattle.query_plan.specs.declared.row.Row.{Row}
use Rattle.body.specs.Columns.{Column, cell_in, AreFresh}
use Rattle.body.specs.Seen.{fetches}

-- ---- where a row's components are

-- the column of a kind in an archetype, the cell there, and the cell of a kind in a row
abbrev pub slot_in : List (List (Option ℕ)) → ℕ → ℕ → Option ℕ
slot_in slots archetype kind = get_or (get_or slots archetype []) kind None

abbrev pub slot_cell : Option ℕ → List Column → ℕ → Option Cell
slot_cell None columns place = None
slot_cell (Some j) columns place = cell_in columns j place

abbrev pub seen_at : List (List (Option ℕ)) → List Column → Row → ℕ → Option Cell
seen_at slots columns row kind = slot_cell (slot_in slots row.archetype kind) columns row.place

-- the columns with one changed
abbrev pub at_slot : Option ℕ → (Column → Column) → List Column → List Column
at_slot None f columns = columns
at_slot (Some j) f columns = update_at j f columns

-- ---- what a row shows, and what was written in it

-- the words of a cell that was written at a tick
abbrev pub words_at : ℕ → Option Cell → Option (List ℤ)
words_at tick None = None
words_at tick (Some c) = cond (c.changed == tick) (Some c.words) None

-- the words of a kind, where there is one
abbrev pub words_for : Option ℕ → (ℕ → Option (List ℤ)) → Option (List ℤ)
words_for None words = None
words_for (Some kind) words = words kind

abbrev pub row_of : List (List (Option ℕ)) → List Column → List Term → Row → ShownRow
row_of slots columns terms row = record { entity = row.entity; values = map (λ term. words_for (fetched term) (λ kind. words_of (seen_at slots columns row kind))) terms }

-- words without those of a kind
abbrev pub without_kind : Option ℕ → (ℕ → Option (List ℤ)) → ℕ → Option (List ℤ)
without_kind None words kind = words kind
without_kind (Some m) words kind = cond (kind == m) None (words kind)

-- the words of each kind, at the first term that writes it
abbrev pub written_in : (ℕ → Option (List ℤ)) → List Term → List (Option (List ℤ))
written_in words [] = []
written_in words (t ∷ ts) = words_for (written t) words ∷ written_in (without_kind (written t) words) ts

abbrev pub written_of : ℕ → List (List (Option ℕ)) → List Column → List Term → Row → List (Option (List ℤ))
written_of tick slots columns terms row = written_in (λ kind. words_at tick (seen_at slots columns row kind)) terms

-- a query of a view: its terms, its rows, what was written in each, its columns as they were taken, the tick of its writes, and where its rows
-- stand
pub record Sheet : Type 0 where
  pub terms : List Term
  pub rows : List ShownRow
  pub cells : List (List (Option (List ℤ)))
  pub taken : List Column
  pub tick : ℕ
  pub places : List Row

abbrev pub sheet_of : ℕ → List Term → List (List (Option ℕ)) → List Row → List Column → List Column → Sheet
sheet_of tick terms slots rows taken columns = record {
  terms = terms;
  rows = map (row_of slots taken terms) rows;
  cells = map (written_of tick slots columns terms) rows;
  taken = taken;
  tick = tick;
  places = rows;
}

-- ---- what a query opens over

-- a slot names a column of its archetype and kind, which is fetched, and is an own column where it is written
pub record IsSlot (terms : List Term) (taken : List Column) (number kind j : ℕ) : Type 0 where
  pub column : Column
  pub there : slice_get taken j ≡ Some column
  pub archetype_is : column.archetype ≡ number
  pub kind_is : column.kind ≡ kind
  pub fetched_is : fetches terms kind ≡ true
  pub written_is : writes terms kind ≡ true → column.is_written ≡ true

abbrev pub AreSlots : List Term → List (List (Option ℕ)) → List Column → Type 0
AreSlots terms slots taken = (archetype kind j : ℕ) → slot_in slots archetype kind ≡ Some j → IsSlot terms taken archetype kind j

-- a row stands in an archetype of the query: the columns have its place, and it has what the query writes
pub record IsRow (terms : List Term) (slots : List (List (Option ℕ))) (taken : List Column) (row : Row) : Type 0 where
  pub within : row.archetype < length slots
  pub readable : (kind j : ℕ) → slot_in slots row.archetype kind ≡ Some j → IsSome (cell_in taken j row.place)
  pub writable : (kind : ℕ) → writes terms kind ≡ true → IsSome (slot_in slots row.archetype kind)

-- no two rows stand at one place
abbrev pub IsElsewhere : Row → Row → Type 0
IsElsewhere row other = row.archetype ≡ other.archetype → row.place ≡ other.place → ⊥

abbrev pub AreApart : List Row → Type 0
AreApart [] = Unit {0}
AreApart (row ∷ rows) = AllByRecursion (IsElsewhere row) rows × AreApart rows

-- the columns have as many entities as cells, no two are of one archetype and kind, a row's entity stands at its place, and its index
-- nowhere else
pub record ArePlaced (slots : List (List (Option ℕ))) (rows : List Row) (taken : List Column) : Type 0 where
  pub peopled : (j : ℕ) (column : Column) → slice_get taken j ≡ Some column → length column.entities ≡ length column.cells
  pub unlike : (i j : ℕ) (one other : Column) → slice_get taken i ≡ Some one → slice_get taken j ≡ Some other → one.archetype ≡ other.archetype → one.kind ≡ other.kind → i ≡ j
  pub there : (r : ℕ) (row : Row) → slice_get rows r ≡ Some row → (kind j : ℕ) → slot_in slots row.archetype kind ≡ Some j → (column : Column) → slice_get taken j ≡ Some column → slice_get column.entities row.place ≡ Some row.entity
  pub alone : (r : ℕ) (row : Row) → slice_get rows r ≡ Some row → (j : ℕ) (column : Column) → slice_get taken j ≡ Some column → (place : ℕ) (e : Entity) → slice_get column.entities place ≡ Some e → e.index ≡ row.entity.index → (column.archetype ≡ row.archetype) × (place ≡ row.place)

-- what a query may open over
pub record IsPlan (tick : ℕ) (terms : List Term) (slots : List (List (Option ℕ))) (rows : List Row) (taken : List Column) : Type 0 where
  pub slots_are : AreSlots terms slots taken
  pub rows_are : AllByRecursion (IsRow terms slots taken) rows
  pub apart : AreApart rows
  pub placed : ArePlaced slots rows taken
  pub fresh : AreFresh tick taken

-- ---- what holds from then on

-- what a view never changes of a column
abbrev pub head_of : Column → Column
head_of c = record { archetype = c.archetype; entities = c.entities; is_written = c.is_written; kind = c.kind; cells = []; room = c.room }

-- a cell was written through a row of the query, of a kind that it writes: its added stamp stays, and it is changed at the tick
pub record IsOverwritten (tick : ℕ) (terms : List Term) (slots : List (List (Option ℕ))) (rows : List Row) (taken columns : List Column) (j i : ℕ) : Type 0 where
  pub at : ℕ
  pub row : Row
  pub row_is : slice_get rows at ≡ Some row
  pub place_is : row.place ≡ i
  pub kind : ℕ
  pub slot_is : slot_in slots row.archetype kind ≡ Some j
  pub written_is : writes terms kind ≡ true
  pub before : Cell
  pub after : Cell
  pub before_is : cell_in taken j i ≡ Some before
  pub after_is : cell_in columns j i ≡ Some after
  pub added_is : after.added ≡ before.added
  pub changed_is : after.changed ≡ tick

abbrev pub AreChanged : ℕ → List Term → List (List (Option ℕ)) → List Row → List Column → List Column → Type 0
AreChanged tick terms slots rows taken columns = (j i : ℕ) → (cell_in columns j i ≡ cell_in taken j i) ⊎ IsOverwritten tick terms slots rows taken columns j i

pub record IsSheet (tick : ℕ) (terms : List Term) (slots : List (List (Option ℕ))) (rows : List Row) (taken columns : List Column) : Type 0 where
  pub slots_are : AreSlots terms slots taken
  pub rows_are : AllByRecursion (IsRow terms slots taken) rows
  pub apart : AreApart rows
  pub placed : ArePlaced slots rows taken
  pub heads : map head_of columns ≡ map head_of taken
  pub changed : AreChanged tick terms slots rows taken columns

-- ---- one row

-- a column that is there, of this kind, has the place
pub record IsThere (columns : List Column) (number j at : ℕ) : Type 0 where
  pub column : Column
  pub there : slice_get columns j ≡ Some column
  pub kind_is : column.kind ≡ number
  pub within : at < length column.cells

abbrev pub IsReadableAt : Option ℕ → List Column → ℕ → ℕ → Type 0
IsReadableAt None columns kind place = Unit {0}
IsReadableAt (Some j) columns kind place = IsThere columns kind j place

abbrev pub IsReadable : List (List (Option ℕ)) → List Column → Row → ℕ → Type 0
IsReadable slots columns row kind = IsReadableAt (slot_in slots row.archetype kind) columns kind row.place

-- and may be written
pub record IsOwnThere (columns : List Column) (number j at : ℕ) : Type 0 where
  pub column : Column
  pub there : slice_get columns j ≡ Some column
  pub own : column.is_written ≡ true
  pub kind_is : column.kind ≡ number
  pub within : at < length column.cells

abbrev pub IsWritableAt : Option ℕ → List Column → ℕ → ℕ → Type 0
IsWritableAt None columns kind place = ⊥
IsWritableAt (Some j) columns kind place = IsOwnThere columns kind j place

abbrev pub IsWritable : List (List (Option ℕ)) → List Column → Row → ℕ → Type 0
IsWritable slots columns row kind = IsWritableAt (slot_in slots row.archetype kind) columns kind row.place

-- ---- at the end

-- what is written at an index and a kind is written in a column of that kind, which has an entity of that index
pub record IsReached (taken : List Column) (index number : ℕ) : Type 0 where
  pub at : ℕ
  pub column : Column
  pub there : slice_get taken at ≡ Some column
  pub kind_is : column.kind ≡ number
  pub written_is : column.is_written ≡ true
  pub place : ℕ
  pub entity : Entity
  pub entity_is : slice_get column.entities place ≡ Some entity
  pub index_is : entity.index ≡ index

abbrev pub WritesReach : (ℕ → ℕ → Option (List ℤ)) → List Column → Type 0
WritesReach words taken = (index kind : ℕ) (w : List ℤ) → words index kind ≡ Some w → IsReached taken index kind
