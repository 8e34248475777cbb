-- The columns that a world lends to the queries of a view, and the world once they have come home.
use Rattle.std.specs.Prelude.{◌≡◌, true, false, cond, List, [], ◌∷◌, ◌++◌, map, Some}
use Rattle.std.specs.List.{AllByRecursion}
use Rattle.archetype_store.specs.declared.columns.TakenColumn.{TakenColumn}
use Rattle.archetype_store.specs.Layout.{Archetype, archetype_at, column_home, with_home}
use Rattle.archetype_store.specs.Slot.{column_cells}
use Rattle.archetype_store.specs.Store.{StoreValue}
use Rattle.body.specs.Columns.{Column, column_after}
use Rattle.body.specs.Sheet.{Sheet}
use Rattle.body.specs.Together.{words_of_sheet}

-- a column as the store knows it
abbrev pub taken_of : Column → TakenColumn
taken_of c = record { archetype = c.archetype; column = record { kind = c.kind; cells = c.cells; room = c.room } }

-- the own columns of a query, which the world lends
abbrev pub lent_of : List Column → List TakenColumn
lent_of [] = []
lent_of (c ∷ cs) = cond c.is_written (taken_of c ∷ lent_of cs) (lent_of cs)

-- those of queries
abbrev pub lent_in : List (List Column) → List TakenColumn
lent_in [] = []
lent_in (cs ∷ others) = lent_of cs ++ lent_in others

-- those of queries, each with what was written there
abbrev pub columns_written : Sheet → List Column
columns_written s = map (column_after s.tick (words_of_sheet s)) s.taken

abbrev pub lent_after : List Sheet → List TakenColumn
lent_after sheets = lent_in (map columns_written sheets)

-- a layout with these columns away, and with them home
abbrev pub with_away : List TakenColumn → List Archetype → List Archetype
with_away [] layout = layout
with_away (c ∷ cs) layout = with_away cs (with_home false c.archetype c.column.kind layout)

abbrev pub with_back : List TakenColumn → List Archetype → List Archetype
with_back [] layout = layout
with_back (c ∷ cs) layout = with_home true c.archetype c.column.kind (with_back cs layout)

-- columns of other places: no two are of one archetype and kind
abbrev pub AreOfOtherPlaces : List TakenColumn → Type 0
AreOfOtherPlaces [] = Unit {0}
AreOfOtherPlaces (c ∷ cs) = AllByRecursion (λ (d : TakenColumn). c.archetype ≡ d.archetype → c.column.kind ≡ d.column.kind → ⊥) cs × AreOfOtherPlaces cs

-- a column that a world lends is away, and has the cells of the world
pub record IsLent (w : StoreValue) (c : TakenColumn) : Type 0 where
  pub away : column_home (archetype_at w.layout c.archetype) c.column.kind ≡ Some false
  pub cells_are : map (λ cell. Some cell) c.column.cells ≡ column_cells w.state.slots (archetype_at w.layout c.archetype).entities c.column.kind

-- a column of a query is of the entities of its archetype
abbrev pub IsOfEntities : StoreValue → Column → Type 0
IsOfEntities w c = c.entities ≡ (archetype_at w.layout c.archetype).entities

-- what a world lends to queries that hold these columns
pub record AreLent (w : StoreValue) (columns : List (List Column)) : Type 0 where
  pub each : AllByRecursion (IsLent w) (lent_in columns)
  pub once : AreOfOtherPlaces (lent_in columns)
  pub entities_are : AllByRecursion (λ (cs : List Column). AllByRecursion (IsOfEntities w) cs) columns
