-- Columns of several archetypes that leave the store, are read elsewhere too, and come home.
use Rattle.std.specs.Prelude.{◌≡◌, ℕ, true, false, List, [], ◌∷◌, length, map, Some}
use Rattle.std.specs.List.{AllByRecursion}
use Rattle.std.specs.Arc.{arc_value}
use Rattle.kinds.specs.Kind.{kind_number}
use Rattle.model.specs.Lists.{has}
use Rattle.model.specs.state.State.{Slot}
use Rattle.column_store.specs.Column.{ColumnCells}
use Rattle.archetype_store.specs.declared.columns.ColumnAt.{ColumnAt}
use Rattle.archetype_store.specs.declared.columns.TakenColumn.{TakenColumn}
use Rattle.archetype_store.specs.declared.columns.SharedColumn.{SharedColumn}
use Rattle.archetype_store.specs.Layout.{Archetype, archetype_at, column_home, with_home, AreAllHome, IsLayoutOf}
use Rattle.archetype_store.specs.Slot.{column_cells}
use Rattle.archetype_store.specs.Store.{StoreValue, homed_in, IsPast}

-- each is at home, and none is named twice
abbrev pub CanTake : List Archetype → List ColumnAt → Type 0
CanTake layout [] = Unit {0}
CanTake layout (p ∷ ps) = (column_home (archetype_at layout p.archetype) (kind_number p.kind) ≡ Some true) × CanTake (with_home false p.archetype (kind_number p.kind) layout) ps

-- each is at home
abbrev pub CanShare : List Archetype → List ColumnAt → Type 0
CanShare layout columns = AllByRecursion (λ p. column_home (archetype_at layout p.archetype) (kind_number p.kind) ≡ Some true) columns

-- the layout with all of these away
abbrev pub all_away : List ColumnAt → List Archetype → List Archetype
all_away [] layout = layout
all_away (p ∷ ps) layout = all_away ps (with_home false p.archetype (kind_number p.kind) layout)

-- a column is the one of an archetype's kind
pub record IsColumn (slots : List Slot) (layout : List Archetype) (p : ColumnAt) (archetype : ℕ) (column : ColumnCells) : Type 0 where
  pub archetype_is : archetype ≡ p.archetype
  pub kind_is : column.kind ≡ kind_number p.kind
  pub cells_are : map (λ cell. Some cell) column.cells ≡ column_cells slots (archetype_at layout p.archetype).entities (kind_number p.kind)

-- these are the columns named, in order
abbrev pub AreTaken : List Slot → List Archetype → List ColumnAt → List TakenColumn → Type 0
AreTaken slots layout [] [] = Unit {0}
AreTaken slots layout [] (c ∷ cs) = ⊥
AreTaken slots layout (p ∷ ps) [] = ⊥
AreTaken slots layout (p ∷ ps) (c ∷ cs) = IsColumn slots layout p c.archetype c.column × AreTaken slots layout ps cs

abbrev pub AreShared : List Slot → List Archetype → List ColumnAt → List SharedColumn → Type 0
AreShared slots layout [] [] = Unit {0}
AreShared slots layout [] (c ∷ cs) = ⊥
AreShared slots layout (p ∷ ps) [] = ⊥
AreShared slots layout (p ∷ ps) (c ∷ cs) = IsColumn slots layout p c.archetype (arc_value c.column) × AreShared slots layout ps cs

-- the store with these columns home again
abbrev pub all_home : List TakenColumn → StoreValue → StoreValue
all_home [] w = w
all_home (c ∷ cs) w = homed_in (all_home cs w) c.archetype c.column.kind c.column.cells

-- a column is away, and has a cell with past stamps for each entity of its archetype
pub record IsAway (w : StoreValue) (c : TakenColumn) : Type 0 where
  pub away : column_home (archetype_at w.layout c.archetype) c.column.kind ≡ Some false
  pub same_length : length c.column.cells ≡ length (archetype_at w.layout c.archetype).entities
  pub past : AllByRecursion (IsPast w.state.clock) c.column.cells

-- these columns are away, none of them twice
abbrev pub CanComeHome : List TakenColumn → StoreValue → Type 0
CanComeHome [] w = Unit {0}
CanComeHome (c ∷ cs) w = CanComeHome cs w × IsAway (all_home cs w) c

-- where all columns are at home, that of each kind of an archetype is
abbrev pub KindsAreHome : Type 0
KindsAreHome = (slots : List Slot) (layout : List Archetype) (n kind : ℕ) → IsLayoutOf slots layout → AreAllHome layout → has kind (archetype_at layout n).kinds ≡ true →
    column_home (archetype_at layout n) kind ≡ Some true
