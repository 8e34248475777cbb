-- The columns that are picked, as they are taken of a world: first the own ones, then the shared ones.
use Rattle.std.specs.Prelude.{ℕ, ◌≡◌, true, false, cond, List, [], ◌∷◌, ◌++◌, map, Some}
use Rattle.std.specs.List.{AllByRecursion}
use Rattle.std.specs.Arc.{arc_value}
use Rattle.kinds.specs.Kind.{kind_number}
use Rattle.archetype_store.specs.declared.columns.ColumnAt.{ColumnAt}
use Rattle.archetype_store.specs.declared.columns.TakenColumn.{TakenColumn}
use Rattle.archetype_store.specs.declared.columns.SharedColumn.{SharedColumn}
use Rattle.archetype_store.specs.Layout.{Archetype, archetype_at, column_home}
use Rattle.archetype_store.specs.Lending.{AreTaken, AreShared}
use Rattle.archetype_store.specs.Slot.{column_cells}
use Rattle.archetype_store.specs.Store.{StoreValue}
use Rattle.query_plan.specs.Picks.{Picked}
use Rattle.body.specs.Columns.{Column}

-- where a pick is
pub record Spot : Type 0 where
  pub archetype : ℕ
  pub kind : ℕ

abbrev pub spot_of : Picked → Spot
spot_of p = record { archetype = p.archetype; kind = p.kind }

abbrev pub spot_seen : ColumnAt → Spot
spot_seen at = record { archetype = at.archetype; kind = kind_number at.kind }

-- the picks that are written, and those that aren't
abbrev pub picked_own : List Picked → List Picked
picked_own [] = []
picked_own (p ∷ ps) = cond p.is_written (p ∷ picked_own ps) (picked_own ps)

abbrev pub picked_read : List Picked → List Picked
picked_read [] = []
picked_read (p ∷ ps) = cond p.is_written (picked_read ps) (p ∷ picked_read ps)

-- the columns of picks are at home
abbrev pub AreSpotsHome : List Archetype → List Picked → Type 0
AreSpotsHome layout picks = AllByRecursion (λ (p : Picked). column_home (archetype_at layout p.archetype) p.kind ≡ Some true) picks

-- no two picks are of one archetype and kind
abbrev pub IsOtherSpot : Picked → Picked → Type 0
IsOtherSpot p q = p.archetype ≡ q.archetype → p.kind ≡ q.kind → ⊥

abbrev pub AreOtherSpots : List Picked → Type 0
AreOtherSpots [] = Unit {0}
AreOtherSpots (p ∷ ps) = AllByRecursion (IsOtherSpot p) ps × AreOtherSpots ps

-- a column that was taken, and one that was shared, as a query of a view holds them
abbrev pub own_column : StoreValue → TakenColumn → Column
own_column w c = record { archetype = c.archetype; entities = (archetype_at w.layout c.archetype).entities; is_written = true; kind = c.column.kind; cells = c.column.cells; room = c.column.room }

abbrev pub read_column : StoreValue → SharedColumn → Column
read_column w c = record { archetype = c.archetype; entities = (archetype_at w.layout c.archetype).entities; is_written = false; kind = (arc_value c.column).kind; cells = (arc_value c.column).cells; room = (arc_value c.column).room }

-- a column that was picked, as it is held
pub record IsHeldOf (w : StoreValue) (p : Picked) (column : Column) : Type 0 where
  pub archetype_is : column.archetype ≡ p.archetype
  pub kind_is : column.kind ≡ p.kind
  pub own : column.is_written ≡ p.is_written
  pub entities_are : column.entities ≡ (archetype_at w.layout p.archetype).entities
  pub cells_are : map (λ cell. Some cell) column.cells ≡ column_cells w.state.slots column.entities p.kind

-- the columns of picks, one of each, in order
abbrev pub AreHeldOf : StoreValue → List Picked → List Column → Type 0
AreHeldOf w [] [] = Unit {0}
AreHeldOf w [] (c ∷ cs) = ⊥
AreHeldOf w (p ∷ ps) [] = ⊥
AreHeldOf w (p ∷ ps) (c ∷ cs) = IsHeldOf w p c × AreHeldOf w ps cs

-- the places of picks, as they are asked for: the written ones, and the others
pub record AreRequestsOf (picks : List Picked) (own read : List ColumnAt) : Type 0 where
  pub own_are : map spot_seen own ≡ map spot_of (picked_own picks)
  pub read_are : map spot_seen read ≡ map spot_of (picked_read picks)

-- columns that are held: those taken of a store at these places
pub record AreOwnOf (w : StoreValue) (spots : List ColumnAt) (columns : List Column) : Type 0 where
  pub taken : List TakenColumn
  pub are : AreTaken w.state.slots w.layout spots taken
  pub held : columns ≡ map (own_column w) taken

-- and those before, with those that it shares at these places
pub record AreReadOf (w : StoreValue) (spots : List ColumnAt) (before columns : List Column) : Type 0 where
  pub shared : List SharedColumn
  pub are : AreShared w.state.slots w.layout spots shared
  pub held : columns ≡ before ++ map (read_column w) shared
