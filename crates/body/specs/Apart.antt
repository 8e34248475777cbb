-- Queries of one system that don't conflict leave each other's columns alone.
use Rattle.std.specs.Prelude.{ℕ, ◌≡◌, true, List, slice_get, Some}
use Rattle.std.specs.List.{AllByRecursion}
use Rattle.model.specs.Lists.{has}
use Rattle.model.specs.state.State.{Slot}
use Rattle.model.specs.access.Query.{Term, matches, touches}
use Rattle.model.specs.access.Conflict.{QueriesConflictAt}
use Rattle.model.specs.shown.Input.{rows_of}
use Rattle.archetype_store.specs.Layout.{Archetype, archetype_at, IsLayoutOf}
use Rattle.body.specs.Columns.{Column}
use Rattle.body.specs.Sheet.{Sheet}
use Rattle.body.specs.Together.{IsAlone}

-- a column that a query picks: of an archetype that it matches, of a kind there that it touches
pub record IsPicked (terms : List Term) (layout : List Archetype) (column : Column) : Type 0 where
  pub entities_are : column.entities ≡ (archetype_at layout column.archetype).entities
  pub matched : matches terms (λ kind. has kind (archetype_at layout column.archetype).kinds) ≡ true
  pub held : has column.kind (archetype_at layout column.archetype).kinds ≡ true
  pub touched : touches terms column.kind ≡ true

-- a query of a view over a store: its rows are those of the definitions, and its columns are picked
pub record IsOver (slots : List Slot) (layout : List Archetype) (last : ℕ) (s : Sheet) : Type 0 where
  pub rows_are : s.rows ≡ rows_of s.terms last slots
  pub columns_are : AllByRecursion (IsPicked s.terms layout) s.taken

-- where no other query conflicts with one, none that writes the kind of one of its columns has a row at an entity there
abbrev pub ApartAreAlone : Type 0
ApartAreAlone = (slots : List Slot) (layout : List Archetype) (last : ℕ) (sheets : List Sheet) (n : ℕ) (s : Sheet) → IsLayoutOf slots layout → slice_get sheets n ≡ Some s →
    ((m : ℕ) (t : Sheet) → slice_get sheets m ≡ Some t → IsOver slots layout last t) →
    ((m : ℕ) (t : Sheet) → slice_get sheets m ≡ Some t → (m ≡ n → ⊥) → (kind : ℕ) → QueriesConflictAt s.terms t.terms kind → ⊥) → IsAlone sheets n s
