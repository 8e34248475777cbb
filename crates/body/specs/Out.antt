-- What the systems that run hold of a world: the columns that they write.
use Rattle.std.specs.Prelude.{ℕ, ◌≡◌, true, false, List, Option, Some}
use Rattle.model.specs.Lists.{has, IsIn}
use Rattle.model.specs.access.Access.{Params}
use Rattle.model.specs.access.Meeting.{Meet}
use Rattle.model.specs.access.Query.{Term, matches, writes}
use Rattle.archetype_store.specs.declared.columns.TakenColumn.{TakenColumn}
use Rattle.archetype_store.specs.Layout.{Archetype, archetype_at, column_home}
use Rattle.archetype_store.specs.Store.{StoreValue}
use Rattle.body.specs.Columns.{Column}
use Rattle.body.specs.Lent.{lent_in, AreLent}

-- a column that queries write: of an archetype that one of them matches, of a kind there that it writes
pub record IsWrittenBy (queries : List (List Term)) (layout : List Archetype) (c : TakenColumn) : Type 0 where
  pub query : List Term
  pub declared : IsIn query queries
  pub matched : matches query (λ kind. has kind (archetype_at layout c.archetype).kinds) ≡ true
  pub held : has c.column.kind (archetype_at layout c.archetype).kinds ≡ true
  pub writing : writes query c.column.kind ≡ true

-- one of these columns is of this place
pub record IsPlaceOf (columns : List TakenColumn) (n number : ℕ) : Type 0 where
  pub column : TakenColumn
  pub among : IsIn column columns
  pub archetype_is : column.archetype ≡ n
  pub kind_is : column.column.kind ≡ number

-- these columns are lent, and none but them is away
pub record AreOut (w : StoreValue) (columns : List (List Column)) : Type 0 where
  pub lent : AreLent w columns
  pub only : (n kind : ℕ) → column_home (archetype_at w.layout n) kind ≡ Some false → IsPlaceOf (lent_in columns) n kind

-- a column that a system writes whose parameters don't meet these, as far as the sets of kinds that may be there tell
pub record IsApartFrom (there : Option (List ℕ)) (params : Params) (layout : List Archetype) (c : TakenColumn) : Type 0 where
  pub other : Params
  pub written : IsWrittenBy other.queries layout c
  pub apart : Meet there other params → ⊥
