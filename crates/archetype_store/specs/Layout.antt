-- How components are laid out: the archetypes that have entities.
use Rattle.std.specs.Prelude.{◌≡◌, ◌≢◌, ℕ, Bool, true, false, cond, ◌==◌, List, [], ◌∷◌, length, get_or, map, Option, Some}
use Rattle.std.specs.List.{list_any, list_all, AllByRecursion}
use Rattle.model.specs.Lists.{is_there, update_at}
use Rattle.model.specs.declared.entities.Entity.{Entity}
use Rattle.model.specs.state.State.{Slot}
use Rattle.model.specs.state.Rows.{row_at}
use Rattle.model.specs.state.Commands.{is_alive}
use Rattle.column_store.specs.Order.{is_same}
use Rattle.column_store.specs.Kinds.{AreBelow, at_kind, update_kind}
use Rattle.column_store.specs.Table.{TableValue, is_home}

-- an archetype: its kinds, its entities in the order of the rows, and of each kind whether its column is at home
pub record Archetype : Type 0 where
  pub kinds : List ℕ
  pub entities : List Entity
  pub homes : List Bool

-- the archetype of a table
abbrev pub archetype_of : TableValue → Archetype
archetype_of t = record { kinds = t.kinds; entities = map (λ row. row.entity) t.rows; homes = map is_home t.standings }

-- the archetypes of the tables that have rows, in their order
abbrev pub layout_of : List TableValue → List Archetype
layout_of [] = []
layout_of (t ∷ ts) = cond (is_there t.rows) (archetype_of t ∷ layout_of ts) (layout_of ts)

-- the archetype of a number: past the end one without kinds and entities
abbrev pub archetype_at : List Archetype → ℕ → Archetype
archetype_at layout n = get_or layout n (record { kinds = []; entities = []; homes = [] })

-- whether an entity is in an archetype
abbrev pub is_in_archetype : Entity → Archetype → Bool
is_in_archetype e a = list_any (λ x. is_same x e) a.entities

-- whether the column of a kind of an archetype is at home, where there is one
abbrev pub column_home : Archetype → ℕ → Option Bool
column_home a kind = at_kind a.kinds kind a.homes

-- the archetype with the column of a kind at home, or away
abbrev pub with_column : Bool → ℕ → Archetype → Archetype
with_column home kind a = record { kinds = a.kinds; entities = a.entities; homes = update_kind a.kinds kind (λ _. home) a.homes }

-- the layout with a column at home, or away
abbrev pub with_home : Bool → ℕ → ℕ → List Archetype → List Archetype
with_home home n kind layout = update_at n (with_column home kind) layout

-- all columns are at home
abbrev pub AreAllHome : List Archetype → Type 0
AreAllHome layout = AllByRecursion (λ a. list_all (λ home. home) a.homes ≡ true) layout

-- whether an entity of an index is among these
abbrev pub has_index : ℕ → List Entity → Bool
has_index index entities = list_any (λ e. e.index == index) entities

-- the column of a kind is at home in the archetype in which an entity of this index is, where there is one: it may be read for it
abbrev pub IsCellHome : List Archetype → ℕ → ℕ → Type 0
IsCellHome layout index kind = (n : ℕ) → has_index index (archetype_at layout n).entities ≡ true → column_home (archetype_at layout n) kind ≢ Some false

-- all columns of that archetype are
abbrev pub IsRowHome : List Archetype → ℕ → Type 0
IsRowHome layout index = (n : ℕ) → has_index index (archetype_at layout n).entities ≡ true → list_all (λ home. home) (archetype_at layout n).homes ≡ true

-- kinds rise and are at least one, and each has a column
pub record IsShape {A : Type 0} (kinds : List ℕ) (columns : List A) : Type 0 where
  pub below : AreBelow kinds
  pub some : kinds ≢ []
  pub each : length columns ≡ length kinds

-- what holds of each archetype: it has a shape, and an entity
pub record IsArchetype (a : Archetype) : Type 0 where
  pub shape : IsShape a.kinds a.homes
  pub peopled : is_there a.entities ≡ true

-- no two archetypes have the same kinds
abbrev pub AreOfOtherKinds : List Archetype → Type 0
AreOfOtherKinds [] = Unit {0}
AreOfOtherKinds (a ∷ others) = AllByRecursion (λ b. a.kinds ≢ b.kinds) others × AreOfOtherKinds others

-- the layout is that of the slots: who is in an archetype lives with just its kinds, who lives with components is in one, none is
-- without entities, and no two have the same kinds
pub record IsLayoutOf (slots : List Slot) (layout : List Archetype) : Type 0 where
  pub theirs : (n : ℕ) (e : Entity) → is_in_archetype e (archetype_at layout n) ≡ true →
      (is_alive slots e ≡ true) × (map (λ c. c.kind) (row_at slots e.index) ≡ (archetype_at layout n).kinds)
  pub every : (e : Entity) → is_alive slots e ≡ true → is_there (row_at slots e.index) ≡ true →
      (n : ℕ) × (is_in_archetype e (archetype_at layout n) ≡ true)
  pub each : AllByRecursion IsArchetype layout
  pub unlike : AreOfOtherKinds layout
