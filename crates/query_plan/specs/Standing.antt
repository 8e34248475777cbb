-- The rows of a query by archetype, and what is asked of columns to find them.
use Rattle.std.specs.Prelude.{◌≡◌, ℕ, suc, Bool, true, false, cond, not, nat_lt, ◌&&◌, ◌-◌, ◌⊎◌, List, [], ◌∷◌, length, take, drop, get_or, slice_get, Option, Some}
use Rattle.std.specs.List.{AllByRecursion, list_any}
use Rattle.model.specs.declared.entities.Entity.{Entity}
use Rattle.model.specs.Lists.{has, is_there}
use Rattle.model.specs.state.State.{Cell, Slot, fresh_slot}
use Rattle.model.specs.access.Query.{Term, matches}
use Rattle.model.specs.access.Query.Term.{Added, Changed}
use Rattle.model.specs.shown.Input.{is_row, added_since, changed_since}
use Rattle.column_store.specs.RowOrder.{entity_at}
use Rattle.archetype_store.specs.Layout.{Archetype, archetype_at, column_home, has_index, AreAllHome, IsLayoutOf}
use Rattle.query_plan.specs.declared.row.Row.{Row}
use Rattle.query_plan.specs.Picks.{picks_of}

-- whether an index is a row of a query, for an observer with this last run
abbrev pub is_row_at : List Term → ℕ → List Slot → ℕ → Bool
is_row_at query last slots index = is_row query last (get_or slots index fresh_slot)

-- the rows among the entities at these places in the archetype of a number
abbrev pub rows_among : List Term → ℕ → List Slot → ℕ → List Entity → List ℕ → List Row
rows_among query last slots n entities [] = []
rows_among query last slots n entities (place ∷ places) = cond (is_row_at query last slots (entity_at entities place).index)
    (record { entity = entity_at entities place; archetype = n; place = place } ∷ rows_among query last slots n entities places)
    (rows_among query last slots n entities places)

-- two lists of rows as one, by index. An index that is in both is taken once
abbrev pub merged : List Row → List Row → List Row
merged [] ys = ys
merged (x ∷ xs) [] = x ∷ xs
merged (x ∷ xs) (y ∷ ys) = cond (nat_lt x.entity.index y.entity.index) (x ∷ merged xs (y ∷ ys))
    (cond (nat_lt y.entity.index x.entity.index) (y ∷ merged (x ∷ xs) ys) (x ∷ merged xs ys))

-- the entities of the indices that pass a test, among slots whose first has this index
abbrev pub chosen : (ℕ → Bool) → ℕ → List Slot → List Entity
chosen test index [] = []
chosen test index (slot ∷ slots) = cond (test index) (record { index = index; generation = slot.generation } ∷ chosen test (suc index) slots) (chosen test (suc index) slots)

-- whether an index is that of a row in one of these archetypes
abbrev pub is_row_among : List Term → ℕ → List Slot → List Archetype → ℕ → Bool
is_row_among query last slots archetypes index = list_any (λ a. has_index index a.entities && is_row_at query last slots index) archetypes

-- the archetypes of a layout from a first number up to an end
abbrev pub archetypes_between : ℕ → ℕ → List Archetype → List Archetype
archetypes_between first end layout = take (end - first) (drop first layout)

-- whether a slot is a row without components
abbrev pub is_bare_row : List Term → ℕ → Slot → Bool
is_bare_row query last slot = is_row query last slot && not (is_there slot.row)

-- the rows without components among slots whose first has this index. They have the number n for an archetype
abbrev pub bare_from : List Term → ℕ → ℕ → ℕ → List Slot → List Row
bare_from query last n index [] = []
bare_from query last n index (slot ∷ slots) = cond (is_bare_row query last slot)
    (record { entity = record { index = index; generation = slot.generation }; archetype = n; place = index } ∷ bare_from query last n (suc index) slots)
    (bare_from query last n (suc index) slots)

-- a row stands where it says: at its place in its archetype, or behind all archetypes, at its index, without components
abbrev pub IsStanding : List Slot → List Archetype → Row → Type 0
IsStanding slots layout row = (slice_get (archetype_at layout row.archetype).entities row.place ≡ Some row.entity)
    ⊎ ((row.archetype ≡ length layout) × (row.place ≡ row.entity.index) × (is_there (get_or slots row.entity.index fresh_slot).row ≡ false))

-- ---- the columns that filters read

-- the column whose stamps a term asks for is at home
abbrev pub IsFilterHome : Archetype → Term → Type 0
IsFilterHome a (Added kind) = column_home a kind ≡ Some true
IsFilterHome a (Changed kind) = column_home a kind ≡ Some true
IsFilterHome a _ = Unit {0}

-- in each archetype that the query matches, the columns whose stamps it asks for are at home
abbrev pub AreFiltersHome : List Term → List Archetype → Type 0
AreFiltersHome query layout = (n : ℕ) → matches query (λ kind. has kind (archetype_at layout n).kinds) ≡ true → AllByRecursion (IsFilterHome (archetype_at layout n)) query

-- the columns that a query picks are at home
abbrev pub ArePickedHome : List Term → List Archetype → Type 0
ArePickedHome query layout = AllByRecursion (λ p. column_home (archetype_at layout p.archetype) p.kind ≡ Some true) (picks_of query layout)

-- that they are is enough to ask
abbrev pub PicksTellFilters : Type 0
PicksTellFilters = (query : List Term) (layout : List Archetype) → ArePickedHome query layout → AreFiltersHome query layout

-- where all columns are at home, so are they
abbrev pub HomeTellsPicks : Type 0
HomeTellsPicks = (slots : List Slot) (layout : List Archetype) (query : List Term) → IsLayoutOf slots layout → AreAllHome layout → ArePickedHome query layout

-- whether a cell was added, or changed, after a last run
abbrev pub is_newer : ℕ → Bool → Option Cell → Bool
is_newer last true cell = added_since last cell
is_newer last false cell = changed_since last cell
