-- Which archetypes a query matches, as marks, and what is found by them at an index.
use Rattle.std.specs.Prelude.{◌≡◌, ℕ, ◌<◌, Bool, true, false, ◌&&◌, List, length, get_or}
use Rattle.model.specs.Lists.{has}
use Rattle.model.specs.state.State.{Slot, fresh_slot}
use Rattle.model.specs.access.Query.{Term, matches}
use Rattle.model.specs.access.Query.Term.{Added, Changed}
use Rattle.archetype_store.specs.Layout.{Archetype, archetype_at}
use Rattle.query_plan.specs.declared.row.Row.{Row}
use Rattle.query_plan.specs.Standing.{is_row_at, IsStanding}

-- whether a term asks for stamps
abbrev pub asks_stamps : Term → Bool
asks_stamps (Added kind) = true
asks_stamps (Changed kind) = true
asks_stamps _ = false

-- whether a query matches the archetype of a number
abbrev pub matches_at : List Term → List Archetype → ℕ → Bool
matches_at query layout n = matches query (λ kind. has kind (archetype_at layout n).kinds)

-- a mark for each archetype: whether the query matches it
pub record AreMarks (query : List Term) (layout : List Archetype) (marks : List Bool) : Type 0 where
  pub as_many : length marks ≡ length layout
  pub each : (n : ℕ) → n < length layout → get_or marks n false ≡ matches_at query layout n

-- a mark for each archetype: whether its number is among these and the query matches it
pub record AreMarksAmong (query : List Term) (layout : List Archetype) (archetypes : List ℕ) (marks : List Bool) : Type 0 where
  pub as_many : length marks ≡ length layout
  pub each : (n : ℕ) → get_or marks n false ≡ (has n archetypes && matches_at query layout n)

-- a row of the query, whatever the last run, at an index: it is of the index's entity, and stands where it says
pub record IsRowOf (query : List Term) (slots : List Slot) (layout : List Archetype) (i : ℕ) (row : Row) : Type 0 where
  pub is : (last : ℕ) → is_row_at query last slots i ≡ true
  pub whose : row.entity ≡ record { index = i; generation = (get_or slots i fresh_slot).generation }
  pub stands : IsStanding slots layout row
