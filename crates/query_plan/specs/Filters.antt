-- What the filters of a query tell of the entities of an archetype.
use Rattle.std.specs.Prelude.{◌≡◌, ℕ, true, List, length, slice_get, Some}
use Rattle.std.specs.List.{list_all, AllByRecursion}
use Rattle.model.specs.declared.entities.Entity.{Entity}
use Rattle.model.specs.state.State.{Slot}
use Rattle.model.specs.state.Rows.{row_at}
use Rattle.model.specs.access.Query.{Term}
use Rattle.model.specs.shown.Input.{passes}
use Rattle.model.specs.state.Commands.{is_alive}
use Rattle.query_plan.specs.declared.filter.Filter.{Filter}
use Rattle.query_plan.specs.Standing.{is_newer}

-- the filter of a term among these entities: a component for each, which is newer just where the entity that lives passes
pub record IsFilterOf (slots : List Slot) (entities : List Entity) (term : Term) (filter : Filter) : Type 0 where
  pub same_length : length filter.column.now.cells ≡ length entities
  pub passed : (last place : ℕ) (e : Entity) → slice_get entities place ≡ Some e → is_alive slots e ≡ true →
      is_newer last filter.is_added (slice_get filter.column.now.cells place) ≡ passes last (row_at slots e.index) term

-- the filters of these terms
pub record AreFiltersOf (slots : List Slot) (entities : List Entity) (terms : List Term) (filters : List Filter) : Type 0 where
  pub same_length : AllByRecursion (λ f. length f.column.now.cells ≡ length entities) filters
  pub passed : (last place : ℕ) (e : Entity) → slice_get entities place ≡ Some e → is_alive slots e ≡ true →
      list_all (λ f. is_newer last f.is_added (slice_get f.column.now.cells place)) filters ≡ list_all (passes last (row_at slots e.index)) terms
