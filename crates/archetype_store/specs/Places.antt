-- Where the components of an entity are.
use Rattle.std.specs.Prelude.{◌≡◌, ℕ, List, slice_get, Some}
use Rattle.archetype_store.specs.declared.locations.RowPlace.{RowPlace}
use Rattle.archetype_store.specs.Layout.{Archetype, archetype_at}

-- the entity is of an index, and stands at this place of its archetype
pub record IsRowPlace (layout : List Archetype) (i : ℕ) (at : RowPlace) : Type 0 where
  pub whose : at.entity.index ≡ i
  pub there : slice_get (archetype_at layout at.archetype).entities at.place ≡ Some at.entity
