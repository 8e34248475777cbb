-- A resource as the definitions have it.
use Rattle.std.specs.Prelude.{ℕ, List, get_or}
use Rattle.model.specs.state.State.{Resource as ModelResource, no_resource}
use Rattle.archetype_store.specs.declared.resources.Resource.{Resource}

-- the resource that the definitions speak of
abbrev pub resource_of : Resource → ModelResource
resource_of r = record { value = r.value; changed = r.changed }

-- when a resource was last changed
abbrev pub changed_of : List ModelResource → ℕ → ℕ
changed_of resources number = (get_or resources number no_resource).changed
