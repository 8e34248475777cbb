-- What two accesses meet on, as the definitions have it; its name; and the least number with a property.
use Rattle.std.specs.Prelude.{ℕ, ◌<◌, ◌≡◌, true, List, Option, Some, None}
use Rattle.kinds.specs.Kind.{kind_number, kind_name, kind_count}
use Rattle.kinds.specs.Res.{res_number, res_name, event_number, event_name}
use Rattle.model.specs.access.Query.{Term, touches}
use Rattle.model.specs.access.Conflict.{Datum as ModelDatum}
use Rattle.model.specs.access.Conflict.Datum.{OfKind, OfResource, OfEvent}
use Rattle.access_set.specs.declared.datum.Datum.{Datum}
use Rattle.access_set.specs.declared.datum.Datum.TheVariants.{Kind, Resource, Event}

-- the datum that the definitions speak of
abbrev pub datum_of : Datum → ModelDatum
datum_of (Kind kind) = OfKind (kind_number kind)
datum_of (Resource resource) = OfResource (res_number resource)
datum_of (Event event) = OfEvent (event_number event)

-- its name
abbrev pub datum_name : Datum → List ℕ
datum_name (Kind kind) = kind_name kind
datum_name (Resource resource) = res_name resource
datum_name (Event event) = event_name event

-- the least number with a property, or that none has it
abbrev pub IsLeastAt : (ℕ → Type 0) → Option ℕ → Type 0
IsLeastAt P None = (n : ℕ) → P n → ⊥
IsLeastAt P (Some n) = P n × ((m : ℕ) → m < n → P m → ⊥)

-- what a query touches has the number of a kind
abbrev pub AreKnownKinds : List Term → Type 0
AreKnownKinds query = (kind : ℕ) → touches query kind ≡ true → kind < kind_count
