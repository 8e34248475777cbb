-- What a view of an archetype shows.
use Rattle.std.specs.Prelude.{ℕ, List, map}
use Rattle.model.specs.declared.entities.Entity.{Entity}
use Rattle.kinds.specs.Kind.{kind_number}
use Rattle.archetype_store.specs.declared.tables.ArchetypeView.{ArchetypeView}

-- the kinds
abbrev pub kinds_seen : ArchetypeView → List ℕ
kinds_seen view = map kind_number view.kinds.now

-- the entities
abbrev pub entities_seen : ArchetypeView → List Entity
entities_seen view = view.entities.now
