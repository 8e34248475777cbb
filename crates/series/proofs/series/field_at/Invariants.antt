use Rattle.std.proofs.Common.{◌≡◌, drop, map}
use Rattle.archetype_store.specs.Row.{component_of}
use Rattle.series.specs.Values.{field_in}
use Rattle.series.proofs.series.field_at.Given as goal

-- none so far is of the kind
abbrev pub invariant-loop-stored : goal.invariant-loop-stored
invariant-loop-stored l = field_in l.fn.field (map component_of l.components) ≡ field_in l.fn.field (map component_of (drop l.stored-index l.components))
