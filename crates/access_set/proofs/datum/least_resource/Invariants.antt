use Rattle.std.proofs.Common.{ℕ, ◌<◌}
use Rattle.model.specs.access.Conflict.{ConflictAt}
use Rattle.model.specs.access.Conflict.Datum.{OfResource}
use Rattle.access_set.proofs.datum.least_resource.Given as goal

abbrev pub invariant-loop-resource : goal.invariant-loop-resource
invariant-loop-resource l = (j : ℕ) → j < l.resource-index → ConflictAt l.a l.b (OfResource j) → ⊥
