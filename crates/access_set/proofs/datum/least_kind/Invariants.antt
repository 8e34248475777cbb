use Rattle.std.proofs.Common.{ℕ, ◌<◌}
use Rattle.model.specs.access.Conflict.{ConflictAt}
use Rattle.model.specs.access.Conflict.Datum.{OfKind}
use Rattle.access_set.proofs.datum.least_kind.Given as goal

abbrev pub invariant-loop-kind : goal.invariant-loop-kind
invariant-loop-kind l = (j : ℕ) → j < l.kind-index → ConflictAt l.a l.b (OfKind j) → ⊥
