use Rattle.std.proofs.Common.{ℕ, ◌<◌}
use Rattle.model.specs.access.Conflict.{ConflictAt}
use Rattle.model.specs.access.Conflict.Datum.{OfEvent}
use Rattle.access_set.proofs.datum.least_event.Given as goal

abbrev pub invariant-loop-event : goal.invariant-loop-event
invariant-loop-event l = (j : ℕ) → j < l.event-index → ConflictAt l.a l.b (OfEvent j) → ⊥
