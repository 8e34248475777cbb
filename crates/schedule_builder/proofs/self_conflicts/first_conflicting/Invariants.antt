use Rattle.std.proofs.Common.{ℕ, ◌<◌}
use Rattle.model.specs.access.SelfConflict.{ConflictWithin}
use Rattle.model.specs.declarations.Declarations.{declared_at}
use Rattle.schedule_builder.proofs.self_conflicts.first_conflicting.Given as goal

abbrev pub invariant-loop-number : goal.invariant-loop-number
invariant-loop-number l = (m : ℕ) → m < l.number → ConflictWithin (declared_at l.desc m).params → ⊥
