use Rattle.std.proofs.Common.{ℕ, ◌<◌, length, subst}
use Rattle.model.specs.access.SelfConflict.{ConflictWithin}
use Rattle.model.specs.steps.Schedule.{Schedule, params_of}
use Rattle.schedule_builder.proofs.built.Built.prove_apart.Goals as goal

pub returns : goal.returns
returns c = subst (λ (s : Schedule). (n : ℕ) → n < length s.systems → ConflictWithin (params_of s n) → ⊥) c.self.view_is c.self.invariant.3.apart
