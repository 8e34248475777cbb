use Rattle.std.proofs.Common.{ℕ, ◌<◌}
use Rattle.model.specs.declarations.Refusals.{RepeatsName}
use Rattle.schedule_builder.proofs.names.first_repeated.Given as goal

abbrev pub invariant-loop-number : goal.invariant-loop-number
invariant-loop-number l = (m : ℕ) → m < l.number → RepeatsName l.desc m → ⊥
