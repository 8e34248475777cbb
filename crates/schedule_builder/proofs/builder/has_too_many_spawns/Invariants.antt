use Rattle.std.proofs.Common.{ℕ, ◌<◌, ◌≤◌}
use Rattle.model.specs.declarations.Refusals.{granted_to}
use Rattle.schedule_builder.proofs.builder.has_too_many_spawns.Given as goal

abbrev pub invariant-loop-number : goal.invariant-loop-number
invariant-loop-number l = (n : ℕ) → n < l.number → granted_to l.desc n ≤ 1024
