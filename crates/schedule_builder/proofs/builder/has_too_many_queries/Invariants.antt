use Rattle.std.proofs.Common.{ℕ, ◌<◌, ◌≤◌, length}
use Rattle.model.specs.declarations.Declarations.{declared_at}
use Rattle.schedule_builder.proofs.builder.has_too_many_queries.Given as goal

-- the systems so far have few enough
abbrev pub invariant-loop-number : goal.invariant-loop-number
invariant-loop-number l = (k : ℕ) → k < l.number → length (declared_at l.desc k).params.queries ≤ 8
