use Rattle.std.proofs.Common.{◌≡◌, map, ℕ, ◌<◌, get_or, [], false}
use Rattle.model.specs.access.Query.{writes}
use Rattle.schedule_builder.proofs.condition_faults.has_writing.Given as goal

abbrev pub invariant-loop-query : goal.invariant-loop-query
invariant-loop-query l = (k : ℕ) → k < l.query-index → (kind : ℕ) → writes (get_or (map (λ q. q.now) l.queries) k []) kind ≡ false
