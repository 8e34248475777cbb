-- Queries of which none is at fault.
use Rattle.std.proofs.Common.{◌≡◌, ℕ, zero, suc, List, [], ◌∷◌, None, length, get_or, refl, arith}
use Rattle.model.specs.access.Query.{Term}
use Rattle.model.specs.access.QueryFaults.{query_fault}
use Rattle.schedule_builder.specs.Queries.{AreGoodBelow}

-- past the last query there is none
pub good_at : (queries : List (List Term)) → AreGoodBelow queries (length queries) → (k : ℕ) → query_fault (get_or queries k []) ≡ None
good_at [] good k = refl
good_at (q ∷ queries) good zero = good zero (omega arith)
good_at (q ∷ queries) good (suc k) = good_at queries (λ j l. good (suc j) (omega arith)) k
