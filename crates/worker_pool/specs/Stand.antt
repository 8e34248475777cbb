-- Workers that stand, as contracts see them.
use Rattle.std.specs.Prelude.{ℕ, List}
use Rattle.worker_pool.specs.JobOut.{JobOut}

-- the jobs that are out with them, in the order in which they were handed out, how many workers stand, how many more may come to stand, and how many
-- jobs may be out
pub record Stand (B : Type 0) : Type 0 where
  pub jobs : List (JobOut B)
  pub workers : ℕ
  pub hands : ℕ
  pub slots : ℕ
