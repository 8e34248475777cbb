-- The numbers of the starts of a run, which gates are called with.
use Rattle.std.specs.Prelude.{ℕ, ◌≡◌, ◌+◌, min, List, [], ◌∷◌, ◌++◌}
use Rattle.model.specs.declared.steps.Step.{Step}
use Rattle.model.specs.declared.steps.Step.TheVariants.{Cond, Start, Skip, Finish, Sync}
use Rattle.worker_pool.specs.JobOut.{JobOut}

-- one start more: a number of 64 bits, which stays at the greatest
abbrev pub one_start_more : ℕ → ℕ
one_start_more n = min (n + 1) 18446744073709551615

-- how many systems have started with a step more, and after these steps
abbrev pub starts_with : Step → ℕ → ℕ
starts_with (Cond c answer) n = n
starts_with (Start system) n = one_start_more n
starts_with (Skip system) n = n
starts_with (Finish system) n = n
starts_with (Sync k) n = n

abbrev pub starts_in : List Step → ℕ
starts_in [] = 0
starts_in (step ∷ h) = starts_with step (starts_in h)

-- one system more has started, and its job is out with the number that the starts have by then
pub record IsNextStart {B : Type 0} (before : ℕ) (out : List (JobOut B)) (after : ℕ) (out' : List (JobOut B)) : Type 0 where
  pub job : JobOut B
  pub handed : out' ≡ out ++ job ∷ []
  pub number : job.number ≡ after
  pub counted : after ≡ one_start_more before
