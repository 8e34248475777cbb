-- What a list of steps keeps of the order that a schedule asks for.
use Rattle.std.specs.Prelude.{ℕ, ◌<◌, true, false, ◌≡◌, ◌≢◌, ◌⊎◌, List, ◌∷◌, ◌++◌, length}
use Rattle.model.specs.declared.steps.Step.{Step}
use Rattle.model.specs.declared.steps.Step.TheVariants.{Start, Skip, Sync}
use Rattle.model.specs.access.Meeting.{Meet}
use Rattle.model.specs.steps.Schedule.{Schedule, params_of, has_edge, level_of}
use Rattle.model.specs.steps.Lawful.{runs, started, begun, ended, sets_at}
use Rattle.model.specs.steps.Ambiguity.{Before}

-- at each place of the list: no two systems that run together meet, by the kind sets recorded last; what has an edge to a system has ended before that
-- system starts or is skipped; at a sync point its level has ended, no higher level has begun, and nothing runs; and a system
-- that is before another starts first, where both start
pub record KeepsOrder (s : Schedule) (h : List Step) : Type 0 where
  pub apart : (later front : List Step) (m n : ℕ) → h ≡ later ++ front → runs front m ≡ true → runs front n ≡ true → m ≢ n →
      Meet (sets_at s front) (params_of s m) (params_of s n) → ⊥
  pub edges : (later front : List Step) (step : Step) (m n : ℕ) → h ≡ later ++ step ∷ front → (step ≡ Start n) ⊎ (step ≡ Skip n) →
      has_edge s m n ≡ true → ended front m ≡ true
  pub syncs : (later front : List Step) (k n : ℕ) → h ≡ later ++ Sync k ∷ front →
      (n < length s.systems → level_of s n ≡ k → ended front n ≡ true)
      × (k < level_of s n → begun front n ≡ false)
      × (runs front n ≡ true → ⊥)
  pub order : (later front : List Step) (m n : ℕ) → h ≡ later ++ Start n ∷ front → Before s m n → started h m ≡ true → started front m ≡ true
