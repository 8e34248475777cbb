-- Where two lists differ first.
use Rattle.std.specs.Prelude.{ℕ, ◌≡◌, ◌≢◌, ◌≤◌, ◌⊎◌, List, length, take}
use Rattle.std.specs.List.{slice_get}

-- the first place at which two lists differ: all before it is the same in both, and what stands there is not, or stands in one of them only; or the lists are
-- the same, and it is behind them
pub record IsFirstApart {A : Type 0} (ones others : List A) (place : ℕ) : Type 0 where
  pub within : place ≤ length ones
  pub before : take place ones ≡ take place others
  pub apart : (slice_get ones place ≢ slice_get others place) ⊎ ((place ≡ length ones) × (ones ≡ others))
