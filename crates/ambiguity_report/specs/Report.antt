-- The report of a schedule: each two systems that conflict with neither before the other, and each condition and system that conflict
-- where the system is no member, nor before every member, nor after any.
use Rattle.std.specs.Prelude.{ℕ, ◌<◌, ◌≡◌, ◌⊎◌, List, [], ◌∷◌, Some}
use Rattle.std.specs.List.{AllByRecursion}
use Rattle.model.specs.Lists.{IsIn}
use Rattle.model.specs.access.Conflict.{IsLeastDatum}
use Rattle.model.specs.steps.Schedule.{Schedule, params_of}
use Rattle.access_set.specs.Datum.{datum_of}
use Rattle.ambiguity_report.specs.declared.races.Racer.{Racer}
use Rattle.ambiguity_report.specs.declared.races.Racer.TheVariants.{System, Condition}
use Rattle.ambiguity_report.specs.declared.report.Pair.{Pair}
use Rattle.ambiguity_report.specs.Races.{IsRace, access_of_racer, is_silenced_with}

-- two numbers come before two others: by the first, and by the second where the first are the same
abbrev pub IsBelow : ℕ → ℕ → ℕ → ℕ → Type 0
IsBelow i j m n = (i < m) ⊎ ((i ≡ m) × (j < n))

-- what races and the system come before two others: two systems before a condition and a system, then by their numbers
abbrev pub IsAhead : Racer → ℕ → Racer → ℕ → Type 0
IsAhead (System i) j (System m) n = IsBelow i j m n
IsAhead (System i) j (Condition m) n = Unit {0}
IsAhead (Condition i) j (System m) n = ⊥
IsAhead (Condition i) j (Condition m) n = IsBelow i j m n

-- a pair comes before another
abbrev pub IsEarlier : Pair → Pair → Type 0
IsEarlier p q = IsAhead p.first p.second q.first q.second

-- each pair comes before all behind it
abbrev pub IsRising : List Pair → Type 0
IsRising [] = Unit {0}
IsRising (p ∷ pairs) = AllByRecursion (IsEarlier p) pairs × IsRising pairs

-- what races and a system, the least datum on which they conflict, and whether they are declared to be ambiguous
pub record IsTold (s : Schedule) (p : Pair) : Type 0 where
  pub race : IsRace s p.first p.second
  pub least : IsLeastDatum (access_of_racer s p.first) (params_of s p.second) (Some (datum_of p.datum))
  pub silenced : p.silenced ≡ is_silenced_with s p.first p.second

-- the pair of what races and a system is among these
abbrev pub IsListed : Racer → ℕ → List Pair → Type 0
IsListed r n pairs = (p : Pair) × IsIn p pairs × (p.first ≡ r) × (p.second ≡ n)

-- the report: each of its pairs races, each pair that races is in it, and they rise, so that none is in it twice
pub record IsReport (s : Schedule) (pairs : List Pair) : Type 0 where
  pub rising : IsRising pairs
  pub told : (p : Pair) → IsIn p pairs → IsTold s p
  pub whole : (r : Racer) (n : ℕ) → IsRace s r n → IsListed r n pairs

-- the front of the report, of the pairs ahead of two
pub record IsReportTo (s : Schedule) (r : Racer) (n : ℕ) (pairs : List Pair) : Type 0 where
  pub rising : IsRising pairs
  pub told : (p : Pair) → IsIn p pairs → IsTold s p
  pub ahead : (p : Pair) → IsIn p pairs → IsAhead p.first p.second r n
  pub whole : (q : Racer) (j : ℕ) → IsAhead q j r n → IsRace s q j → IsListed q j pairs
