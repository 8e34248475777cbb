-- What races with a system: another system, or a run condition.
use Rattle.std.specs.Prelude.{ℕ, ◌<◌, Bool, false, length}
use Rattle.model.specs.access.Access.{Params}
use Rattle.model.specs.steps.Schedule.{Schedule, params_of, access_of, is_silenced}
use Rattle.model.specs.steps.Ambiguity.{Before, IsMember, AmbiguousSystems, AmbiguousCondition}
use Rattle.ambiguity_report.specs.declared.races.Racer.{Racer}
use Rattle.ambiguity_report.specs.declared.races.Racer.TheVariants.{System, Condition}

-- a system or a condition of the schedule
abbrev pub IsKnown : Schedule → Racer → Type 0
IsKnown s (System m) = m < length s.systems
IsKnown s (Condition c) = c < length s.conditions

-- its access
abbrev pub access_of_racer : Schedule → Racer → Params
access_of_racer s (System m) = params_of s m
access_of_racer s (Condition c) = access_of s c

-- whether it is declared that it may be ambiguous with a system, as it can be of a system alone
abbrev pub is_silenced_with : Schedule → Racer → ℕ → Bool
is_silenced_with s (System m) n = is_silenced s m n
is_silenced_with s (Condition c) n = false

-- it races with a system: of two systems the lower comes first
abbrev pub IsRace : Schedule → Racer → ℕ → Type 0
IsRace s (System m) n = (m < n) × AmbiguousSystems s m n
IsRace s (Condition c) n = AmbiguousCondition s c n

-- neither of two systems is before the other
abbrev pub AreUnordered : Schedule → ℕ → ℕ → Type 0
AreUnordered s m n = (Before s m n → ⊥) × (Before s n m → ⊥)

-- a system is no member of a condition, nor before every member, nor after any
pub record IsOutside (s : Schedule) (c n : ℕ) : Type 0 where
  pub no_member : IsMember s c n → ⊥
  pub not_before : ((m : ℕ) → IsMember s c m → Before s n m) → ⊥
  pub not_after : (m : ℕ) → IsMember s c m → Before s m n → ⊥
