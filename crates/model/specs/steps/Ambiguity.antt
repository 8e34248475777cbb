-- Which systems must run before which, which pairs are left open, and when a schedule is settled.
use Rattle.std.specs.Prelude.{ℕ, ◌<◌, true, false, ◌≡◌, ◌≢◌, length}
use Rattle.std.specs.Option.{is_some}
use Rattle.model.specs.access.Access.{has_filter}
use Rattle.model.specs.access.Conflict.{Conflict}
use Rattle.model.specs.steps.Schedule.{Schedule, params_of, has_edge, covers, access_of, level_of}

-- a path of edges reaches from one system to another
pub data Reaches (s : Schedule) : ℕ → ℕ → Type 0 where
  Edge : (m n : ℕ) → has_edge s m n ≡ true → Reaches s m n
  Onward : (m n p : ℕ) → has_edge s m n ≡ true → Reaches s n p → Reaches s m p

-- a system is before another: by a path of edges, or by a lower level
pub data Before (s : Schedule) (m n : ℕ) : Type 0 where
  ByPath : Reaches s m n → Before s m n
  ByLevel : level_of s m < level_of s n → Before s m n

-- a system that a condition covers
pub record IsMember (s : Schedule) (c n : ℕ) : Type 0 where
  pub known : n < length s.systems
  pub covered : covers s c n ≡ true

-- two systems that conflict, with neither before the other
pub record AmbiguousSystems (s : Schedule) (m n : ℕ) : Type 0 where
  pub first_known : m < length s.systems
  pub second_known : n < length s.systems
  pub differ : m ≢ n
  pub conflict : Conflict (params_of s m) (params_of s n)
  pub not_before : Before s m n → ⊥
  pub not_after : Before s n m → ⊥

-- a condition and a system that conflict, where the system is no member, nor before every member, nor after any
pub record AmbiguousCondition (s : Schedule) (c n : ℕ) : Type 0 where
  pub condition_known : c < length s.conditions
  pub system_known : n < length s.systems
  pub conflict : Conflict (params_of s n) (access_of s c)
  pub no_member : IsMember s c n → ⊥
  pub not_before : ((m : ℕ) → IsMember s c m → Before s n m) → ⊥
  pub not_after : (m : ℕ) → IsMember s c m → Before s m n → ⊥

-- no query of a system or condition has an `added` or `changed` term
pub record HasNoFilter (s : Schedule) : Type 0 where
  pub systems : (n : ℕ) → n < length s.systems → has_filter (params_of s n) ≡ false
  pub conditions : (c : ℕ) → c < length s.conditions → has_filter (access_of s c) ≡ false

-- a schedule is settled where there is no such pair and, where a system has commands, no query of a system or condition has an `added` or
-- `changed` term
pub record Settled (s : Schedule) : Type 0 where
  pub systems : (m n : ℕ) → AmbiguousSystems s m n → ⊥
  pub conditions : (c n : ℕ) → AmbiguousCondition s c n → ⊥
  pub unfiltered : (n : ℕ) → n < length s.systems → is_some (params_of s n).spawns ≡ true → HasNoFilter s
