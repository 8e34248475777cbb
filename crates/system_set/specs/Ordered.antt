-- What is found of orders where there are sets: one between an item and a set that holds it, one of two sets that share a system, and the
-- edges of systems.
use Rattle.std.specs.Prelude.{ℕ, ◌<◌, ◌≤◌, ◌≡◌, ◌⊎◌, Bool, true, List, Option, Some, None}
use Rattle.std.specs.Bool.{MatchBool}
use Rattle.model.specs.declarations.Hierarchy.{Hierarchy, Reaches}
use Rattle.model.specs.declarations.Edges.{IsCrossed, HasNoCrossing, IsCrossing, IsShared, AreApart, IsSharing}
use Rattle.cycle_search.specs.declared.order.Order.{Order}
use Rattle.system_set.specs.declared.sharing.Sharing.{Sharing}
use Rattle.system_set.specs.Pairs.{pair_of, is_marked}

-- whether an item reaches a set
abbrev pub TellsReach : Hierarchy → ℕ → ℕ → Bool → Type 0
TellsReach h item holder b = MatchBool b (Reaches h item holder) (Reaches h item holder → ⊥)

-- the item of an order and the set that holds it, or that neither holds the other
abbrev pub TellsCrossed : Hierarchy → Order → Option Order → Type 0
TellsCrossed h o None = IsCrossed h (pair_of o) → ⊥
TellsCrossed h o (Some p) = ((pair_of o ≡ (p.first, p.second)) ⊎ (pair_of o ≡ (p.second, p.first))) × Reaches h p.first p.second

-- the same of the first order of which it can be told
abbrev pub TellsCrossing : Hierarchy → List (ℕ × ℕ) → Option Order → Type 0
TellsCrossing h orders None = HasNoCrossing h orders
TellsCrossing h orders (Some p) = IsCrossing h orders p.first p.second

-- the least system that the two sets of an order share, or that there is none
abbrev pub TellsShared : Hierarchy → Order → Option ℕ → Type 0
TellsShared h o None = (n : ℕ) → IsShared h (pair_of o) n → ⊥
TellsShared h o (Some n) = IsShared h (pair_of o) n × ((m : ℕ) → m < n → IsShared h (pair_of o) m → ⊥)

-- the same of the first order of which it can be told
abbrev pub TellsSharing : Hierarchy → List (ℕ × ℕ) → Option Sharing → Type 0
TellsSharing h orders None = AreApart h orders
TellsSharing h orders (Some s) = IsSharing h orders s.first s.second s.system

-- a system that is marked in both lists
pub record IsBoth (sets : ℕ) (first second : List Bool) (n : ℕ) : Type 0 where
  pub system : sets ≤ n
  pub in_first : is_marked first n ≡ true
  pub in_second : is_marked second n ≡ true
