-- Pairs of an item and a set that it is in, and what is found out of them.
use Rattle.std.specs.Prelude.{ℕ, ◌<◌, ◌≤◌, ◌≡◌, ◌↔◌, ◌==◌, ◌&&◌, ◌||◌, not, Bool, true, false, nat_lt, if◌then◌else◌, List, map, get_or, Option, Some, None}
use Rattle.std.specs.List.{All}
use Rattle.model.specs.Lists.{has}
use Rattle.model.specs.declarations.Hierarchy.{Hierarchy, HasNoSelf, IsFirstSelf, IsReportedSetCycle, Reaches, IsRising}
use Rattle.cycle_search.specs.declared.order.Order.{Order}
use Rattle.cycle_search.specs.Cycles.{IsStep}
use Rattle.system_set.specs.declared.fault.HierarchyFault.{HierarchyFault}
use Rattle.system_set.specs.declared.fault.HierarchyFault.TheVariants.{Loop, Cycle, Memory}

-- an order as a pair of an item and a set that it is in
abbrev pub pair_of : Order → ℕ × ℕ
pair_of o = (o.first, o.second)

abbrev pub pairs_of : List Order → List (ℕ × ℕ)
pairs_of orders = map pair_of orders

-- an item of so many, in one of so many sets
pub record IsPlaced (sets items : ℕ) (o : Order) : Type 0 where
  pub item : o.first < items
  pub holder : o.second < sets

-- each pair puts an item of so many into one of so many sets; sets are items
pub record ArePlaced (sets items : ℕ) (orders : List Order) : Type 0 where
  pub few : sets ≤ items
  pub placed : All (IsPlaced sets items) orders

-- a hierarchy of these pairs
abbrev pub hierarchy_of : ℕ → ℕ → List Order → Hierarchy
hierarchy_of sets items orders = record { sets = sets; items = items; inside = pairs_of orders }

-- the fault that is told of sets; a failed allocation says nothing of them
abbrev pub IsHierarchyFault : Hierarchy → HierarchyFault → Type 0
IsHierarchyFault h (Loop n) = IsFirstSelf h n
IsHierarchyFault h (Cycle items) = HasNoSelf h × IsReportedSetCycle h items.items
IsHierarchyFault h Memory = Unit {0}

-- the lesser of a number that may be there and one that is
abbrev pub lesser_of : Option ℕ → ℕ → Option ℕ
lesser_of None n = Some n
lesser_of (Some m) n = if nat_lt m n then Some m else Some n

-- the least item that is put into itself, with one more pair
abbrev pub with_self : Option ℕ → Order → Option ℕ
with_self least o = if o.first == o.second then lesser_of least o.first else least

-- the least item that one of the first orders puts into itself, or that none does
abbrev pub TellsSelf : List Order → ℕ → Option ℕ → Type 0
TellsSelf orders count None = (k : ℕ) (d : Order) → k < count → (get_or orders k d).first ≡ (get_or orders k d).second → ⊥
TellsSelf orders count (Some n) = IsStep orders n n × ((k : ℕ) (d : Order) → k < count → (get_or orders k d).first ≡ (get_or orders k d).second → n ≤ (get_or orders k d).first)

-- whether an item is marked
abbrev pub is_marked : List Bool → ℕ → Bool
is_marked marks n = get_or marks n false

-- each marked item reaches the set
pub record AreSound (orders : List Order) (holder : ℕ) (marks : List Bool) : Type 0 where
  pub sound : (n : ℕ) → is_marked marks n ≡ true → Reaches (hierarchy_of 0 0 orders) n holder

-- whether the item of a pair is not marked, though its set is this one or is marked
abbrev pub is_open_pair : List Bool → ℕ → Order → Bool
is_open_pair marks holder o = not (is_marked marks o.first) && ((o.second == holder) || is_marked marks o.second)

-- a pair is not open
abbrev pub IsSpread : List Bool → ℕ → Order → Type 0
IsSpread marks holder o = is_open_pair marks holder o ≡ false

-- the pair at a place is open
abbrev pub IsOpenAt : List Order → ℕ → List Bool → ℕ → Type 0
IsOpenAt orders holder marks place = (d : Order) → is_open_pair marks holder (get_or orders place d) ≡ true

-- the marked systems below a number, in order
pub record AreMarked (sets : ℕ) (marks : List Bool) (count : ℕ) (members : List ℕ) : Type 0 where
  pub each : (n : ℕ) → (has n members ≡ true) ↔ ((sets ≤ n) × (n < count) × (is_marked marks n ≡ true))
  pub rising : IsRising members
