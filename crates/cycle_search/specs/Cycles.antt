-- Cycles of orders by number, and the ranks that rule them out.
use Rattle.std.specs.Prelude.{Vec}
use Rattle.std.specs.declared.alloc.Global.{Global}
use Rattle.std.specs.Prelude.{ℕ, ◌<◌, ◌≤◌, ◌≡◌, true, List, ◌++◌, Option, Some, None, IsSome, length, take, get_or}
use Rattle.std.specs.List.{All, Contains}
use Rattle.model.specs.Lists.{has, head_or}
use Rattle.model.specs.declarations.Walks.{IsOnceEach, IsWalk}
use Rattle.cycle_search.specs.declared.order.Order.{Order}

-- an order puts m before n
abbrev pub IsStep : List Order → ℕ → ℕ → Type 0
IsStep orders m n = Contains orders (record { first = m; second = n })

-- steps lead to lower ranks, and no rank is above the bound
pub record IsRankable (Step : ℕ → ℕ → Type 0) : Type 0 where
  pub rank : ℕ → ℕ
  pub bound : ℕ
  pub bounded : (n : ℕ) → rank n ≤ bound
  pub falls : (m n : ℕ) → Step m n → rank n < rank m

-- the height of an item, where it has one
abbrev pub height_of : List (Option ℕ) → ℕ → Option ℕ
height_of ranks n = get_or ranks n None

-- a first height, where it is there, is above a second one that is there
abbrev pub IsAbove : Option ℕ → Option ℕ → Type 0
IsAbove None below = Unit {0}
IsAbove (Some height) None = ⊥
IsAbove (Some height) (Some below) = below < height

-- the order leads to a lower height
abbrev pub IsFalling : List (Option ℕ) → Order → Type 0
IsFalling ranks o = IsAbove (height_of ranks o.first) (height_of ranks o.second)

-- every height is below the level
abbrev pub HasHeightsBelow : List (Option ℕ) → ℕ → Type 0
HasHeightsBelow ranks level = (n height : ℕ) → height_of ranks n ≡ Some height → height < level

-- an item with a rank is ordered before items of lower ranks alone; every rank is below the level
pub record IsRanked (orders : List Order) (ranks : List (Option ℕ)) (level : ℕ) : Type 0 where
  pub falling : All (IsFalling ranks) orders
  pub below : HasHeightsBelow ranks level

-- for each item that one of the first count orders puts before an item without a height, such an item; it is told which one
pub record PointsOnBy (orders : List Order) (ranks next : List (Option ℕ)) (count : ℕ) : Type 0 where
  pub long : length next ≡ length ranks
  pub ordered : (m n : ℕ) → height_of next m ≡ Some n → IsStep orders m n × (height_of ranks n ≡ None)
  pub only : (k : ℕ) (d : Order) → k < count → height_of next (get_or orders k d).first ≡ None → height_of ranks (get_or orders k d).second ≡ None → ⊥

-- the same by all orders
abbrev pub PointsOn : List Order → List (Option ℕ) → List (Option ℕ) → Type 0
PointsOn orders ranks next = PointsOnBy orders ranks next (length orders)

-- each item without a height points on
abbrev pub IsStuck : List (Option ℕ) → List (Option ℕ) → Type 0
IsStuck ranks next = (n : ℕ) → n < length ranks → height_of ranks n ≡ None → IsSome (height_of next n)

-- what is pointed to points on
pub record GoesOn (next : List (Option ℕ)) : Type 0 where
  pub goes : (m n : ℕ) → height_of next m ≡ Some n → (n < length next) × IsSome (height_of next n)

-- one points to the other
abbrev pub Points : List (Option ℕ) → ℕ → ℕ → Type 0
Points next m n = height_of next m ≡ Some n

-- a round trip by steps, with nothing twice
pub record IsRound (Step : ℕ → ℕ → Type 0) (items : List ℕ) : Type 0 where
  pub some : 0 < length items
  pub once : IsOnceEach items
  pub walk : IsWalk Step (items ++ take 1 items)

-- the first is the least
abbrev pub BeginsLeast : List ℕ → Type 0
BeginsLeast items = (n : ℕ) → has n items ≡ true → head_or 0 items ≤ n

-- the round trip from its least item, or ranks where there is none
abbrev pub TellsRound : List Order → Option (Vec ℕ Global) → Type 0
TellsRound orders None = IsRankable (IsStep orders)
TellsRound orders (Some items) = IsRound (IsStep orders) items.items × BeginsLeast items.items
