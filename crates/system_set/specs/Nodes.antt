-- Nodes for a search of cycles, as few as there are items, sets and pairs: an item by itself, and for each set one by which its members
-- are entered and one by which they are left. A system is entered and left by itself.
use Rattle.std.specs.Prelude.{Vec, ℕ, ◌+◌, nat_lt, if◌then◌else◌, List, ◌++◌, map, Option, Some, None}
use Rattle.std.specs.List.{filter}
use Rattle.std.specs.declared.alloc.Global.{Global}
use Rattle.model.specs.declarations.Hierarchy.{Hierarchy}
use Rattle.model.specs.declarations.Edges.{IsFollowed, HasNoCycle, IsReportedCycle}
use Rattle.cycle_search.specs.declared.order.Order.{Order}
use Rattle.cycle_search.specs.Cycles.{IsRankable}

-- where an item is entered, and where it is left
abbrev pub enter_of : ℕ → ℕ → ℕ → ℕ
enter_of sets items n = if nat_lt n sets then items + n else n

abbrev pub leave_of : ℕ → ℕ → ℕ → ℕ
leave_of sets items n = if nat_lt n sets then items + sets + n else n

-- where a set is entered its items are, and where an item is left its sets are
abbrev pub enter_step : ℕ → ℕ → Order → Order
enter_step sets items o = record { first = enter_of sets items o.second; second = enter_of sets items o.first }

abbrev pub leave_step : ℕ → ℕ → Order → Order
leave_step sets items o = record { first = leave_of sets items o.first; second = leave_of sets items o.second }

-- where the first item of an order is left the second is entered
abbrev pub cross_step : ℕ → ℕ → Order → Order
cross_step sets items o = record { first = leave_of sets items o.first; second = enter_of sets items o.second }

-- the steps between nodes that pairs and orders give
abbrev pub steps_of : ℕ → ℕ → List Order → List Order → List Order
steps_of sets items inside orders =
    ((map (enter_step sets items) inside ++ map (leave_step sets items) inside) ++ orders) ++ map (cross_step sets items) orders

-- those of some nodes that are items
abbrev pub items_among : ℕ → List ℕ → List ℕ
items_among items nodes = filter (λ n. nat_lt n items) nodes

-- a cycle of items from its earliest; where there is none, ranks that fall from each item to what follows it
abbrev pub TellsCycle : Hierarchy → List (ℕ × ℕ) → Option (Vec ℕ Global) → Type 0
TellsCycle h orders None = HasNoCycle h orders × IsRankable (IsFollowed h orders)
TellsCycle h orders (Some items) = IsReportedCycle h orders items.items
