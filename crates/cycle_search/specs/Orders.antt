-- Orders of items by their numbers.
use Rattle.std.specs.Prelude.{ℕ, ◌<◌}
use Rattle.cycle_search.specs.declared.order.Order.{Order}

-- an order between two of the first n items
pub record IsBetween (n : ℕ) (o : Order) : Type 0 where
  pub first : o.first < n
  pub second : o.second < n
