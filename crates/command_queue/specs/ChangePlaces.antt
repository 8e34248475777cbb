-- The places of changes by their index, in a list and in a map.
use Rattle.std.specs.Prelude.{ℕ, cond, get_or, nat_eq, nat_lt, Option, None}
use Rattle.std.specs.HashMap.{get}
use Rattle.command_queue.specs.declared.change_places.ChangePlaces.{ChangePlaces}

-- the place that is told of an index
abbrev pub place_told : ChangePlaces → ℕ → Option ℕ
place_told p q = cond (nat_lt q p.listed) (get_or p.list.items q None) (get nat_eq p.map q)
