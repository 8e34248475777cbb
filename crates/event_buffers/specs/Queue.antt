-- The kept events of one kind, from the values of two buffers.
use Rattle.std.specs.Prelude.{ℕ, suc, ℤ, ◌+◌, List, [], ◌∷◌, ◌++◌, length, map, filter, nat_le}
use Rattle.model.specs.state.State.{Event, EventQueue}

-- events with these values, numbered from a number on
abbrev pub numbered : ℕ → List ℤ → List Event
numbered n [] = []
numbered n (value ∷ values) = record { number = n; value = value } ∷ numbered (suc n) values

-- the values, of those numbered from a number on, from a cursor on
abbrev pub values_from : ℕ → List ℤ → ℕ → List ℤ
values_from n values cursor = map (λ (e : Event). e.value) (filter (λ (e : Event). nat_le cursor e.number) (numbered n values))

-- the queue of two buffers, of which the older begins with this number
abbrev pub queue_of_parts : ℕ → List ℤ → List ℤ → EventQueue
queue_of_parts first older newer = record {
  kept = numbered first (older ++ newer);
  newer = first + length older;
  next = first + length older + length newer;
}
