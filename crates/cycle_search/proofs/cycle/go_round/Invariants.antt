use Rattle.std.proofs.Common.{◌≡◌, ℕ, ◌<◌, ◌++◌, ◌∷◌, [], length, get_or, false, IsSome, not}
use Rattle.std.specs.List.{count_by}
use Rattle.model.specs.Lists.{has}
use Rattle.model.specs.declarations.Walks.{IsOnceEach, IsWalk}
use Rattle.cycle_search.specs.Cycles.{height_of, Points}
use Rattle.cycle_search.proofs.cycle.go_round.Given as goal

abbrev pub invariant-loop-seen : goal.invariant-loop-seen
invariant-loop-seen l = record {
  long : length l.seen.items ≡ length l.next;
  seen : (n : ℕ) → get_or l.seen.items n false ≡ has n l.path.items;
  once : IsOnceEach l.path.items;
  walk : IsWalk (Points l.next) (l.path.items ++ l.current ∷ []);
  within : l.current < length l.next;
  on : IsSome (height_of l.next l.current);
}

abbrev pub decreases-loop-seen : goal.decreases-loop-seen
decreases-loop-seen l = count_by not l.seen.items
