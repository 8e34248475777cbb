use Rattle.std.proofs.Common.{◌≡◌, ◌+◌, ◌*◌, ◌≤◌, length, is_none}
use Rattle.std.specs.List.{count_by}
use Rattle.cycle_search.specs.Cycles.{IsRanked}
use Rattle.cycle_search.proofs.ranks.settle.Given as goal

abbrev pub invariant-loop-ranks : goal.invariant-loop-ranks
invariant-loop-ranks l = record {
  long : length l.ranks.items ≡ l.count;
  ranked : IsRanked l.orders l.ranks.items l.level;
  room : l.level + count_by is_none l.ranks.items ≤ 2 * l.count;
}

abbrev pub decreases-loop-ranks : goal.decreases-loop-ranks
decreases-loop-ranks l = count_by is_none l.ranks.items
