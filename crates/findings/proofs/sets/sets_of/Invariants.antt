use Rattle.std.proofs.Common.{◌≡◌, ◌<◌, ℕ, get_or, length, map, take}
use Rattle.findings.proofs.sets.sets_of.Given as goal

-- the names so far, and the numbers of these sets
abbrev pub invariant-loop-number : goal.invariant-loop-number
invariant-loop-number l = record {
  names : map (λ name. name.now) l.names.items ≡ map (λ set. set.name.now) (take l.number l.sets);
  count : length l.numbers.items ≡ l.number;
  numbers : (n : ℕ) → n < l.number → get_or l.numbers.items n 0 ≡ n;
}
