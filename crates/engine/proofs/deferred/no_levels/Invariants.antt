use Rattle.std.proofs.Common.{◌≡◌, ℕ, [], length, get_or}
use Rattle.engine.proofs.deferred.no_levels.Given as goal

abbrev pub invariant-loop-level : goal.invariant-loop-level
invariant-loop-level l = record {
  count : length l.levels.items ≡ l._level;
  each : (k : ℕ) → get_or l.levels.items k [] ≡ [];
}
