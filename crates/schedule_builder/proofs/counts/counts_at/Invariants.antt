use Rattle.std.proofs.Common.{ℕ, ◌<◌, ◌≡◌, length, get_or}
use Rattle.model.specs.Counts.{count_below}
use Rattle.schedule_builder.specs.Counts.{is_at}
use Rattle.schedule_builder.proofs.counts.counts_at.Given as goal

abbrev pub invariant-loop-level : goal.invariant-loop-level
invariant-loop-level l = record {
  long : length l.counts.items ≡ l.level;
  each : (k : ℕ) → k < l.level → get_or l.counts.items k 0 ≡ count_below (is_at l.systems k) (length l.systems);
}
