use Rattle.std.proofs.Common.{◌≡◌}
use Rattle.model.specs.Counts.{count_below}
use Rattle.schedule_builder.specs.Counts.{is_at}
use Rattle.schedule_builder.proofs.counts.count_at.Given as goal

abbrev pub invariant-loop-system : goal.invariant-loop-system
invariant-loop-system l = l.count ≡ count_below (is_at l.systems l.level) l.system-index
