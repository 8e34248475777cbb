use Rattle.std.proofs.Common.{◌≡◌}
use Rattle.number_set.specs.Members.{contains}
use Rattle.model.specs.Counts.{count_below}
use Rattle.schedule_builder.proofs.counts.members_below.Given as goal

abbrev pub invariant-loop-number : goal.invariant-loop-number
invariant-loop-number l = l.count ≡ count_below (contains l.row) l.number
