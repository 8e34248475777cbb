use Rattle.std.proofs.Common.{length}
use Rattle.query_plan.proofs.shape.+required_by.Given as goal

-- how many terms are left
abbrev pub decreases-required_by : goal.decreases-required_by
decreases-required_by l = length l.terms.now
