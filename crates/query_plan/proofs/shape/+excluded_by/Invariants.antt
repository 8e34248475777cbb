use Rattle.std.proofs.Common.{length}
use Rattle.query_plan.proofs.shape.+excluded_by.Given as goal

-- how many terms are left
abbrev pub decreases-excluded_by : goal.decreases-excluded_by
decreases-excluded_by l = length l.terms.now
