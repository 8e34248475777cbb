use Rattle.std.proofs.Common.{ℕ, ◌<◌, get_or}
use Rattle.model.specs.steps.Ambiguity.{Before}
use Rattle.ambiguity_report.proofs.before.is_before_each.Given as goal

abbrev pub invariant-loop-other : goal.invariant-loop-other
invariant-loop-other l = (k : ℕ) (d : ℕ) → k < l.other-index → Before l.built l.system (get_or l.others k d)
