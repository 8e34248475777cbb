use Rattle.std.proofs.Common.{ℕ, ◌<◌, get_or}
use Rattle.model.specs.steps.Ambiguity.{Before}
use Rattle.ambiguity_report.proofs.before.is_after_any.Given as goal

abbrev pub invariant-loop-other : goal.invariant-loop-other
invariant-loop-other l = (k : ℕ) (d : ℕ) → k < l.other-index → Before l.built (get_or l.others k d) l.system → ⊥
