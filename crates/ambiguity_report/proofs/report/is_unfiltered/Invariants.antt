use Rattle.std.proofs.Common.{ℕ, ◌<◌, ◌≡◌, false}
use Rattle.model.specs.access.Access.{has_filter}
use Rattle.model.specs.steps.Schedule.{params_of, access_of}
use Rattle.ambiguity_report.proofs.report.is_unfiltered.Given as goal

abbrev pub invariant-loop-system : goal.invariant-loop-system
invariant-loop-system l = (n : ℕ) → n < l.system → has_filter (params_of l.built n) ≡ false

abbrev pub invariant-loop-condition : goal.invariant-loop-condition
invariant-loop-condition l = (c : ℕ) → c < l.condition → has_filter (access_of l.built c) ≡ false
