use Rattle.std.proofs.Common.{ℕ, ◌<◌, ◌≡◌, false}
use Rattle.std.specs.Option.{is_some}
use Rattle.model.specs.steps.Schedule.{params_of}
use Rattle.ambiguity_report.proofs.report.has_spawners.Given as goal

abbrev pub invariant-loop-system : goal.invariant-loop-system
invariant-loop-system l = (n : ℕ) → n < l.system → is_some (params_of l.built n).spawns ≡ false
