use Rattle.std.proofs.Common.{ℕ, ◌<◌, ◌≡◌, length}
use Rattle.model.specs.runs.RunState.{memory_of_system}
use Rattle.model.specs.steps.Schedule.{params_of}
use Rattle.engine.proofs.first_state.have_systems_cursors.Given as goal

abbrev pub invariant-loop-system : goal.invariant-loop-system
invariant-loop-system l = (n : ℕ) → n < l.system → length (memory_of_system l.state n).cursors ≡ length (params_of l.built n).reads
