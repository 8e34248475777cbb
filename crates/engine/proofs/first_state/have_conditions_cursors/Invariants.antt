use Rattle.std.proofs.Common.{ℕ, ◌<◌, ◌≡◌, length}
use Rattle.model.specs.runs.RunState.{memory_of_condition}
use Rattle.model.specs.steps.Schedule.{access_of}
use Rattle.engine.proofs.first_state.have_conditions_cursors.Given as goal

abbrev pub invariant-loop-condition : goal.invariant-loop-condition
invariant-loop-condition l = (c : ℕ) → c < l.condition → length (memory_of_condition l.state c).cursors ≡ length (access_of l.built c).reads
