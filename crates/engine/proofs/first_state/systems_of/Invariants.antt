use Rattle.std.proofs.Common.{◌≡◌, map, take}
use Rattle.model.specs.state.Loaded.{first_memory}
use Rattle.model.specs.steps.Schedule.{ScheduledSystem}
use Rattle.engine.proofs.first_state.systems_of.Given as goal

abbrev pub invariant-loop-system : goal.invariant-loop-system
invariant-loop-system l = l.memories.items ≡ map (λ (x : ScheduledSystem). first_memory x.params.reads) (take l.system-index l.system-items)
