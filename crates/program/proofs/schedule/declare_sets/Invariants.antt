use Rattle.std.proofs.Common.{◌≡◌, [], map}
use Rattle.program.specs.Said.{item_said}
use Rattle.program.proofs.schedule.declare_sets.Given as goal

-- the sets so far, and nothing else
abbrev pub invariant-loop-set : goal.invariant-loop-set
invariant-loop-set l = l.desc ≡ record { sets = map item_said l.yielded; systems = []; chains = [] }
