use Rattle.std.proofs.Common.{◌≡◌, map, take}
use Rattle.model.specs.state.Loaded.{row_given}
use Rattle.archetype_store.specs.Row.{component_of}
use Rattle.program.specs.Load.{given_of}
use Rattle.program.proofs.world.row_of.Given as goal

-- the components so far are there
abbrev pub invariant-loop-value : goal.invariant-loop-value
invariant-loop-value l = map component_of l.row.items ≡ row_given (map given_of (take l.value-index l.values))
