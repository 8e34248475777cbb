use Rattle.std.proofs.Common.{◌≡◌, map, take}
use Rattle.model.specs.sessions.Inputs.{row_at_tick}
use Rattle.archetype_store.specs.Row.{component_of}
use Rattle.body.specs.Inputs.{given_by}
use Rattle.body.proofs.open_state.input.row_at.Given as goal

-- the components so far are there
abbrev pub invariant-loop-value : goal.invariant-loop-value
invariant-loop-value l = map component_of l.row.items ≡ row_at_tick l.tick (map given_by (take l.value-index l.values))
