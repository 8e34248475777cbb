use Rattle.std.proofs.Common.{◌≡◌, ◌++◌, take, string_bytes}
use Rattle.state_lines.specs.WorldText.{slot_lines}
use Rattle.state_lines.proofs.world.push_entities.Given as goal

-- the entities of the indices so far are written
abbrev pub invariant-loop-index : goal.invariant-loop-index
invariant-loop-index l = string_bytes l.text ≡ string_bytes l.fn.text ++ slot_lines 0 (take l.index l.world.state.slots)
