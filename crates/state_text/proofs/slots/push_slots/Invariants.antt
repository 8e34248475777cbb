use Rattle.std.proofs.Common.{◌≡◌, ◌++◌, take, string_bytes}
use Rattle.state_text.specs.StateText.{slot_lines}
use Rattle.state_text.proofs.slots.push_slots.Given as goal

-- the slots of the indices so far are written
abbrev pub invariant-loop-index : goal.invariant-loop-index
invariant-loop-index l = string_bytes l.text ≡ string_bytes l.fn.text ++ slot_lines l.form 0 (take l.index l.world.state.slots)
