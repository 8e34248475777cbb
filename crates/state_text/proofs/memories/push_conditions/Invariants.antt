use Rattle.std.proofs.Common.{◌≡◌, ◌++◌, codes, take, string_bytes}
use Rattle.state_text.specs.StateText.{memory_lines}
use Rattle.state_text.proofs.memories.push_conditions.Given as goal

-- the conditions so far are written
abbrev pub invariant-loop-condition : goal.invariant-loop-condition
invariant-loop-condition l = string_bytes l.text ≡ string_bytes l.fn.text ++ memory_lines l.form (codes "condition") (take l.condition l.state.conditions)
