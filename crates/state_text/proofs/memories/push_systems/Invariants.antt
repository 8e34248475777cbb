use Rattle.std.proofs.Common.{◌≡◌, ◌++◌, codes, take, string_bytes}
use Rattle.state_text.specs.StateText.{memory_lines}
use Rattle.state_text.proofs.memories.push_systems.Given as goal

-- the systems so far are written
abbrev pub invariant-loop-system : goal.invariant-loop-system
invariant-loop-system l = string_bytes l.text ≡ string_bytes l.fn.text ++ memory_lines l.form (codes "system") (take l.system l.state.systems)
