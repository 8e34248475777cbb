use Rattle.std.proofs.Common.{◌≡◌, ◌++◌, take, string_bytes}
use Rattle.state_text.specs.StateText.{resource_lines}
use Rattle.state_text.proofs.resources.push_resources.Given as goal

-- the resources so far are written
abbrev pub invariant-loop-res : goal.invariant-loop-res
invariant-loop-res l = string_bytes l.text ≡ string_bytes l.fn.text ++ resource_lines l.form l.world.state.resources (take l.res-index l.list)
