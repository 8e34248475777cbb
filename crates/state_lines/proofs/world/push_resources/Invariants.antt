use Rattle.std.proofs.Common.{◌≡◌, ◌++◌, take, string_bytes}
use Rattle.state_lines.specs.WorldText.{lines_of}
use Rattle.state_lines.proofs.world.push_resources.Given as goal

-- the resources so far are written
abbrev pub invariant-loop-res : goal.invariant-loop-res
invariant-loop-res l = string_bytes l.text ≡ string_bytes l.fn.text ++ lines_of (take l.res-index l.list) l.world.state.resources
