use Rattle.std.proofs.Common.{◌≡◌, ◌++◌, take, string_bytes}
use Rattle.state_text.specs.StateText.{event_lines}
use Rattle.state_text.proofs.events.push_events.Given as goal

-- the event kinds so far are written
abbrev pub invariant-loop-kind : goal.invariant-loop-kind
invariant-loop-kind l = string_bytes l.text ≡ string_bytes l.fn.text ++ event_lines l.events (take l.kind-index l.list)
