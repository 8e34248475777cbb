use Rattle.std.proofs.Common.{◌≡◌, ◌+◌, ◌++◌, take, flat_map, string_bytes}
use Rattle.event_buffers.specs.Queue.{numbered}
use Rattle.state_lines.specs.Looks.{event_line}
use Rattle.state_lines.proofs.events.push_events.Given as goal

-- the events so far are written
abbrev pub invariant-loop-value : goal.invariant-loop-value
invariant-loop-value l = record {
  count : l.number ≡ l.first + l.value-index;
  written : string_bytes l.text ≡ string_bytes l.fn.text ++ flat_map event_line (numbered l.first (take l.value-index l.values));
}
