use Rattle.std.proofs.Common.{◌≡◌, ◌+◌, ◌*◌, ◌≤◌, length}
use Rattle.trace_checker.specs.TextFaults.{IsFront, lines_so_far}
use Rattle.trace_checker.proofs.read.read_traces.Given as goal

-- the text is that of the runs so far, of what is begun, and of what is left
abbrev pub invariant-loop-rest : goal.invariant-loop-rest
invariant-loop-rest l = record {
  front : IsFront l.text l.traces.items l.due l.rest;
  count : l.count ≡ length (lines_so_far l.traces.items l.due);
  bound : 2 * l.count + length l.rest ≤ length l.text;
}

abbrev pub decreases-loop-rest : goal.decreases-loop-rest
decreases-loop-rest l = length l.rest
