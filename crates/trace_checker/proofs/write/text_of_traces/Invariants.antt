use Rattle.std.proofs.Common.{◌≡◌, ◌≤◌, take, string_bytes, length}
use Rattle.trace_checker.specs.Grammar.{trace_text}
use Rattle.trace_checker.proofs.write.text_of_traces.Given as goal

-- the text of the runs so far is written, and within the limit
abbrev pub invariant-loop-trace : goal.invariant-loop-trace
invariant-loop-trace l = record {
  count : l.number ≡ l.trace-index;
  written : string_bytes l.text ≡ trace_text (take l.trace-index l.traces);
  within : length (string_bytes l.text) ≤ l.limit;
}
