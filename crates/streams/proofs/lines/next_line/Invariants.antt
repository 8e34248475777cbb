use Rattle.std.proofs.Common.{◌≤◌, length, vec_capacity}
use Rattle.streams.proofs.LineParts.{HasLost}
use Rattle.streams.proofs.lines.next_line.Given as goal

-- the line so far is kept as far as it has room, and is what the reader lost
abbrev pub invariant-loop : goal.invariant-loop
invariant-loop g l = record {
  within : length l.line.items ≤ l.room;
  capacity : vec_capacity l.fn.line ≤ vec_capacity l.line;
  lost : HasLost l.room (g.R.Read.remaining l.fn.reader) (g.R.Read.remaining l.reader) l.line.items;
}
