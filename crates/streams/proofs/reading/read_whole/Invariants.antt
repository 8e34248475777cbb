use Rattle.std.proofs.Common.{◌≤◌, vec_len}
use Rattle.std.specs.Io.KnownBytes.{Consumes}
use Rattle.streams.proofs.reading.read_whole.Given as goal

-- what was read is within the limit, and is what the reader lost
abbrev pub invariant-loop : goal.invariant-loop
invariant-loop g l = record {
  within : vec_len l.bytes ≤ l.limit;
  taken : Consumes (g.R.Read.remaining l.fn.reader) (g.R.Read.remaining l.reader) l.bytes.items;
}
