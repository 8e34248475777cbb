use Rattle.std.specs.Io.KnownBytes.{Keeps}
use Rattle.streams.proofs.writing.flush.Given as goal

-- an interrupted call leaves the writer as it was
abbrev pub invariant-loop : goal.invariant-loop
invariant-loop g l = Keeps (g.W.Write.contents l.fn.writer) (g.W.Write.contents l.writer)
