use Rattle.system_set.specs.Edges.{HasEdgesTo}
use Rattle.system_set.proofs.edges.push_edges.Given as goal

abbrev pub invariant-loop-other : goal.invariant-loop-other
invariant-loop-other l = HasEdgesTo l.sets l.rows l.seconds l.system l.other l.fn.edges.items l.edges.items
