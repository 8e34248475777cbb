use Rattle.system_set.specs.Pairs.{pairs_of}
use Rattle.system_set.specs.Edges.{HasEdgesFrom}
use Rattle.system_set.proofs.edges.edges_of.Given as goal

abbrev pub invariant-loop-system : goal.invariant-loop-system
invariant-loop-system l = HasEdgesFrom l.sets l.items l.rows.items (pairs_of l.orders) l.system l.edges.items
