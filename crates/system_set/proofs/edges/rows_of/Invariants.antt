use Rattle.system_set.specs.Pairs.{hierarchy_of}
use Rattle.system_set.specs.Edges.{AreRows}
use Rattle.system_set.proofs.edges.rows_of.Given as goal

abbrev pub invariant-loop-set : goal.invariant-loop-set
invariant-loop-set l = AreRows (hierarchy_of l.sets l.items l.pairs) l.set l.rows.items
