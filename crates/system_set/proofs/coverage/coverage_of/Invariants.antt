use Rattle.system_set.specs.Pairs.{hierarchy_of}
use Rattle.system_set.proofs.Coverages.{AreCoveredTo}
use Rattle.system_set.proofs.coverage.coverage_of.Given as goal

abbrev pub invariant-loop-item : goal.invariant-loop-item
invariant-loop-item l = AreCoveredTo (hierarchy_of l.sets l.items l.pairs) l.covered l.item-index l.lists.items
