use Rattle.system_set.specs.Pairs.{TellsSelf}
use Rattle.system_set.proofs.hierarchy.least_self.Given as goal

abbrev pub invariant-loop-pair : goal.invariant-loop-pair
invariant-loop-pair l = TellsSelf l.pairs l.pair-index l.least
