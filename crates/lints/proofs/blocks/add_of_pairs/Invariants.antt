use Rattle.lints.specs.Collected.{Adds, Among}
use Rattle.lints.specs.Lints.{IsOfPair}
use Rattle.lints.proofs.blocks.add_of_pairs.Given as goal

-- what is found of the numbers so far is added
abbrev pub invariant-loop-second : goal.invariant-loop-second
invariant-loop-second l = Adds (Among l.second (IsOfPair l.code l.at.system l.at.block l.first)) l.initial.found.items l.found.items
