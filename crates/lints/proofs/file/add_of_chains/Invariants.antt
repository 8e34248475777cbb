use Rattle.lints.specs.Collected.{Adds, Among}
use Rattle.lints.specs.Lints.{IsOfChain}
use Rattle.lints.proofs.file.add_of_chains.Given as goal

-- what is found of the numbers so far is added
abbrev pub invariant-loop-number : goal.invariant-loop-number
invariant-loop-number l = Adds (Among l.number (IsOfChain l.chains)) l.initial.found.items l.found.items
