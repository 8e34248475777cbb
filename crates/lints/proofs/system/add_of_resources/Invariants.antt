use Rattle.lints.specs.Collected.{Adds, Among}
use Rattle.lints.specs.Lints.{IsOfResources}
use Rattle.lints.proofs.system.add_of_resources.Given as goal

-- what is found of the numbers so far is added
abbrev pub invariant-loop-number : goal.invariant-loop-number
invariant-loop-number l = Adds (Among l.number (IsOfResources l.table l.system)) l.initial.found.items l.found.items
