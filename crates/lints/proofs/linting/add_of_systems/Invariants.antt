use Rattle.lints.specs.Collected.{Adds, Among}
use Rattle.lints.specs.Lints.{IsOfTable}
use Rattle.lints.proofs.linting.add_of_systems.Given as goal

-- what is found of the numbers so far is added
abbrev pub invariant-loop-number : goal.invariant-loop-number
invariant-loop-number l = Adds (Among l.number (IsOfTable l.present l.tables)) l.initial.found.items l.found.items
