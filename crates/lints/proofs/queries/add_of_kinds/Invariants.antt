use Rattle.lints.specs.Collected.{Adds, Among}
use Rattle.lints.specs.Lints.{IsOfKinds}
use Rattle.lints.proofs.queries.add_of_kinds.Given as goal

-- what is found of the numbers so far is added
abbrev pub invariant-loop-number : goal.invariant-loop-number
invariant-loop-number l = Adds (Among l.number (IsOfKinds l.blocks l.present l.at.system l.at.query l.query)) l.initial.found.items l.found.items
