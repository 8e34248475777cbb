use Rattle.lints.specs.Collected.{Adds, Among}
use Rattle.lints.specs.Lints.{IsOfEvents}
use Rattle.lints.proofs.system.add_of_events.Given as goal

-- what is found of the numbers so far is added
abbrev pub invariant-loop-number : goal.invariant-loop-number
invariant-loop-number l = Adds (Among l.number (IsOfEvents l.table l.system)) l.initial.found.items l.found.items
