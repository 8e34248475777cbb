use Rattle.lints.specs.Collected.{Adds, Among}
use Rattle.lints.specs.Repeats.{IsOfSetItem}
use Rattle.lints.proofs.repeats.add_of_set_items.Given as goal

-- what is found of the numbers so far is added
abbrev pub invariant-loop-number : goal.invariant-loop-number
invariant-loop-number l = Adds (Among l.number (IsOfSetItem l.sets)) l.initial.found.items l.found.items
