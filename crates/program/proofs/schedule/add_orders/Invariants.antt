use Rattle.std.proofs.Common.{◌≡◌, ◌++◌, take}
use Rattle.program.specs.Said.{names_said}
use Rattle.program.proofs.schedule.add_orders.Given as goal

-- the names so far after the others
abbrev pub invariant-loop-name : goal.invariant-loop-name
invariant-loop-name l = l.item ≡ record l.fn.item { before = l.fn.item.before ++ names_said (take l.name-index l.name-items) }

abbrev pub invariant-loop-name-2 : goal.invariant-loop-name-2
invariant-loop-name-2 l = l.item ≡ record l.fn.item { before = l.fn.item.before ++ names_said l.table.before.items; after = l.fn.item.after ++ names_said (take l.name-index l.name-items) }
