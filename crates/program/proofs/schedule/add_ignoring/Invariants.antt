use Rattle.std.proofs.Common.{◌≡◌, ◌++◌, take}
use Rattle.program.specs.Said.{names_said}
use Rattle.program.proofs.schedule.add_ignoring.Given as goal

-- the names so far after the others
abbrev pub invariant-loop-name : goal.invariant-loop-name
invariant-loop-name l = l.item ≡ record l.fn.item { before_ignore_deferred = l.fn.item.before_ignore_deferred ++ names_said (take l.name-index l.name-items) }

abbrev pub invariant-loop-name-2 : goal.invariant-loop-name-2
invariant-loop-name-2 l = l.item ≡ record l.fn.item { before_ignore_deferred = l.fn.item.before_ignore_deferred ++ names_said l.table.before_ignore_deferred.items; after_ignore_deferred = l.fn.item.after_ignore_deferred ++ names_said (take l.name-index l.name-items) }
