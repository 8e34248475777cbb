use Rattle.std.proofs.Common.{◌≡◌, ◌++◌, take}
use Rattle.program.specs.Said.{names_said}
use Rattle.program.proofs.schedule.add_ambiguities.Given as goal

-- the names so far after the others
abbrev pub invariant-loop-name : goal.invariant-loop-name
invariant-loop-name l = l.item ≡ record l.fn.item { ambiguous_with = l.fn.item.ambiguous_with ++ names_said (take l.name-index l.name-items) }
