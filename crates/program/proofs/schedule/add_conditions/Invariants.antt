use Rattle.std.proofs.Common.{◌≡◌, ◌++◌}
use Rattle.program.proofs.schedule.add_conditions.Given as goal

-- the conditions so far after the others
abbrev pub invariant-loop-condition : goal.invariant-loop-condition
invariant-loop-condition l = l.item ≡ record l.fn.item { conditions = l.fn.item.conditions ++ l.yielded }
