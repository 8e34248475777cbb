use Rattle.std.proofs.Common.{◌≡◌, None, replicate}
use Rattle.kinds.specs.Kind.{kind_count}
use Rattle.body.proofs.slot_table.no_slots.Given as goal

abbrev pub invariant-loop-made : goal.invariant-loop-made
invariant-loop-made l = l.slots.items ≡ replicate l._made (record { columns = replicate kind_count None })
