use Rattle.std.proofs.Common.{length}
use Rattle.schedule_builder.specs.Rows.{IsRival, AreRows}
use Rattle.schedule_builder.proofs.relations.rows_of_rivals.Given as goal

abbrev pub invariant-loop-number : goal.invariant-loop-number
invariant-loop-number l = AreRows (length l.systems) l.number (IsRival l.systems) l.rows.items
