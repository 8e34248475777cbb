use Rattle.std.proofs.Common.{length}
use Rattle.schedule_builder.specs.Rows.{AreRows}
use Rattle.schedule_builder.specs.Conditions.{IsClash}
use Rattle.schedule_builder.proofs.condition_rows.rows_of_clashes.Given as goal

abbrev pub invariant-loop-condition : goal.invariant-loop-condition
invariant-loop-condition l = AreRows (length l.systems) l.condition-index (IsClash l.systems l.conditions) l.rows.items
