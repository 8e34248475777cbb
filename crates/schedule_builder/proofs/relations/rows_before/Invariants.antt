use Rattle.std.proofs.Common.{length}
use Rattle.schedule_builder.specs.Rows.{IsBefore, AreRows}
use Rattle.schedule_builder.proofs.relations.rows_before.Given as goal

abbrev pub invariant-loop-system : goal.invariant-loop-system
invariant-loop-system l = AreRows (length l.systems) l.system-index (IsBefore l.systems) l.rows.items
