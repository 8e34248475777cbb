use Rattle.std.proofs.Common.{length}
use Rattle.schedule_builder.specs.Rows.{AreRows}
use Rattle.schedule_builder.specs.Conditions.{IsClash}
use Rattle.executor_core.proofs.meetings.clashes_of.Given as goal

-- the rows so far
abbrev pub invariant-loop-number : goal.invariant-loop-number
invariant-loop-number l = AreRows (length l.built.systems) l.number (IsClash l.built.systems l.built.conditions) l.rows.items
