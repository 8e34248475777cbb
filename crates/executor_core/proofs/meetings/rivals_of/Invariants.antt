use Rattle.std.proofs.Common.{length}
use Rattle.schedule_builder.specs.Rows.{IsRival, AreRows}
use Rattle.executor_core.proofs.meetings.rivals_of.Given as goal

-- the rows so far
abbrev pub invariant-loop-number : goal.invariant-loop-number
invariant-loop-number l = AreRows (length l.built.systems) l.number (IsRival l.built.systems) l.rows.items
