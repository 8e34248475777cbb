use Rattle.std.proofs.Common.{length}
use Rattle.executor_core.specs.Meetings.{IsMeeting}
use Rattle.executor_core.proofs.Rows.{AreRenewed}
use Rattle.executor_core.proofs.meetings.renew_met.Given as goal

-- the rows so far are made anew
abbrev pub invariant-loop-number : goal.invariant-loop-number
invariant-loop-number l = AreRenewed (length l.built.systems) (length l.built.systems) (IsMeeting l.built l.sets) l.rows l.number
