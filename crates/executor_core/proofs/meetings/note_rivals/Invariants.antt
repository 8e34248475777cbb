use Rattle.std.proofs.Common.{◌≡◌, ◌+◌, ◌/◌, Some, length}
use Rattle.model.specs.access.Meeting.{Meet}
use Rattle.model.specs.steps.Schedule.{params_of}
use Rattle.executor_core.proofs.Rows.{AreFirstMembers}
use Rattle.executor_core.proofs.meetings.note_rivals.Given as goal

-- the systems so far are noted
abbrev pub invariant-loop-system : goal.invariant-loop-system
invariant-loop-system l = record {
  room : length l.row ≡ length l.built.systems / 64 + 1;
  members : AreFirstMembers (λ m. Meet (Some l.sets) (params_of l.built m) l.access) l.row l.rivals l.system;
}
