use Rattle.std.proofs.Common.{◌≡◌, ◌≤◌, ◌∙◌, Some, length, arith}
use Rattle.model.specs.access.Meeting.{Meet}
use Rattle.model.specs.steps.Schedule.{params_of}
use Rattle.model.proofs.serial.Conflicts.{conflict_from_meet}
use Rattle.executor_core.proofs.Rows.{none_noted, one_noted, all_noted}
use Rattle.executor_core.proofs.meetings.note_rivals.Goals as goal

-- none is noted at first
pub loop-system-init : goal.loop-system-init
loop-system-init c = record {
  room = c.clear.ensures.room ∙ c.requires.room;
  members = none_noted (λ m. Meet (Some c.args.sets.now) (params_of c.args.built.now m) c.args.access.now) c.clear.new.self c.args.rivals.now c.clear.ensures.empty;
}

-- then one more
pub loop-system-preserved : goal.loop-system-preserved
loop-system-preserved c = record {
  room = c.note_meeting.ensures.room ∙ c.loop-system.invariant.room;
  members = one_noted (λ m. Meet (Some c.args.sets.now) (params_of c.args.built.now m) c.args.access.now) c.loop-system.row c.note_meeting.new.row c.args.rivals.now c.loop-system.system c.loop-system.invariant.members c.note_meeting.ensures.members;
}

-- and in the end all that meet, which are rivals
pub returns : goal.returns
returns c =
    let within : c.loop-system.system ≤ c.count-system-end.result = c.loop-system.auto.system-end in
    let past : c.count-system-end.result ≤ c.loop-system.system = c.loop-system-test.false in
    let count : c.count-system-end.result ≡ length c.args.built.now.systems = c.count-system-end.ensures in
    all_noted (length c.args.built.now.systems) c.loop-system.system (λ m. Meet (Some c.args.sets.now) (params_of c.args.built.now m) c.args.access.now) c.loop-system.row c.args.rivals.now
    c.loop-system.invariant.room (omega arith) c.loop-system.invariant.members
    (λ m below meet. (c.requires.rivals m).1 (below, conflict_from_meet (Some c.args.sets.now) (params_of c.args.built.now m) c.args.access.now meet))
