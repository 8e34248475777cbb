use Rattle.std.proofs.Common.{Some, refl, sym, subst, ◌∙◌}
use Rattle.std.proofs.lemmas.Bool.{false≢true}
use Rattle.model.specs.access.Access.{Params}
use Rattle.model.specs.access.Meeting.{Meet}
use Rattle.model.specs.steps.Schedule.{params_of}
use Rattle.executor_core.proofs.Rows.{not_rival, not_meeting, is_noted}
use Rattle.executor_core.proofs.meetings.note_meeting.Goals as goal

-- what is no rival is not noted, nor what doesn't meet
pub returns-then-not-contains-clause-members : goal.returns-then-not-contains-clause-members
returns-then-not-contains-clause-members c =
    not_rival (λ m. Meet (Some c.args.sets.now) (params_of c.args.built.now m) c.args.access.now) c.args.row.now c.args.rivals.now c.args.system (sym c.contains.ensures ∙ c.if-not-contains.true)

pub returns-then-not-meet_in-clause-members : goal.returns-then-not-meet_in-clause-members
returns-then-not-meet_in-clause-members c =
    not_meeting (λ m. Meet (Some c.args.sets.now) (params_of c.args.built.now m) c.args.access.now) c.args.row.now c.args.rivals.now c.args.system
    (λ meets. false≢true (c.if-not-meet_in.ensures.1 (subst (λ (p : Params). Meet (Some c.args.sets.now) p c.args.access.now) (sym c.params.ensures) meets)))

-- a rival that meets is
pub returns-clause-members : goal.returns-clause-members
returns-clause-members c =
    is_noted (λ m. Meet (Some c.args.sets.now) (params_of c.args.built.now m) c.args.access.now) c.args.row.now c.insert.new.self c.args.rivals.now c.args.system c.insert.ensures.members
    (sym c.contains.ensures ∙ c.if-not-contains.false)
    (subst (λ (p : Params). Meet (Some c.args.sets.now) p c.args.access.now) c.params.ensures (c.if-not-meet_in.ensures.0 refl))
