use Rattle.std.proofs.Common.{ℕ, ◌==◌, ◌||◌, ◌∷◌, subst, sym, ap, ◌∙◌}
use Rattle.number_set.specs.Members.{contains}
use Rattle.model.specs.declared.steps.Step.{Step}
use Rattle.model.specs.declared.steps.Step.TheVariants.{Start}
use Rattle.model.specs.steps.Schedule.{recording}
use Rattle.model.specs.steps.Lawful.{May}
use Rattle.executor_core.specs.Stands.{Stand, IsPassed, IsPlainStep, Stands}
use Rattle.executor_core.proofs.AcceptedSteps.{stands_ask, stands_made, stands_start, stands_skip, skip_changes, stands_finish, stands_sync}
use Rattle.executor_core.proofs.executor.Core.take.Goals as goal

pub returns-in-Cond-clause-stands : goal.returns-in-Cond-clause-stands
returns-in-Cond-clause-stands c = λ sets h stands may plain.
    subst (λ (step : Step). Stands c.note.new.self sets (step ∷ h)) (sym c.in-Cond.is)
    (stands_ask c.args.self.now c.note.new.self sets h c.in-Cond.condition c.in-Cond.answer stands
    (subst (λ (step : Step). May (recording c.args.self.now.schedule sets) h step) c.in-Cond.is may) c.note.ensures.rest c.note.ensures.asked c.note.ensures.yes)

pub returns-in-Start-clause-stands : goal.returns-in-Start-clause-stands
returns-in-Start-clause-stands c = λ sets h stands may plain.
    let made = c.renew_due.ensures in
    let middle : Stand = c.renew_due.new.self in
    let old : Stand = c.args.self.now in
    let may-start = subst (λ (step : Step). May (recording old.schedule sets) h step) c.in-Start.is may in
    subst (λ (step : Step). Stands c.begin.new.self sets (step ∷ h)) (sym c.in-Start.is)
    (stands_start middle c.begin.new.self sets h c.in-Start.system (stands_made old middle sets h stands made.rest made.kept made.met made.clashed)
    (subst (λ (s : Stand). May (recording s.schedule sets) h (Start c.in-Start.system)) (sym made.rest) may-start) c.begin.ensures.rest c.begin.ensures.begun c.begin.ensures.passed
    (ap (λ (s : Stand). s.due) made.rest))

pub returns-in-Skip-clause-stands : goal.returns-in-Skip-clause-stands
returns-in-Skip-clause-stands c = λ sets h stands may plain.
    let n : ℕ = c.in-Skip.system in
    let middle : Stand = c.begin-in-Skip.new.self in
    subst (λ (step : Step). Stands c.end.new.self sets (step ∷ h)) (sym c.in-Skip.is)
    (stands_skip c.args.self.now c.end.new.self sets h n stands
    (subst (λ (step : Step). May (recording c.args.self.now.schedule sets) h step) c.in-Skip.is may)
    (skip_changes c.args.self.now middle c.end.new.self c.begin-in-Skip.ensures.rest c.end.ensures.rest)
    (λ m. ap (λ (s : Stand). contains s.begun m) c.end.ensures.rest ∙ c.begin-in-Skip.ensures.begun m)
    (λ m. c.end.ensures.over m ∙ ap (λ b. (n == m) || b) (ap (λ (s : Stand). contains s.over m) c.begin-in-Skip.ensures.rest))
    (subst IsPassed (sym c.end.ensures.rest) (c.begin-in-Skip.ensures.passed stands.passed)))

pub returns-in-Finish-clause-stands : goal.returns-in-Finish-clause-stands
returns-in-Finish-clause-stands c = λ sets h stands may plain.
    subst (λ (step : Step). Stands c.end-in-Finish.new.self sets (step ∷ h)) (sym c.in-Finish.is)
    (stands_finish c.args.self.now c.end-in-Finish.new.self sets h c.in-Finish.system stands
    (subst (λ (step : Step). May (recording c.args.self.now.schedule sets) h step) c.in-Finish.is may) c.end-in-Finish.ensures.rest c.end-in-Finish.ensures.over)

pub returns-in-Sync-clause-stands : goal.returns-in-Sync-clause-stands
returns-in-Sync-clause-stands c = λ sets h stands may plain.
    subst (λ (step : Step). Stands c.pass_sync.new.self sets (step ∷ h)) (sym c.in-Sync.is)
    (stands_sync c.args.self.now c.pass_sync.new.self sets h c.in-Sync.sync (subst (λ (step : Step). IsPlainStep sets step) c.in-Sync.is plain) stands
    (subst (λ (step : Step). May (recording c.args.self.now.schedule sets) h step) c.in-Sync.is may) c.pass_sync.ensures)
