use Rattle.std.proofs.Common.{sym, ◌∙◌, subst}
use Rattle.std.specs.Prelude.{IfErr}
use Rattle.engine.specs.Meanings.{AreFit, meanings}
use Rattle.model.specs.steps.Schedule.{Schedule}
use Rattle.engine.specs.declared.faults.RunFault.TheVariants.{NoWorker}
use Rattle.engine.specs.Stops.{StopsAs}
use Rattle.session.proofs.Lives.{fitting, ok_err}
use Rattle.session.proofs.session.Session.run.Goals as goal

pub invariant_of-self : goal.invariant_of-self
invariant_of-self g c =
    fitting g.B.Body.fits c.self.inside.engine c.run_by.new.self c.self.inside.marks c.run_by.ensures.schedule
    (subst (λ (s : Schedule). AreFit g.B.Body.fits s c.run_by.new.self.bodies) (sym c.run_by.ensures.schedule) (c.run_by.ensures.fit (λ e. absurd (ok_err c.run_by.result c.in-Ok.runs NoWorker c.in-Ok.is e)) (sym c.if-is_spoiled.ensures.value))) c.self.invariant

pub invariant_of-self-2 : goal.invariant_of-self-2
invariant_of-self-2 g c =
    let scope = g.M.SpawnThreads.has_scope c.keeping.result in
    let bodies = meanings g.B.Body.meaning c.self.inside.engine.schedule c.self.inside.engine.bodies in
    let stops = StopsAs scope (g.M.Mode.width c.keeping.result) c.self.inside.engine.schedule bodies c.args.times c.self.inside.engine.state in
    fitting g.B.Body.fits c.self.inside.engine c.run_by.new.self c.self.inside.marks c.run_by.ensures.schedule
    (subst (λ (s : Schedule). AreFit g.B.Body.fits s c.run_by.new.self.bodies) (sym c.run_by.ensures.schedule)
    (c.run_by.ensures.fit (λ e. c.keeping.ensures.stands ∙ subst (λ r. IfErr r stops) e c.run_by.ensures.stopped) (sym c.if-is_spoiled.ensures.value))) c.self.invariant
