use Rattle.std.proofs.Common.{sym, ap, ◌∙◌, subst}
use Rattle.engine.specs.Meanings.{AreFit}
use Rattle.model.specs.steps.Schedule.{Schedule}
use Rattle.session.proofs.Lives.{fitting}
use Rattle.session.proofs.session.Session.run_here.Goals as goal

pub invariant_of-self : goal.invariant_of-self
invariant_of-self g c =
    fitting g.B.Body.fits c.self.inside.engine c.run_here.new.self c.self.inside.marks c.run_here.ensures.schedule
    (subst (λ (s : Schedule). AreFit g.B.Body.fits s c.run_here.new.self.bodies) (sym c.run_here.ensures.schedule) (c.run_here.ensures.fit (sym c.if-is_spoiled.ensures.value))) c.self.invariant

pub invariant_of-self-in-Err : goal.invariant_of-self-in-Err
invariant_of-self-in-Err g c =
    fitting g.B.Body.fits c.self.inside.engine c.run_here.new.self c.self.inside.marks c.run_here.ensures.schedule
    (subst (λ (s : Schedule). AreFit g.B.Body.fits s c.run_here.new.self.bodies) (sym c.run_here.ensures.schedule) (c.run_here.ensures.fit (sym c.if-is_spoiled.ensures.value))) c.self.invariant
