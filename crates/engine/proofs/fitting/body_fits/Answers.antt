use Rattle.std.proofs.Common.{subst}
use Rattle.model.specs.steps.Schedule.{params_of}
use Rattle.body.specs.Keeps.{KeepsWithin}
use Rattle.engine.proofs.BodiesWithin.{keeps-at}
use Rattle.engine.proofs.fitting.body_fits.Goals as goal

pub returns-clause-keeps : goal.returns-clause-keeps
returns-clause-keeps g c = λ fit.
    let meaning = g.B.Body.meaning in
    let s = c.args.built.now in
    let n = c.args.system in
    let body = c.index-bodies-system.result in
    keeps-at meaning s c.args.bodies.now n body c.requires.count c.requires.known
    (subst (λ b. KeepsWithin (params_of s n) (meaning b (params_of s n))) c.index-bodies-system.is
    (subst (λ params. KeepsWithin params (meaning body params)) c.params.ensures (c.fits.ensures.keeps fit)))
