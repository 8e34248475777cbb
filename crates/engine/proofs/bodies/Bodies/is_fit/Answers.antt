use Rattle.std.proofs.Common.{◌≡◌, ◌<◌, List, Option, Some, None, length, true, sym, ap, ◌∙◌, subst, arith}
use Rattle.std.proofs.lemmas.List.{get_or_default}
use Rattle.model.specs.steps.Schedule.{params_of}
use Rattle.body.specs.Keeps.{KeepsWithin}
use Rattle.engine.specs.Meanings.{body_at, meaning_of}
use Rattle.engine.proofs.JobsOut.{meaning-there}
use Rattle.engine.proofs.bodies.Bodies.is_fit.Goals as goal

pub returns-in-Some-clause-keeps : goal.returns-in-Some-clause-keeps
returns-in-Some-clause-keeps g c = λ fit.
    let meaning = g.B.Body.meaning in
    let s = c.args.built.now in
    let n = c.args.system in
    let slots : List (Option g.row.B.Denot) = c.args.self.now in
    let items = c.self.inside.places.items in
    let place = c.index.result.now in
    let within : n < length items = omega (arith, c.requires.known, c.requires.count, ap length c.self.view_is) in
    let at : body_at slots n ≡ Some c.in-Some.body
    = sym (ap (λ (xs : List (Option g.row.B.Denot)). body_at xs n) c.self.view_is) ∙ sym (c.index.ensures ∙ get_or_default items n place None within) ∙ c.in-Some.is in
    let means = meaning-there meaning (λ body params. true) true s slots n c.requires.count c.requires.known ∙ ap (meaning_of meaning (params_of s n)) at in
    subst (KeepsWithin (params_of s n)) (sym means)
    (subst (λ params. KeepsWithin params (meaning c.in-Some.body params)) c.params.ensures (c.fits.ensures.keeps fit))
