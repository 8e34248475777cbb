use Rattle.std.proofs.Common.{◌≡◌, Some, length, refl, sym, ap, ◌∙◌}
use Rattle.std.specs.Prelude.{reverse}
use Rattle.std.specs.List.{slice_get}
use Rattle.std.proofs.lemmas.List.{reverse-reverse}
use Rattle.std.proofs.lemmas.Option.{slice_get_past, slice_get_read}
use Rattle.findings.specs.Parting.{steps_in}
use Rattle.findings.proofs.diverging.steps_at.Goals as goal

-- the steps that the run records are turned twice
pub returns-in-Some : goal.returns-in-Some
returns-in-Some c =
    let look = c.in-Some.ensures.lookup in
    let there : slice_get c.args.traces.now c.args.run ≡ Some c.in-Some.trace.now = slice_get_read c.args.traces.now (length c.args.traces.now) c.args.run c.in-Some.trace.now refl look.3.0 (look.3.1 c.in-Some.trace.now) in
    sym (ap steps_in there ∙ ap reverse c.steps.ensures ∙ reverse-reverse c.steps.result.now)

pub returns-in-None : goal.returns-in-None
returns-in-None c = sym (ap steps_in (slice_get_past c.args.traces.now c.args.run c.in-None.ensures.lookup.3))
