use Rattle.std.proofs.Common.{◌≡◌, false, string_bytes, subst}
use Rattle.model.specs.steps.Built.{IsBuilt}
use Rattle.body.specs.Steps.{HasShape}
use Rattle.session.specs.Live.{Live, is_lost}
use Rattle.session.specs.Lockstep.{IsReady}
use Rattle.session.proofs.Ready.{ready_by}
use Rattle.session.proofs.laws.session_is_ready.Goals as goal

pub returns : goal.returns
returns g c =
    let meaning = g.B.Body.meaning in
    let old : Live g.row.B.Denot = record { engine = c.session.inside.engine; marks = c.session.inside.marks; file = c.session.inside.file; greeting = string_bytes c.session.inside.greeting } in
    subst (λ (l : Live g.row.B.Denot). is_lost l ≡ false → IsReady meaning l) c.session.view_is
    (λ there. ready_by meaning old (subst IsBuilt c.schedule.ensures c.prove_law.ensures) (c.is_spoiled-spoiled.ensures.keep there)
    (c.is_spoiled-spoiled.ensures.suits there).memories (subst HasShape c.state.ensures c.prove_shape.ensures) c.session.invariant.kept c.prove_shapes.ensures)
