use Rattle.std.proofs.Common.{◌≡◌, None, Some, Err, refl, sym, ap, ◌∙◌}
use Rattle.model.specs.state.State.{State}
use Rattle.engine.specs.EngineValue.{EngineValue}
use Rattle.engine.specs.Meanings.{LacksMemories}
use Rattle.session.specs.Live.{Live}
use Rattle.session.specs.Marks.{kept_at}
use Rattle.session.proofs.Lives.{all_kept, live_with, unkept}
use Rattle.session.proofs.session.Session.go_back.Goals as goal

pub returns-in_default : goal.returns-in_default
returns-in_default g c =
    let none : kept_at c.args.name.now c.self.inside.marks ≡ None = sym c.in_default.ensures in
    (refl, unkept c.args.name.now c.args.self.now.marks (ap (λ (l : Live g.row.B.Denot). kept_at c.args.name.now l.marks) (sym c.self.view_is) ∙ none))

pub invariant_of-self : goal.invariant_of-self
invariant_of-self g c = live_with g.B.Body.fits c.self.inside.engine c.set_state.new.self c.self.inside.marks
    (ap (λ (e : EngineValue g.row.B.Denot). e.schedule) c.in-Ok-set_state.ensures.ok) (ap (λ (e : EngineValue g.row.B.Denot). e.bodies) c.in-Ok-set_state.ensures.ok) c.self.invariant

pub unreachable-requires : goal.unreachable-requires
unreachable-requires g c =
    let schedule = c.self.inside.engine.schedule in
    let kept : kept_at c.args.name.now c.self.inside.marks ≡ Some c.in-Ok.state = sym c.in-Some.ensures ∙ ap Some (sym c.in-Ok.ensures) in
    all_kept (λ (w : State). LacksMemories schedule w → ⊥) c.args.name.now c.self.inside.marks c.in-Ok.state c.self.invariant.kept kept (c.set_state.ensures.count.0 (c.in-Err-Count.is ∙ ap Err c.in-Err-Count.field-0-is))

pub unreachable-requires-in-Err-Bodies : goal.unreachable-requires-in-Err-Bodies
unreachable-requires-in-Err-Bodies g c = (c.set_state.ensures.bodies.0 (c.in-Err-Bodies.is ∙ ap Err c.in-Err-Bodies.field-0-is)).1 c.self.invariant.fit
