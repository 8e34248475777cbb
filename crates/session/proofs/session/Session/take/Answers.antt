use Rattle.std.proofs.Common.{Err, string_bytes, ap, subst, ◌∙◌}
use Rattle.engine.specs.EngineValue.{EngineValue}
use Rattle.engine.specs.Meanings.{LacksMemories}
use Rattle.session.specs.Live.{Live}
use Rattle.session.proofs.Lives.{live_with}
use Rattle.session.proofs.session.Session.take.Goals as goal

pub invariant_of-self : goal.invariant_of-self
invariant_of-self g c = live_with g.B.Body.fits c.self.inside.engine c.set_state.new.self c.self.inside.marks
    (ap (λ (e : EngineValue g.row.B.Denot). e.schedule) c.in-Ok.ensures.ok) (ap (λ (e : EngineValue g.row.B.Denot). e.bodies) c.in-Ok.ensures.ok) c.self.invariant

pub returns-in-Err-Count : goal.returns-in-Err-Count
returns-in-Err-Count g c = (
  ap (λ (e : EngineValue g.row.B.Denot). (let l : Live g.row.B.Denot = record { engine = e; marks = c.self.inside.marks; file = c.self.inside.file; greeting = string_bytes c.self.inside.greeting } in l)) c.in-Err-Count.ensures.err ∙ c.self.view_is,
  subst (λ (l : Live g.row.B.Denot). LacksMemories l.engine.schedule c.args.state) c.self.view_is (c.set_state.ensures.count.0 (c.in-Err-Count.is ∙ ap Err c.in-Err-Count.field-0-is)),
)

pub unreachable-requires : goal.unreachable-requires
unreachable-requires g c = (c.set_state.ensures.bodies.0 (c.in-Err-Bodies.is ∙ ap Err c.in-Err-Bodies.field-0-is)).1 c.self.invariant.fit
