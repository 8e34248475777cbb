use Rattle.std.proofs.Common.{ap, subst, ◌∙◌}
use Rattle.engine.specs.EngineValue.{EngineValue}
use Rattle.engine.specs.Meanings.{meanings, AllKeepWithin, Suits}
use Rattle.engine.proofs.engine.Engine.is_spoiled.Goals as goal

pub returns-clause-suits : goal.returns-clause-suits
returns-clause-suits g c = λ fresh.
    let held = c.self.invariant.0 (ap (λ (v : EngineValue g.row.B.Denot). v.spoiled) c.self.view_is ∙ fresh) in
    subst (λ (v : EngineValue g.row.B.Denot). Suits g.B.Body.fits v.schedule v.bodies v.state) c.self.view_is held.0

pub returns-clause-keep : goal.returns-clause-keep
returns-clause-keep g c = λ fresh.
    let held = c.self.invariant.0 (ap (λ (v : EngineValue g.row.B.Denot). v.spoiled) c.self.view_is ∙ fresh) in
    subst (λ (v : EngineValue g.row.B.Denot). AllKeepWithin v.schedule (meanings g.B.Body.meaning v.schedule v.bodies)) c.self.view_is held.1
