use Rattle.std.proofs.Common.{false, sym, ap, subst}
use Rattle.engine.specs.Deferred.{IsDeferredFor}
use Rattle.engine.specs.EngineValue.{EngineValue}
use Rattle.engine.specs.Meanings.{meanings, AllKeepWithin, Suits}
use Rattle.engine.proofs.engine.Engine.put_back.Goals as goal

pub invariant_of-self : goal.invariant_of-self
invariant_of-self g c = (
  (λ _. (
    subst (λ (v : EngineValue g.row.B.Denot). Suits g.B.Body.fits v.schedule v.bodies c.args.spare.state) (sym c.self.view_is) c.requires.suits,
    subst (λ (v : EngineValue g.row.B.Denot). AllKeepWithin v.schedule (meanings g.B.Body.meaning v.schedule v.bodies)) (sym c.self.view_is) c.requires.keep,
    subst (λ (v : EngineValue g.row.B.Denot). IsDeferredFor v.schedule c.args.spare.deferred) (sym c.self.view_is) c.requires.deferred,
  )),
  c.self.invariant.1,
)

pub returns : goal.returns
returns g c =
    ap (λ (v : EngineValue g.row.B.Denot).
    let put : EngineValue g.row.B.Denot = record { schedule = v.schedule; bodies = v.bodies; state = c.args.spare.state; spoiled = false } in put) c.self.view_is
