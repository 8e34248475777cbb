use Rattle.std.proofs.Common.{ℕ, List, sym, subst}
use Rattle.model.specs.state.State.{State}
use Rattle.session.specs.Live.{IsLive}
use Rattle.session.proofs.Lives.{suits_fit}
use Rattle.session.proofs.session.Session.new.Goals as goal

pub invariant_of-result : goal.invariant_of-result
invariant_of-result g c =
    subst (λ (marks : List (List ℕ × State)). IsLive g.B.Body.fits c.args.engine marks) (sym c.new.ensures) (record {
      fit = suits_fit g.B.Body.fits c.args.engine.schedule c.args.engine.bodies c.args.engine.state (c.is_spoiled-spoiled.ensures.suits c.requires);
      kept = tt;
    })
