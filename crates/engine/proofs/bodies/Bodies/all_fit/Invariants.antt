use Rattle.std.proofs.Common.{ℕ, ◌<◌, ◌≡◌, true}
use Rattle.model.specs.runs.RunState.{body_of}
use Rattle.model.specs.steps.Schedule.{params_of}
use Rattle.body.specs.Keeps.{KeepsWithin}
use Rattle.engine.specs.Meanings.{fits_at, meanings}
use Rattle.engine.proofs.bodies.Bodies.all_fit.Given as goal

abbrev pub invariant-loop-system : goal.invariant-loop-system
invariant-loop-system g l = record {
  fit : (m : ℕ) → m < l.system → fits_at g.B.Body.fits l.built l.self m ≡ true;
  keep : (m : ℕ) → m < l.system → KeepsWithin (params_of l.built m) (body_of (meanings g.B.Body.meaning l.built l.self) m);
}
