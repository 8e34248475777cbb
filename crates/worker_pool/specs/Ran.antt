-- What is known of a body that has run.
use Rattle.std.specs.Prelude.{ℕ, ◌≡◌, Bool, Result}
use Rattle.model.specs.access.Access.{Params}
use Rattle.model.specs.shown.Input.{Shown}
use Rattle.model.specs.shown.Outcome.{Outcome}
use Rattle.body.specs.Answers.{Answers}
use Rattle.body.specs.Seen.{Seen}
use Rattle.body.specs.declared.system_body.BodyFault.{BodyFault}

-- a body ran for the start of a number, of a system, on a view: this number, system, body, view and answer come of it. The answer is that of its
-- meaning by what it was shown, and all but the outcome is as it was
pub record Ran {B : Type 0} (meaning : B → Params → Shown → Result Outcome ℕ) (fits : B → Params → Bool) (number system : ℕ) (body : B) (before : Seen) (number' system' : ℕ) (body' : B) (after : Seen) (answer : Result (Unit {0}) BodyFault) : Type 0 where
  pub same_number : number' ≡ number
  pub same_system : system' ≡ system
  pub answered : Answers (meaning body before.params before.shown) after answer
  pub same_shown : after.shown ≡ before.shown
  pub same_params : after.params ≡ before.params
  pub same_opening : after.opening ≡ before.opening
  pub same_meaning : meaning body' ≡ meaning body
  pub same_fit : fits body' ≡ fits body
