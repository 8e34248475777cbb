-- Where a replay stands, between two steps and before its opening.
use Rattle.std.specs.Prelude.{Bool, List, [], Option}
use Rattle.model.specs.access.Access.{Params}
use Rattle.model.specs.steps.Schedule.{Schedule}
use Rattle.body.specs.Out.{AreOut}
use Rattle.body.specs.Steps.{StateValue, store_of}
use Rattle.engine.specs.Deferred.{DeferredValue, AreInHand, IsDeferredFor, IsNothingDeferred}
use Rattle.engine.specs.Meanings.{Suits}

-- between two steps: bodies and memories are those of the schedule, no column is away, and what systems have deferred is for the schedule, with its ids in
-- hand
pub record StandsBetween {B : Type 0} (fits : B → Params → Bool) (s : Schedule) (slots : List (Option B)) (deferred : DeferredValue) (w : StateValue) : Type 0 where
  pub suits : Suits fits s slots w.state
  pub out : AreOut (store_of w) []
  pub deferred_for : IsDeferredFor s deferred
  pub hand : AreInHand w.state.world.slots deferred

-- before its opening: likewise, and nothing is deferred
pub record StandsBefore {B : Type 0} (fits : B → Params → Bool) (s : Schedule) (slots : List (Option B)) (deferred : DeferredValue) (w : StateValue) : Type 0 where
  pub suits : Suits fits s slots w.state
  pub out : AreOut (store_of w) []
  pub deferred_for : IsDeferredFor s deferred
  pub nothing : IsNothingDeferred deferred
