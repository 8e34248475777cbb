-- What a system is shown as it starts in a run, and what is known where no system runs.
use Rattle.std.specs.Prelude.{ℕ, ◌<◌, ◌≡◌, [], length}
use Rattle.std.specs.List.{AllByRecursion}
use Rattle.model.specs.shown.Input.{shown}
use Rattle.model.specs.shown.Outcome.{untouched}
use Rattle.model.specs.state.Shape.{AreIdsFor}
use Rattle.model.specs.steps.Schedule.{Schedule, params_of}
use Rattle.model.specs.runs.RunState.{memory_of_system, next_tick}
use Rattle.archetype_store.specs.Layout.{AreAllHome}
use Rattle.query_plan.specs.Standing.{ArePickedHome}
use Rattle.body.specs.Keeps.{CanBeShown}
use Rattle.body.specs.Lent.{lent_in}
use Rattle.body.specs.Out.{IsWrittenBy}
use Rattle.body.specs.Seen.{Seen}
use Rattle.body.specs.Steps.{StateValue}
use Rattle.engine.specs.Deferred.{DeferredValue, AreInHand, IsDeferredFor, commands_at, grants_at}
use Rattle.engine.specs.Meanings.{HasMemories}

-- a system that may be shown a state: it is one of the schedule, whose memories the state has, the columns that it picks are at home, it has deferred no
-- commands, and it was granted what it can be given
pub record MayBeShown (s : Schedule) (n : ℕ) (deferred : DeferredValue) (w : StateValue) : Type 0 where
  pub known : n < length s.systems
  pub memories : HasMemories s w.state
  pub home : AllByRecursion (λ query. ArePickedHome query w.layout) (params_of s n).queries
  pub suits : IsDeferredFor s deferred
  pub fresh : commands_at deferred n ≡ []
  pub given : AreIdsFor s n (grants_at deferred n)

-- what it sees there: by its parameters, with nothing written, from the tick to come on, and the columns that it took are such as it writes
pub record IsShown (s : Schedule) (n : ℕ) (deferred : DeferredValue) (w : StateValue) (seen : Seen) : Type 0 where
  pub params : seen.params ≡ params_of s n
  pub shown_there : seen.shown ≡ shown (params_of s n) (memory_of_system w.state n) w.state (grants_at deferred n)
  pub showing : CanBeShown seen.params seen.shown
  pub untouched_there : seen.outcome ≡ untouched seen.params seen.shown
  pub tick : seen.opening.tick ≡ next_tick w.state
  pub written : AllByRecursion (IsWrittenBy (params_of s n).queries w.layout) (lent_in seen.opening.taken)

-- no system runs: all columns are at home, and what systems have deferred is for the schedule, with its ids in hand
pub record NoneRunsIn (s : Schedule) (deferred : DeferredValue) (w : StateValue) : Type 0 where
  pub home : AreAllHome w.layout
  pub suits : IsDeferredFor s deferred
  pub ids : AreInHand w.state.world.slots deferred
