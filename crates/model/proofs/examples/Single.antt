-- The single-threaded list of one system: started, finished, and the sync point; at most one system runs in it.
use Rattle.std.proofs.Common.{false, List, [], ◌∷◌, inl, inr, refl, true≢false}
use Rattle.model.specs.declared.steps.Step.{Step}
use Rattle.model.specs.declared.steps.Step.TheVariants.{Start, Finish, Sync}
use Rattle.model.specs.declared.steps.Ready.TheVariants as ready
use Rattle.model.specs.access.Access.{no_params}
use Rattle.model.specs.steps.Schedule.{Schedule}
use Rattle.model.specs.steps.Lawful.{IsLawful, MayStart, MaySync}
use Rattle.model.specs.steps.Widths.{IsSingle, IsWide}
use Rattle.model.proofs.faults.Judging.{lists_are_computed}
use Rattle.model.proofs.progress.Single.{single_is_wide}
use Rattle.model.proofs.examples.Bodies.{system, plain}

abbrev one_system : Schedule
one_system = plain (system no_params ∷ []) (0 ∷ [])

-- the whole list, the latest step first
abbrev whole : List Step
whole = Sync 0 ∷ Finish 0 ∷ Start 0 ∷ []

-- it is lawful, so each step may come
lawful : IsLawful one_system whole
lawful = (lists_are_computed one_system whole).0 refl

may_start : MayStart one_system [] 0
may_start = lawful.1.1.0

may_sync : MaySync one_system (Finish 0 ∷ Start 0 ∷ []) 0
may_sync = lawful.0

-- each step is what is ready, or the finish of what was started
single : IsSingle one_system whole
single = (
  (ready.Sync 0, false, inr ((λ offer offers. true≢false offers.0.waits), may_sync), refl),
  (refl, ((ready.Start 0, false, inl (ready.Start 0, refl, (may_start.free, (refl, may_start))), refl), tt)),
)

-- so at most one system runs in it
one_at_most : IsWide 1 one_system whole
one_at_most = single_is_wide one_system whole single
