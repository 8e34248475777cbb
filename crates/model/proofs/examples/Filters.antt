-- Two writers of one kind that filters keep apart run at once: each row keeps the tick of its own writer's start.
use Rattle.std.proofs.Common.{◌≡◌, ℕ, ℤ, pos, List, [], ◌∷◌, Some, option_map, refl}
use Rattle.model.specs.declared.steps.Step.{Step}
use Rattle.model.specs.declared.steps.Step.TheVariants.{Start, Finish, Sync}
use Rattle.model.specs.state.State.{State, Slot, Component}
use Rattle.model.specs.state.State.Status.{Living}
use Rattle.model.specs.access.Query.Term.{Mut, With, Without}
use Rattle.model.specs.access.Access.{Params}
use Rattle.model.specs.shown.Outcome.{BodyMeaning}
use Rattle.model.specs.steps.Schedule.{Schedule}
use Rattle.model.specs.state.Loaded.{loaded}
use Rattle.model.proofs.examples.Bodies.{position, frozen, asks, system, plain, given, zeros, changes, adds_to_first, serially, woven, computed}

abbrev pub with_frozen : Params
with_frozen = asks ((Mut position ∷ With frozen ∷ []) ∷ [])

abbrev pub without_frozen : Params
without_frozen = asks ((Mut position ∷ Without frozen ∷ []) ∷ [])

abbrev pub two_writers : Schedule
two_writers = plain (system with_frozen ∷ system without_frozen ∷ []) (0 ∷ 1 ∷ [])

abbrev pub writers : List BodyMeaning
writers = changes (adds_to_first (pos 1)) with_frozen ∷ changes (adds_to_first (pos 10)) without_frozen ∷ []

abbrev pub two_entities : State
two_entities = loaded two_writers
    ((given position (pos 0 ∷ pos 0 ∷ []) ∷ given frozen [] ∷ []) ∷ (given position (pos 0 ∷ pos 0 ∷ []) ∷ []) ∷ []) zeros

abbrev at_once : List Step
at_once = Start 0 ∷ Start 1 ∷ Finish 1 ∷ Finish 0 ∷ Sync 0 ∷ []

abbrev component : ℕ → List ℤ → ℕ → Component
component kind words changed = record { kind = kind; cell = record { words = words; added = 1; changed = changed } }

abbrev living : List Component → Slot
living row = record { generation = 1; status = Living; row = row }

abbrev slots_of : State → List Slot
slots_of w = w.world.slots

-- the starts take ticks 3 and 4
abbrev both_written : List Slot
both_written = living (component position (pos 1 ∷ pos 0 ∷ []) 3 ∷ component frozen [] 1 ∷ [])
    ∷ living (component position (pos 10 ∷ pos 0 ∷ []) 4 ∷ []) ∷ []

written_at_once : option_map slots_of (woven two_writers writers two_entities at_once) ≡ Some both_written
unfolding computed
written_at_once = refl

written_serially : option_map slots_of (serially two_writers writers two_entities at_once) ≡ Some both_written
unfolding computed
written_serially = refl
