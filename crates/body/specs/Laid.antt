-- A world with what was written laid over it.
use Rattle.std.specs.Prelude.{ℕ, List}
use Rattle.model.specs.shown.Outcome.{words_written, value_written}
use Rattle.model.specs.shown.Overlay.{slots_after, resources_after}
use Rattle.model.specs.state.State.{Resource, Slot, World}
use Rattle.body.specs.Seen.{Seen}

-- the world with these slots, all else as it was
abbrev pub with_slots : World → List Slot → World
with_slots world slots = record { slots = slots; resources = world.resources; clock = world.clock }

-- the world with these resources, all else as it was
abbrev pub with_resources : World → List Resource → World
with_resources world resources = record { slots = world.slots; resources = resources; clock = world.clock }

-- the world with what was written in a view laid over it at a tick
abbrev pub world_after : ℕ → Seen → World → World
world_after tick seen world = record {
  slots = slots_after tick (words_written seen.params.queries seen.shown.rows seen.outcome.cells) world.slots;
  resources = resources_after tick (value_written seen.params.res_mut seen.outcome.res_mut) world.resources;
  clock = world.clock;
}
