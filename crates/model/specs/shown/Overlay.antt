-- A state with an outcome laid over it, part by part: components, resources, event queues.
use Rattle.std.specs.Prelude.{ℕ, ℤ, Bool, List, map, Option, Some, None}
use Rattle.model.specs.Lists.{map_index, all_index}
use Rattle.model.specs.state.State.{Cell, Component, Slot, Resource, EventQueue}
use Rattle.model.specs.state.Events.{send_all, can_send}

-- a cell after a write at a tick, where there is one: its added stamp stays
abbrev pub cell_after : ℕ → Option (List ℤ) → Cell → Cell
cell_after tick None c = c
cell_after tick (Some words) c = record { words = words; added = c.added; changed = tick }

-- a component after the write of its kind
abbrev pub component_after : ℕ → (ℕ → Option (List ℤ)) → Component → Component
component_after tick words c = record { kind = c.kind; cell = cell_after tick (words c.kind) c.cell }

-- a row after the writes by kind. What is not in the row is not written
abbrev pub row_after : ℕ → (ℕ → Option (List ℤ)) → List Component → List Component
row_after tick words row = map (component_after tick words) row

-- a slot after the writes by kind
abbrev pub slot_after : ℕ → (ℕ → Option (List ℤ)) → Slot → Slot
slot_after tick words slot = record { generation = slot.generation; status = slot.status; row = row_after tick words slot.row }

-- the slots after the writes by index and kind
unfoldable pub slots_after : ℕ → (ℕ → ℕ → Option (List ℤ)) → List Slot → List Slot
slots_after tick words slots = map_index (λ index. slot_after tick (words index)) slots

-- a resource after a write at a tick, where there is one
abbrev pub resource_after : ℕ → Option ℤ → Resource → Resource
resource_after tick None r = r
resource_after tick (Some v) r = record { value = v; changed = tick }

-- the resources after the writes by number
unfoldable pub resources_after : ℕ → (ℕ → Option ℤ) → List Resource → List Resource
resources_after tick values resources = map_index (λ number. resource_after tick (values number)) resources

-- the event queues after the events by kind
unfoldable pub queues_after : (ℕ → List ℤ) → List EventQueue → List EventQueue
queues_after events queues = map_index (λ kind. send_all (events kind)) queues

-- whether the events of every kind get numbers
unfoldable pub has_event_numbers : (ℕ → List ℤ) → List EventQueue → Bool
has_event_numbers events queues = all_index (λ kind. can_send (events kind)) queues
