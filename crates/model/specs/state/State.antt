-- The whole state of an engine, as plain data: to be equal in the whole state is equality. It is made of the parts that
-- layers own: the world, the event queues, the memories, the count of commands passed over.
use Rattle.std.specs.Prelude.{ℕ, ◌^◌, ℤ, pos, Bool, true, false, List, []}
pub use Rattle.model.specs.declared.entities.Entity.{Entity}

-- ---- limits

-- the last tick, and the first event number that is not given
abbrev pub last_tick : ℕ
last_tick = 2 ^ 62

-- how many indices there may be
abbrev pub most_indices : ℕ
most_indices = 2 ^ 20

-- the generation after which an index is retired
abbrev pub last_generation : ℕ
last_generation = 4294967295

-- the greatest count of commands passed over
abbrev pub most_passed_over : ℕ
most_passed_over = 2 ^ 62

-- how many resources, event kinds and registers there are
abbrev pub resource_count : ℕ
resource_count = 8

abbrev pub event_count : ℕ
event_count = 4

abbrev pub register_count : ℕ
register_count = 8

-- ---- the world

-- the value of a component, and when it was added and last changed
pub record Cell : Type 0 where
  pub words : List ℤ
  pub added : ℕ
  pub changed : ℕ

-- a component of an entity: its kind, and its cell
pub record Component : Type 0 where
  pub kind : ℕ
  pub cell : Cell

-- what an index of the id book is
pub data Status : Type 0 where
  Vacant Granted Living Retired : Status

-- one index: its generation, its status, and the components of its entity in rising kinds, none unless it lives
pub record Slot : Type 0 where
  pub generation : ℕ
  pub status : Status
  pub row : List Component

-- a resource, and when it was last changed
pub record Resource : Type 0 where
  pub value : ℤ
  pub changed : ℕ

-- the world: slots by index, resources by number, the clock
pub record World : Type 0 where
  pub slots : List Slot
  pub resources : List Resource
  pub clock : ℕ

-- ---- events and memories

-- an event with its number
pub record Event : Type 0 where
  pub number : ℕ
  pub value : ℤ

-- the kept events of one kind, the number at which the newer buffer begins, and the number of the next event
pub record EventQueue : Type 0 where
  pub kept : List Event
  pub newer : ℕ
  pub next : ℕ

-- what a system or condition remembers: its last run, the cursor of each of its event readers in order, its registers
pub record Memory : Type 0 where
  pub last_run : ℕ
  pub cursors : List ℕ
  pub registers : List ℤ

-- ---- the state

-- the world, event queues by kind, memories by system and by condition, and how many commands were passed over
pub record State : Type 0 where
  pub world : World
  pub events : List EventQueue
  pub systems : List Memory
  pub conditions : List Memory
  pub passed_over : ℕ

-- ---- what stands for a part past the end of its list

-- an index past the end of the slots is vacant at generation 1
abbrev pub fresh_slot : Slot
fresh_slot = record { generation = 1; status = Vacant; row = [] }

abbrev pub no_resource : Resource
no_resource = record { value = pos 0; changed = 0 }

abbrev pub empty_queue : EventQueue
empty_queue = record { kept = []; newer = 0; next = 0 }

abbrev pub no_memory : Memory
no_memory = record { last_run = 0; cursors = []; registers = [] }

-- ---- tests of a status

-- whether an index has an entity that lives
abbrev pub is_living : Status → Bool
is_living Living = true
is_living _ = false

-- whether an index can be granted
abbrev pub is_vacant : Status → Bool
is_vacant Vacant = true
is_vacant _ = false

-- whether an index was granted and not yet settled
abbrev pub is_granted : Status → Bool
is_granted Granted = true
is_granted _ = false
