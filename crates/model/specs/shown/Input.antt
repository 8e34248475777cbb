-- What a system is shown at its start.
use Rattle.std.specs.Prelude.{ℕ, suc, ℤ, Bool, true, false, cond, nat_lt, ◌&&◌, List, [], ◌∷◌, map, get_or, Option, Some, None}
use Rattle.std.specs.List.{list_all}
use Rattle.model.specs.Lists.{head_or, tail_of}
use Rattle.model.specs.state.State.{Entity, Cell, Component, Slot, Resource, EventQueue, Memory, State, is_living, no_resource}
use Rattle.model.specs.state.Rows.{cell_at, kinds_of}
use Rattle.model.specs.state.Events.{unread, queue_of}
use Rattle.model.specs.access.Query.{Term, matches}
use Rattle.model.specs.access.Query.Term.{Read, Mut, Opt, Added, Changed}
use Rattle.model.specs.access.Access.{Params}

-- a row of a query: its entity, and what each term fetches
pub record ShownRow : Type 0 where
  pub entity : Entity
  pub values : List (Option (List ℤ))

-- whether a component was added after a last run
abbrev pub added_since : ℕ → Option Cell → Bool
added_since last None = false
added_since last (Some c) = nat_lt last c.added

-- whether a component was changed after a last run
abbrev pub changed_since : ℕ → Option Cell → Bool
changed_since last None = false
changed_since last (Some c) = nat_lt last c.changed

-- whether a row passes the filter of a term
abbrev pub passes : ℕ → List Component → Term → Bool
passes last row (Added k) = added_since last (cell_at row k)
passes last row (Changed k) = changed_since last (cell_at row k)
passes last row _ = true

-- the value of a component that is there
abbrev pub words_of : Option Cell → Option (List ℤ)
words_of None = None
words_of (Some c) = Some c.words

-- what a term fetches of a row
abbrev pub fetch : List Component → Term → Option (List ℤ)
fetch row (Read k) = words_of (cell_at row k)
fetch row (Mut k) = words_of (cell_at row k)
fetch row (Opt k) = words_of (cell_at row k)
fetch row _ = None

-- whether a slot is a row of a query, for an observer with this last run
abbrev pub is_row : List Term → ℕ → Slot → Bool
is_row query last slot = is_living slot.status && matches query (kinds_of slot.row) && list_all (passes last slot.row) query

-- a slot as a row of a query
abbrev pub shown_row : List Term → ℕ → Slot → ShownRow
shown_row query index slot = record { entity = record { index = index; generation = slot.generation }; values = map (fetch slot.row) query }

-- the rows of a query among slots whose first has this index, in rising index
unfoldable pub rows_from : List Term → ℕ → ℕ → List Slot → List ShownRow
rows_from query last index [] = []
rows_from query last index (slot ∷ slots) = cond (is_row query last slot)
    (shown_row query index slot ∷ rows_from query last (suc index) slots)
    (rows_from query last (suc index) slots)

-- the rows of a query
abbrev pub rows_of : List Term → ℕ → List Slot → List ShownRow
rows_of query last slots = rows_from query last 0 slots

-- the value of a resource
abbrev pub value_of : List Resource → ℕ → ℤ
value_of resources number = (get_or resources number no_resource).value

-- the unread events of each reader, in order, each from its own cursor on
abbrev pub unread_of : List EventQueue → List ℕ → List ℕ → List (List ℤ)
unread_of queues [] cursors = []
unread_of queues (kind ∷ kinds) cursors = unread (queue_of queues kind) (head_or 0 cursors) ∷ unread_of queues kinds (tail_of cursors)

-- the cursor of each reader, in order, at the end of its queue
abbrev pub end_cursors : List EventQueue → List ℕ → List ℕ
end_cursors queues kinds = map (λ kind. (queue_of queues kind).next) kinds

-- what a system is shown: the rows of each query, the resources that it reads and that it writes, the unread events of each
-- reader, its registers and the ids that it is granted. No tick is among it
pub record Shown : Type 0 where
  pub rows : List (List ShownRow)
  pub res : List ℤ
  pub res_mut : List ℤ
  pub unread : List (List ℤ)
  pub registers : List ℤ
  pub granted : List Entity

-- what a system with these parameters, this memory and these granted ids is shown of a state
unfoldable pub shown : Params → Memory → State → List Entity → Shown
shown params memory state ids = record {
  rows = map (λ query. rows_of query memory.last_run state.world.slots) params.queries;
  res = map (value_of state.world.resources) params.res;
  res_mut = map (value_of state.world.resources) params.res_mut;
  unread = unread_of state.events params.reads memory.cursors;
  registers = memory.registers;
  granted = ids;
}
