-- The lines of an entity, of the rows of a query, and of kept events.
use Rattle.std.specs.Prelude.{ℕ, ℤ, cond, nat_le, List, [], ◌∷◌, ◌++◌, flat_map, filter, Option, Some, None, codes}
use Rattle.std.specs.Fmt.{decimal, signed_decimal}
use Rattle.model.specs.access.Query.{Term}
use Rattle.model.specs.access.Query.Term.{Read, Mut, Opt}
use Rattle.model.specs.shown.Input.{ShownRow, rows_of}
use Rattle.model.specs.state.Commands.{is_alive}
use Rattle.model.specs.state.Rows.{row_at}
use Rattle.model.specs.declared.entities.Entity.{Entity}
use Rattle.model.specs.state.State.{Event, EventQueue, Slot}
use Rattle.state_lines.specs.WorldText.{component_text, count_line, entity_line}

-- ---- entities

-- the line of an entity, where it lives
abbrev pub entity_lines : Entity → List Slot → List ℕ
entity_lines e slots = cond (is_alive slots e) (entity_line e.index e.generation (row_at slots e.index)) []

-- ---- the rows of a query

-- a component of a kind, where it is there
abbrev pub fetched_text : ℕ → Option (List ℤ) → List ℕ
fetched_text kind None = []
fetched_text kind (Some words) = component_text kind words

-- what a term fetched
abbrev pub term_text : Term → Option (List ℤ) → List ℕ
term_text (Read kind) value = fetched_text kind value
term_text (Mut kind) value = fetched_text kind value
term_text (Opt kind) value = fetched_text kind value
term_text _ value = []

-- what the terms of a query fetched, each its own
abbrev pub terms_text : List Term → List (Option (List ℤ)) → List ℕ
terms_text [] values = []
terms_text (term ∷ terms) [] = []
terms_text (term ∷ terms) (value ∷ values) = term_text term value ++ terms_text terms values

-- a row: its id, and what the query fetches of it
abbrev pub row_line : List Term → ShownRow → List ℕ
row_line query row = decimal row.entity.index ++ (118 ∷ decimal row.entity.generation) ++ terms_text query row.values ++ 10 ∷ []

-- the rows of a query, in rising index, for an observer who last looked at a tick
abbrev pub query_lines : ℕ → List Term → List Slot → List ℕ
query_lines since query slots = flat_map (row_line query) (rows_of query since slots)

-- ---- kept events

-- an event: its number and its value
abbrev pub event_line : Event → List ℕ
event_line e = decimal e.number ++ (32 ∷ signed_decimal e.value) ++ 10 ∷ []

-- the kept events from a number on, behind the number of the next one
abbrev pub event_lines : ℕ → EventQueue → List ℕ
event_lines from queue = count_line (codes "next") queue.next ++ flat_map event_line (filter (λ (e : Event). nat_le from e.number) queue.kept)
