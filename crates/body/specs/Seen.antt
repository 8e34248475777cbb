-- What a body sees of its view: the parameters, what is shown, and the outcome so far. Reads and writes of one row, of a resource and of a
-- register, and events.
use Rattle.std.specs.Prelude.{ℕ, ℤ, pos, ◌==◌, Bool, cond, List, [], ◌∷◌, ◌++◌, get_or, set, Option, Some, None, unwrap_or}
use Rattle.std.specs.List.{list_any}
use Rattle.model.specs.Lists.{first_some, is_number, update_at}
use Rattle.model.specs.access.Query.{Term, written}
pub use Rattle.model.specs.access.QueryFaults.{fetched}
use Rattle.model.specs.access.Access.{Params}
use Rattle.model.specs.shown.Input.{ShownRow, Shown}
use Rattle.model.specs.declared.entities.Entity.{Entity}
use Rattle.model.specs.shown.Outcome.{Command, Outcome, words_in_row, value_written, events_sent}
use Rattle.event_buffers.specs.Lists.{with_event}
use Rattle.query_plan.specs.declared.row.Row.{Row}
use Rattle.body.specs.Columns.{Column}
use Rattle.body.specs.Issued.{granted_in}

-- what a view was opened over: the columns of each query as they were taken, the tick at which what is written there counts as changed, and
-- where the rows of each query stand. A body's meaning doesn't take it
pub record Opening : Type 0 where
  pub taken : List (List Column)
  pub tick : ℕ
  pub places : List (List Row)

-- a view: the parameters of a system, what it is shown, the outcome so far, and what it was opened over
pub record Seen : Type 0 where
  pub params : Params
  pub shown : Shown
  pub outcome : Outcome
  pub opening : Opening

-- whether a query fetches a kind
abbrev pub fetches : List Term → ℕ → Bool
fetches query kind = list_any (λ t. is_number kind (fetched t)) query

-- what a row shows at a kind
abbrev pub words_shown : List Term → List (Option (List ℤ)) → ℕ → Option (List ℤ)
words_shown [] values kind = None
words_shown (t ∷ ts) [] kind = None
words_shown (t ∷ ts) (v ∷ vs) kind = first_some (cond (is_number kind (fetched t)) v None) (words_shown ts vs kind)

-- what a row is read as at a kind: what was written, else what is shown
abbrev pub words_read : List Term → List (Option (List ℤ)) → List (Option (List ℤ)) → ℕ → Option (List ℤ)
words_read query values cells kind = first_some (words_in_row query cells kind) (words_shown query values kind)

-- the cells of a row with the words written at the first `mut` term of a kind
abbrev pub with_words : List Term → ℕ → List ℤ → List (Option (List ℤ)) → List (Option (List ℤ))
with_words [] kind words cells = cells
with_words (t ∷ ts) kind words [] = []
with_words (t ∷ ts) kind words (c ∷ cs) = cond (is_number kind (written t)) (Some words ∷ cs) (c ∷ with_words ts kind words cs)

-- the terms of a query, and the rows and cells of one
abbrev pub query_at : Params → ℕ → List Term
query_at params q = get_or params.queries q []

abbrev pub rows_at : Shown → ℕ → List ShownRow
rows_at shown q = get_or shown.rows q []

-- where the rows of a query stand
abbrev pub places_at : Opening → ℕ → List Row
places_at opening q = get_or opening.places q []

-- what stands for a row past the end
abbrev pub no_row : ShownRow
no_row = record { entity = record { index = 0; generation = 0 }; values = [] }

abbrev pub row_at : Shown → ℕ → ℕ → ShownRow
row_at shown q r = get_or (rows_at shown q) r no_row

abbrev pub cells_at : Outcome → ℕ → ℕ → List (Option (List ℤ))
cells_at outcome q r = get_or (get_or outcome.cells q []) r []

-- what a view reads in a row of a query at a kind
abbrev pub read_at : Seen → ℕ → ℕ → ℕ → Option (List ℤ)
read_at seen q r kind = words_read (query_at seen.params q) (row_at seen.shown q r).values (cells_at seen.outcome q r) kind

-- an outcome with the cells of one row changed
abbrev pub with_row_cells : ℕ → ℕ → (List (Option (List ℤ)) → List (Option (List ℤ))) → Outcome → Outcome
with_row_cells q r f outcome = record {
  cells = update_at q (update_at r f) outcome.cells;
  res_mut = outcome.res_mut;
  events = outcome.events;
  commands = outcome.commands;
  registers = outcome.registers;
}

-- a view with words written in a row of a query at a kind
abbrev pub with_written : Seen → ℕ → ℕ → ℕ → List ℤ → Seen
with_written seen q r kind words = record {
  params = seen.params;
  shown = seen.shown;
  outcome = with_row_cells q r (with_words (query_at seen.params q) kind words) seen.outcome;
  opening = seen.opening;
}

-- ---- resources

-- what a resource is shown as, among those that are named
abbrev pub value_shown : List ℕ → List ℤ → ℕ → Option ℤ
value_shown [] values number = None
value_shown (n ∷ ns) [] number = None
value_shown (n ∷ ns) (v ∷ vs) number = cond (n == number) (Some v) (value_shown ns vs number)

-- what a resource is read as, by the names of those that are read and of those that are written, what these are shown as, and what was
-- written: this, else what is shown. 0 where it isn't named
abbrev pub value_read : List ℕ → List ℕ → List ℤ → List ℤ → List (Option ℤ) → ℕ → ℤ
value_read res res_mut shown shown_mut written number =
    unwrap_or (first_some (value_written res_mut written number) (first_some (value_shown res shown number) (value_shown res_mut shown_mut number))) (pos 0)

-- the values written, with one more at each place of a resource
abbrev pub with_value : List ℕ → ℕ → ℤ → List (Option ℤ) → List (Option ℤ)
with_value [] number value values = values
with_value (n ∷ ns) number value [] = []
with_value (n ∷ ns) number value (v ∷ vs) = cond (n == number) (Some value) v ∷ with_value ns number value vs

-- what a view reads a resource as
abbrev pub resource_read : Seen → ℕ → ℤ
resource_read seen number = value_read seen.params.res seen.params.res_mut seen.shown.res seen.shown.res_mut seen.outcome.res_mut number

-- a view with a resource written
abbrev pub with_resource : Seen → ℕ → ℤ → Seen
with_resource seen number value = record {
  params = seen.params;
  shown = seen.shown;
  outcome = record {
    cells = seen.outcome.cells;
    res_mut = with_value seen.params.res_mut number value seen.outcome.res_mut;
    events = seen.outcome.events;
    commands = seen.outcome.commands;
    registers = seen.outcome.registers;
  };
  opening = seen.opening;
}

-- ---- registers

-- a view with another value in a register
abbrev pub with_register : Seen → ℕ → ℤ → Seen
with_register seen register value = record {
  params = seen.params;
  shown = seen.shown;
  outcome = record {
    cells = seen.outcome.cells;
    res_mut = seen.outcome.res_mut;
    events = seen.outcome.events;
    commands = seen.outcome.commands;
    registers = set seen.outcome.registers register value;
  };
  opening = seen.opening;
}

-- ---- commands

-- the id of a slot
abbrev pub granted_at : Shown → ℕ → Entity
granted_at shown slot = granted_in shown.granted slot

-- a view with one more command
abbrev pub with_command : Seen → Command → Seen
with_command seen command = record {
  params = seen.params;
  shown = seen.shown;
  outcome = record {
    cells = seen.outcome.cells;
    res_mut = seen.outcome.res_mut;
    events = seen.outcome.events;
    commands = seen.outcome.commands ++ command ∷ [];
    registers = seen.outcome.registers;
  };
  opening = seen.opening;
}

-- ---- events

-- the events that are shown of a kind: those of its first reader
abbrev pub events_shown : Params → Shown → ℕ → List ℤ
events_shown params shown kind = events_sent params.reads shown.unread kind

-- a view with one more event of a kind sent
abbrev pub with_emitted : Seen → ℕ → ℤ → Seen
with_emitted seen kind value = record {
  params = seen.params;
  shown = seen.shown;
  outcome = record {
    cells = seen.outcome.cells;
    res_mut = seen.outcome.res_mut;
    events = with_event seen.params.writes kind value seen.outcome.events;
    commands = seen.outcome.commands;
    registers = seen.outcome.registers;
  };
  opening = seen.opening;
}
