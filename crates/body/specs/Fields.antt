-- Fields of the components in the rows of a query, many rows at once.
use Rattle.std.specs.Prelude.{ℕ, suc, ℤ, List, [], ◌∷◌, get_or, Option, unwrap_or}
use Rattle.model.specs.Lists.{update_at}
use Rattle.model.specs.access.Query.{Term}
use Rattle.model.specs.shown.Input.{ShownRow}
use Rattle.kinds.specs.Components.{widths, word_at}
pub use Rattle.column_store.specs.Fields.{words_of_width, words_with, field_cell}
use Rattle.body.specs.Columns.{Column, with_cell}
use Rattle.body.specs.Seen.{Seen, words_read, with_words, query_at, rows_at, read_at, no_row}
use Rattle.body.specs.Sheet.{Sheet}

-- the field of a component that is there, else 0
abbrev pub field_of : ℕ → Option (List ℤ) → ℤ
field_of place words = word_at (unwrap_or words []) place

-- what a view reads in a field of a row of a query
abbrev pub field_read : Seen → ℕ → ℕ → ℕ → ℕ → ℤ
field_read seen q r kind place = field_of place (read_at seen q r kind)

-- the cells of the rows of a query, with these values written in a field of the rows from one on, a value a row: the other field of each
-- component keeps its value
abbrev pub with_field_rows : List Term → List ShownRow → ℕ → ℕ → ℕ → List ℤ → List (List (Option (List ℤ))) → List (List (Option (List ℤ)))
with_field_rows terms rows kind place r [] cells = cells
with_field_rows terms rows kind place r (value ∷ more) cells =
    with_field_rows terms rows kind place (suc r) more
    (update_at r (with_words terms kind (words_with (widths kind) place value (unwrap_or (words_read terms (get_or rows r no_row).values (get_or cells r []) kind) []))) cells)

-- a view with these values written in a field of the rows of a query, from one on
abbrev pub with_fields : Seen → ℕ → ℕ → ℕ → ℕ → List ℤ → Seen
with_fields seen q kind place r values = record {
  params = seen.params;
  shown = seen.shown;
  outcome = record {
    cells = update_at q (with_field_rows (query_at seen.params q) (rows_at seen.shown q) kind place r values) seen.outcome.cells;
    res_mut = seen.outcome.res_mut;
    events = seen.outcome.events;
    commands = seen.outcome.commands;
    registers = seen.outcome.registers;
  };
  opening = seen.opening;
}

-- the same in the rows with these numbers, a value a row
abbrev pub with_listed_rows : List Term → List ShownRow → ℕ → ℕ → List ℕ → List ℤ → List (List (Option (List ℤ))) → List (List (Option (List ℤ)))
with_listed_rows terms rows kind place [] values cells = cells
with_listed_rows terms rows kind place (r ∷ ns) [] cells = cells
with_listed_rows terms rows kind place (r ∷ ns) (value ∷ more) cells =
    with_listed_rows terms rows kind place ns more
    (update_at r (with_words terms kind (words_with (widths kind) place value (unwrap_or (words_read terms (get_or rows r no_row).values (get_or cells r []) kind) []))) cells)

abbrev pub with_listed_fields : Seen → ℕ → ℕ → ℕ → List ℕ → List ℤ → Seen
with_listed_fields seen q kind place ns values = record {
  params = seen.params;
  shown = seen.shown;
  outcome = record {
    cells = update_at q (with_listed_rows (query_at seen.params q) (rows_at seen.shown q) kind place ns values) seen.outcome.cells;
    res_mut = seen.outcome.res_mut;
    events = seen.outcome.events;
    commands = seen.outcome.commands;
    registers = seen.outcome.registers;
  };
  opening = seen.opening;
}

-- ---- the same of a query by its sheet, and of a column

abbrev pub field_seen : Sheet → ℕ → ℕ → ℕ → ℤ
field_seen s r kind place = field_of place (words_read s.terms (get_or s.rows r no_row).values (get_or s.cells r []) kind)

abbrev pub sheet_with_fields : Sheet → ℕ → ℕ → ℕ → List ℤ → Sheet
sheet_with_fields s kind place r values = record {
  terms = s.terms;
  rows = s.rows;
  cells = with_field_rows s.terms s.rows kind place r values s.cells;
  taken = s.taken;
  tick = s.tick;
  places = s.places;
}

abbrev pub sheet_with_listed_fields : Sheet → ℕ → ℕ → List ℕ → List ℤ → Sheet
sheet_with_listed_fields s kind place ns values = record {
  terms = s.terms;
  rows = s.rows;
  cells = with_listed_rows s.terms s.rows kind place ns values s.cells;
  taken = s.taken;
  tick = s.tick;
  places = s.places;
}

-- a column with these values in a field of its cells, from one on
abbrev pub column_with_fields : ℕ → ℕ → ℕ → ℕ → List ℤ → Column → Column
column_with_fields width tick place i [] c = c
column_with_fields width tick place i (value ∷ more) c = column_with_fields width tick place (suc i) more (with_cell i (field_cell width tick place value) c)
