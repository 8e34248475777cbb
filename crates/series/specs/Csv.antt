-- Rows as text, with commas between the values.
use Rattle.std.specs.Prelude.{ℕ, ◌==◌, Bool, ℤ, List, [], ◌∷◌, ◌++◌, flat_map, codes, if◌then◌else◌}
use Rattle.std.specs.Fmt.{decimal, signed_decimal}
use Rattle.std.specs.List.{list_any}
use Rattle.series.specs.declared.rows.Row.{Row}

-- whether a byte is a comma
abbrev pub is_comma : ℕ → Bool
is_comma byte = byte == 44

-- a name behind a comma, between quotes where it has a comma
abbrev pub field_text : List ℕ → List ℕ
field_text name = if list_any is_comma name then 44 ∷ 34 ∷ name ++ 34 ∷ [] else 44 ∷ name

-- a value behind a comma
abbrev pub value_text : ℤ → List ℕ
value_text value = 44 ∷ signed_decimal value

-- the line of a row
abbrev pub row_line : Row → List ℕ
row_line row = decimal row.run ++ flat_map value_text row.values.items ++ 10 ∷ []

-- the head, and the lines of the rows
abbrev pub csv_text : List (List ℕ) → List Row → List ℕ
csv_text names rows = codes "run" ++ flat_map field_text names ++ (10 ∷ flat_map row_line rows)
