-- Where the rows of a query stand, and the rows as a list.
use Rattle.std.specs.Prelude.{◌≡◌, ℕ, suc, List, [], ◌∷◌, length, slice_get, Some}
use Rattle.model.specs.declared.entities.Entity.{Entity}
use Rattle.archetype_store.specs.Layout.{Archetype, archetype_at}
use Rattle.query_plan.specs.declared.row.Row.{Row}
use Rattle.query_plan.specs.declared.matched_rows.MatchedRows.{MatchedRows}
use Rattle.query_plan.specs.declared.matched_rows.MatchedRows.TheVariants.{All, Listed}

-- a row for each of these entities, which stand from a place on in the archetype of a number
abbrev pub every_row : ℕ → ℕ → List Entity → List Row
every_row n place [] = []
every_row n place (e ∷ es) = record { entity = e; archetype = n; place = place } ∷ every_row n (suc place) es

-- rows of the archetype of a number, each at its own place among the rows
abbrev pub AreEvery : ℕ → List Row → Type 0
AreEvery n rows = (i : ℕ) (row : Row) → slice_get rows i ≡ Some row → (row.archetype ≡ n) × (row.place ≡ i)

-- the rows that stand at these places
abbrev pub rows_of_places : List Archetype → MatchedRows → List Row
rows_of_places layout (All n count) = every_row n 0 (archetype_at layout n).entities
rows_of_places layout (Listed rows) = rows.items

-- where they are all of an archetype, it is known how many there are
abbrev pub IsCounted : List Archetype → MatchedRows → Type 0
IsCounted layout (All n count) = length (archetype_at layout n).entities ≡ count
IsCounted layout (Listed rows) = Unit {0}
