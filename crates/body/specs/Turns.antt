-- Rows that stand one after the other in one archetype.
use Rattle.std.specs.Prelude.{◌≡◌, ℕ, ◌+◌, ◌<◌, List, get_or}
use Rattle.query_plan.specs.declared.row.Row.{Row}

-- from row r on so many do
abbrev pub AreInTurn : List Row → ℕ → ℕ → Type 0
AreInTurn rows r count = (i : ℕ) (d : Row) → i < count → ((get_or rows (r + i) d).archetype ≡ (get_or rows r d).archetype) × ((get_or rows (r + i) d).place ≡ (get_or rows r d).place + i)

-- the rows with these numbers, from the first on so many, do
abbrev pub AreInTurnAt : List Row → List ℕ → ℕ → Type 0
AreInTurnAt rows ns count =
    (i : ℕ) (d : Row) → i < count →
    ((get_or rows (get_or ns i 0) d).archetype ≡ (get_or rows (get_or ns 0 0) d).archetype) × ((get_or rows (get_or ns i 0) d).place ≡ (get_or rows (get_or ns 0 0) d).place + i)
