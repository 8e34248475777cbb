-- Where the systems of a schedule stand in its drawing.
use Rattle.std.specs.Prelude.{ℕ, ◌+◌, ◌*◌, ◌==◌, ◌&&◌, min, max, Bool, cond, List, [], ◌∷◌, get_or}
use Rattle.model.specs.steps.Schedule.{Schedule, level_of}

-- the column of a level
abbrev pub column : ℕ → ℕ
column level = 140 + 380 * level

-- a row
abbrev pub line : ℕ → ℕ
line row = 76 + 112 * row

-- the leader of a system, which stands for it: itself where none is listed
abbrev pub leader_of : List ℕ → ℕ → ℕ
leader_of leaders n = get_or leaders n n

-- whether a system has a row in the column of a level
abbrev pub is_leading : Schedule → List ℕ → ℕ → ℕ → Bool
is_leading s leaders level n = (leader_of leaders n == n) && (level_of s n == level)

-- the row behind one; there are never so many that it stays
abbrev pub next_row : ℕ → ℕ
next_row row = min (row + 1) 4294967295

-- the row of a leader, where so many rows of its level come before these systems
abbrev pub row_from : Schedule → List ℕ → ℕ → ℕ → ℕ → List ℕ → ℕ
row_from s leaders level leader row [] = row
row_from s leaders level leader row (m ∷ order) = cond (m == leader) row (row_from s leaders level leader (cond (is_leading s leaders level m) (next_row row) row) order)

-- the row of a system: how many rows of its level come before that of its leader, in schedule order
abbrev pub row_of : Schedule → List ℕ → ℕ → ℕ
row_of s leaders n = row_from s leaders (level_of s n) (leader_of leaders n) 0 s.order

-- so many rows, or as many as these systems need
abbrev pub most_rows : Schedule → List ℕ → ℕ → List ℕ → ℕ
most_rows s leaders rows [] = rows
most_rows s leaders rows (n ∷ order) = most_rows s leaders (max rows (next_row (row_of s leaders n))) order
