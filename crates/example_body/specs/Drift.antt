-- What the body makes of what it is shown: in each row of its first query the position moves by the velocity.
use Rattle.std.specs.Prelude.{ℕ, ℤ, ◌+ℤ◌, Bool, List, [], ◌∷◌, map, Option, None, unwrap_or}
use Rattle.std.specs.Int.{saturate_signed}
use mir.Syntax.{w64}
use Rattle.kinds.specs.Components.{word_at}
use Rattle.model.specs.Lists.{update_at}
use Rattle.model.specs.access.Query.{Term, writes}
use Rattle.model.specs.access.Access.{Params}
use Rattle.model.specs.shown.Input.{ShownRow, Shown}
use Rattle.model.specs.shown.Outcome.{Outcome, untouched}
use Rattle.body.specs.Seen.{words_shown, with_words, query_at, rows_at}

-- the numbers of the two kinds
abbrev pub position : ℕ
position = 0

abbrev pub velocity : ℕ
velocity = 1

-- a place moved by a step along an axis, cut to the least or the greatest value of 64 bits. What there is none of counts as 0
abbrev pub moved_along : ℕ → Option (List ℤ) → Option (List ℤ) → ℤ
moved_along axis place step = saturate_signed w64 (word_at (unwrap_or place []) axis +ℤ word_at (unwrap_or step []) axis)

abbrev pub moved : Option (List ℤ) → Option (List ℤ) → List ℤ
moved place step = moved_along 0 place step ∷ moved_along 1 place step ∷ []

-- the cells of a row: its position is written, moved by its velocity
abbrev pub moved_row : List Term → ShownRow → List (Option (List ℤ))
moved_row query row = with_words query position (moved (words_shown query row.values position) (words_shown query row.values velocity)) (map (λ term. None) query)

-- an outcome with these cells of the first query
abbrev pub with_first : List (List (Option (List ℤ))) → Outcome → Outcome
with_first cells o = record { cells = update_at 0 (λ _. cells) o.cells; res_mut = o.res_mut; events = o.events; commands = o.commands; registers = o.registers }

-- the outcome in which every row of the first query has moved, and nothing else is written
abbrev pub drifted : Params → Shown → Outcome
drifted params shown = with_first (map (moved_row (query_at params 0)) (rows_at shown 0)) (untouched params shown)

-- whether the first query may write positions
abbrev pub may_drift : Params → Bool
may_drift params = writes (query_at params 0) position
