-- Rows that move one after the other.
use Rattle.std.proofs.Common.{◌≡◌, ℕ, zero, suc, ◌+◌, ◌<◌, ◌≤◌, Bool, true, false, ℤ, List, [], ◌∷◌, length, get_or, map, cond, Option, None, refl, sym, ap, ap₂, ◌∙◌, arith}
use Rattle.model.specs.Lists.{update_at, first_some, is_number}
use Rattle.model.specs.access.Query.{Term, written}
use Rattle.model.specs.access.Access.{Params}
use Rattle.model.specs.shown.Input.{ShownRow, Shown}
use Rattle.model.specs.shown.Outcome.{Outcome, words_in_row, untouched, untouched_rows, untouched_cells}
use Rattle.body.specs.Seen.{query_at, rows_at, row_at, cells_at, words_read, words_shown, with_words, with_row_cells, no_row}
use Rattle.example_body.specs.Drift.{position, velocity, moved, moved_row, with_first, drifted}

-- the cells where so many rows have moved
abbrev pub cells_to : List Term → ℕ → List ShownRow → List (List (Option (List ℤ)))
cells_to query n [] = []
cells_to query zero (row ∷ rows) = map (λ term. None) query ∷ cells_to query zero rows
cells_to query (suc n) (row ∷ rows) = moved_row query row ∷ cells_to query n rows

none-moved : (query : List Term) (rows : List ShownRow) → cells_to query 0 rows ≡ untouched_rows query rows
none-moved query [] = refl
none-moved query (row ∷ rows) = ap (λ cells. map (λ term. None) query ∷ cells) (none-moved query rows)

all-moved : (query : List Term) (n : ℕ) (rows : List ShownRow) → length rows ≤ n → cells_to query n rows ≡ map (moved_row query) rows
all-moved query n [] l = refl
all-moved query zero (row ∷ rows) l = absurd (omega arith)
all-moved query (suc n) (row ∷ rows) l = ap (λ cells. moved_row query row ∷ cells) (all-moved query n rows (omega arith))

-- the move of a row
abbrev pub move_of : List Term → ShownRow → List (Option (List ℤ)) → List (Option (List ℤ))
move_of query row = with_words query position (moved (words_shown query row.values position) (words_shown query row.values velocity))

one-more : (query : List Term) (n : ℕ) (rows : List ShownRow) → n < length rows → update_at n (move_of query (get_or rows n no_row)) (cells_to query n rows) ≡ cells_to query (suc n) rows
one-more query n [] l = absurd (omega arith)
one-more query zero (row ∷ rows) l = refl
one-more query (suc n) (row ∷ rows) l = ap (λ cells. moved_row query row ∷ cells) (one-more query n rows (omega arith))

-- a row that has not moved reads as it is shown
next-is-none : (query : List Term) (n : ℕ) (rows : List ShownRow) → n < length rows → get_or (cells_to query n rows) n [] ≡ map (λ term. None) query
next-is-none query n [] l = absurd (omega arith)
next-is-none query zero (row ∷ rows) l = refl
next-is-none query (suc n) (row ∷ rows) l = next-is-none query n rows (omega arith)

none-read : (query : List Term) (kind : ℕ) → words_in_row query [] kind ≡ None
none-read [] kind = refl
none-read (t ∷ ts) kind = refl

abbrev nothing : Option (List ℤ)
nothing = None

none-either : (b : Bool) → cond b nothing nothing ≡ nothing
none-either true = refl
none-either false = refl

none-there : (query : List Term) (kind : ℕ) → words_in_row query (map (λ term. None) query) kind ≡ None
none-there [] kind = refl
none-there (t ∷ ts) kind = ap (λ o. first_some o (words_in_row ts (map (λ term. None) ts) kind)) (none-either (is_number kind (written t))) ∙ none-there ts kind

unread : (query : List Term) (n : ℕ) (rows : List ShownRow) (kind : ℕ) (cells : List (List (List (Option (List ℤ))))) → n < length rows →
    words_in_row query (get_or (get_or (update_at 0 (λ _. cells_to query n rows) cells) 0 []) n []) kind ≡ None
unread query n rows kind [] l = none-read query kind
unread query n rows kind (c ∷ cs) l = ap (λ x. words_in_row query x kind) (next-is-none query n rows l) ∙ none-there query kind

-- an outcome with other cells
abbrev with_all : Outcome → List (List (List (Option (List ℤ)))) → Outcome
with_all o cells = record { cells = cells; res_mut = o.res_mut; events = o.events; commands = o.commands; registers = o.registers }

again : (query : List Term) (n : ℕ) (rows : List ShownRow) (cells : List (List (List (Option (List ℤ))))) → n < length rows →
    update_at 0 (update_at n (move_of query (get_or rows n no_row))) (update_at 0 (λ _. cells_to query n rows) cells) ≡ update_at 0 (λ _. cells_to query (suc n) rows) cells
again query n rows [] l = refl
again query n rows (c ∷ cs) l = ap (λ x. x ∷ cs) (one-more query n rows l)

-- the outcome where so many rows of the first query have moved
abbrev pub moved_to : Params → Shown → Outcome → ℕ → Outcome
moved_to params shown o n = with_first (cells_to (query_at params 0) n (rows_at shown 0)) o

-- the outcome of a view after a row has moved
abbrev pub after_row : ℕ → Params → Shown → Outcome → Outcome
after_row n params shown o = with_row_cells 0 n (with_words (query_at params 0) position (moved
    (words_read (query_at params 0) (row_at shown 0 n).values (cells_at o 0 n) position)
    (words_read (query_at params 0) (row_at shown 0 n).values (cells_at o 0 n) velocity))) o

-- one more row
pub step : (params : Params) (shown : Shown) (o : Outcome) (n : ℕ) → n < length (rows_at shown 0) → after_row n params shown (moved_to params shown o n) ≡ moved_to params shown o (n + 1)
step params shown o n l =
    let query = query_at params 0 in
    let rows = rows_at shown 0 in
    let now = moved_to params shown o n in
    let values = (row_at shown 0 n).values in
    ap₂ (λ place by. with_row_cells 0 n (with_words query position (moved place by)) now)
    (ap (λ x. first_some x (words_shown query values position)) (unread query n rows position o.cells l))
    (ap (λ x. first_some x (words_shown query values velocity)) (unread query n rows velocity o.cells l))
    ∙ ap (with_all o) (again query n rows o.cells l)
    ∙ ap (λ m. moved_to params shown o m) (let e : suc n ≡ n + 1 = omega arith in e)

-- none has moved at first
none-of : (queries : List (List Term)) (rows : List (List ShownRow)) → untouched_cells queries rows ≡ update_at 0 (λ _. cells_to (get_or queries 0 []) 0 (get_or rows 0 [])) (untouched_cells queries rows)
none-of [] rows = refl
none-of (query ∷ queries) [] = refl
none-of (query ∷ queries) (rows ∷ more) = ap (λ x. x ∷ untouched_cells queries more) (sym (none-moved query rows))

pub began : (params : Params) (shown : Shown) (o : Outcome) → o ≡ untouched params shown → o ≡ moved_to params shown o 0
began params shown o h = h ∙ ap (with_all (untouched params shown)) (none-of params.queries shown.rows) ∙ ap (λ x. moved_to params shown x 0) (sym h)

-- all have in the end
pub ended : (params : Params) (shown : Shown) (o : Outcome) (n : ℕ) → length (rows_at shown 0) ≤ n → o ≡ untouched params shown → moved_to params shown o n ≡ drifted params shown
ended params shown o n l h = ap (λ cells. with_first cells o) (all-moved (query_at params 0) n (rows_at shown 0) l) ∙ ap (with_first (map (moved_row (query_at params 0)) (rows_at shown 0))) h
