-- The lines of rows, by the components of their entities.
use Rattle.std.proofs.Common.{◌≡◌, ◌==◌, ◌<◌, ◌+◌, ℕ, zero, suc, Bool, true, false, cond, List, [], ◌∷◌, ◌++◌, length, map, flat_map, get_or, Some, None, refl, sym, ap, ap₂, ◌∙◌, arith, decimal}
use Rattle.std.specs.List.{position}
use Rattle.std.proofs.lemmas.Bool.{cond-true, cond-false, eqb-true}
use Rattle.std.proofs.lemmas.List.Quantifiers.{position-Some}
use Rattle.archetype_store.specs.Row.{component_of}
use Rattle.archetype_store.proofs.Rows.{find-none, is_of}
use Rattle.column_store.specs.declared.stamped.StampedValue.{StampedValue}
use Rattle.kinds.specs.Value.{value_number, value_words}
use Rattle.model.specs.access.Query.{Term}
use Rattle.model.specs.shown.Input.{ShownRow, fetch, is_row, rows_from, rows_of, shown_row, words_of}
use Rattle.model.specs.state.Rows.{cell_at, row_at}
use Rattle.model.specs.declared.entities.Entity.{Entity}
use Rattle.model.specs.state.State.{Component, Slot}
use Rattle.query_plan.specs.declared.row.Row.{Row}
use Rattle.state_lines.specs.Fetched.{line_of_row, text_of_kind, text_of_term, text_of_terms}
use Rattle.state_lines.specs.Looks.{fetched_text, query_lines, row_line, terms_text}
use Rattle.state_lines.specs.WorldText.{component_text}

-- ---- a component of a row

-- a kind that has no place among components shows nothing
pub kind_nowhere : (k : ℕ) (xs : List StampedValue) → position (is_of k) xs ≡ None → text_of_kind (map component_of xs) k ≡ []
kind_nowhere k xs none = ap (λ c. fetched_text k (words_of c)) (find-none k xs none)

-- the cell of a kind is that of the first component of the kind
cell_at_place : (k : ℕ) (xs : List StampedValue) (i : ℕ) (d : StampedValue) → i < length xs → is_of k (get_or xs i d) ≡ true → ((j : ℕ) → j < i → is_of k (get_or xs j d) ≡ false) →
    cell_at (map component_of xs) k ≡ Some (component_of (get_or xs i d)).cell
cell_at_place k [] i d low is before = absurd (omega arith)
cell_at_place k (x ∷ xs) zero d low is before = cond-true (value_number x.value == k) (Some (component_of x).cell) (cell_at (map component_of xs) k) is
cell_at_place k (x ∷ xs) (suc i) d low is before =
    cond-false (value_number x.value == k) (Some (component_of x).cell) (cell_at (map component_of xs) k) (before 0 (omega arith))
    ∙ cell_at_place k xs i d (omega arith) is (λ j less. before (suc j) (omega (arith, less)))

-- it shows the component at its place
pub kind_at_place : (k : ℕ) (xs : List StampedValue) (i : ℕ) (d : StampedValue) → position (is_of k) xs ≡ Some i →
    component_text (value_number (get_or xs i d).value) (value_words (get_or xs i d).value) ≡ text_of_kind (map component_of xs) k
kind_at_place k xs i d found =
    let at = position-Some (is_of k) xs i d found in
    ap (λ n. component_text n (value_words (get_or xs i d).value)) (eqb-true (value_number (get_or xs i d).value) k at.1)
    ∙ sym (ap (λ c. fetched_text k (words_of c)) (cell_at_place k xs i d at.0 at.1 at.2))

-- ---- rows

-- what terms fetched of a row is what they fetch of it
fetched : (row : List Component) (terms : List Term) → terms_text terms (map (fetch row) terms) ≡ text_of_terms row terms
fetched row [] = refl
fetched row (term ∷ terms) = ap (λ t. text_of_term row term ++ t) (fetched row terms)

-- the line of a row is that of its entity
line_of_shown : (query : List Term) (index : ℕ) (slot : Slot) → row_line query (shown_row query index slot) ≡ line_of_row query (record { index = index; generation = slot.generation }) slot.row
line_of_shown query index slot = ap (λ t. decimal index ++ (118 ∷ decimal slot.generation) ++ t ++ 10 ∷ []) (fetched slot.row query)

lines_from : (query : List Term) (since n : ℕ) (at : ℕ → List Component) (slots : List Slot) → ((i : ℕ) → i < length slots → row_at slots i ≡ at (n + i)) →
    flat_map (row_line query) (rows_from query since n slots) ≡ flat_map (λ (e : Entity). line_of_row query e (at e.index)) (map (λ (row : ShownRow). row.entity) (rows_from query since n slots))
unfolding rows_from
lines_from query since n at [] are = refl
lines_from query since n at (slot ∷ slots) are = go (lines_from query since (suc n) at slots (λ i low. are (suc i) (omega (arith, low)) ∙ ap at (omega arith))) (is_row query since slot)
  where
    here : slot.row ≡ at n
    here = are 0 (omega arith) ∙ ap at (omega arith)

    go : flat_map (row_line query) (rows_from query since (suc n) slots) ≡ flat_map (λ (e : Entity). line_of_row query e (at e.index)) (map (λ (row : ShownRow). row.entity) (rows_from query since (suc n) slots)) → (b : Bool) → flat_map (row_line query) (cond b (shown_row query n slot ∷ rows_from query since (suc n) slots) (rows_from query since (suc n) slots))
        ≡ flat_map (λ (e : Entity). line_of_row query e (at e.index)) (map (λ (row : ShownRow). row.entity) (cond b (shown_row query n slot ∷ rows_from query since (suc n) slots) (rows_from query since (suc n) slots)))
    go rest true = ap₂ ◌++◌ (line_of_shown query n slot ∙ ap (line_of_row query (record { index = n; generation = slot.generation })) here) rest
    go rest false = rest

-- the lines of planned rows, each by its entity
by_entity : {A : Type 0} (f : Entity → List A) (rows : List Row) → flat_map (λ (row : Row). f row.entity) rows ≡ flat_map f (map (λ (row : Row). row.entity) rows)
by_entity f [] = refl
by_entity f (row ∷ rows) = ap (λ t. f row.entity ++ t) (by_entity f rows)

-- so the lines of planned rows are those of the rows of the query
pub lines_of_planned : (query : List Term) (since : ℕ) (slots : List Slot) (rows : List Row) → map (λ (row : Row). row.entity) rows ≡ map (λ (row : ShownRow). row.entity) (rows_of query since slots) →
    flat_map (λ (row : Row). line_of_row query row.entity (row_at slots row.entity.index)) rows ≡ query_lines since query slots
lines_of_planned query since slots rows same =
    by_entity (λ e. line_of_row query e (row_at slots e.index)) rows
    ∙ (ap (flat_map (λ (e : Entity). line_of_row query e (row_at slots e.index))) same
    ∙ sym (lines_from query since 0 (row_at slots) slots (λ i low. ap (row_at slots) (omega arith))))
