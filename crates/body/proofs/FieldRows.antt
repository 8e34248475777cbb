-- A field that is written in many rows of a query.
use Rattle.std.proofs.Common.{◌≡◌, ℕ, zero, suc, ◌+◌, ◌-◌, ◌<◌, ◌≤◌, true, ℤ, List, [], ◌∷◌, ◌++◌, length, get_or, map, slice_get, take, drop, Option, Some, None, option_map, unwrap_or, refl, sym, ap, ap₂, ◌∙◌, subst, arith}
use Rattle.std.proofs.lemmas.Option.{slice_get_within}
use Rattle.std.proofs.lemmas.List.{drop_more, length-map, get_or_default, take-append-drop, drop-drop, length-drop, length-take-le}
use Rattle.model.specs.Lists.{update_at}
use Rattle.model.specs.state.State.{Cell}
use Rattle.model.specs.access.Query.{Term, writes}
use Rattle.model.specs.shown.Input.{ShownRow, words_of}
use Rattle.kinds.specs.Components.{widths, word_at}
use Rattle.column_store.specs.Cells.{changed_cell}
use Rattle.query_plan.specs.declared.row.Row.{Row}
use Rattle.body.specs.declared.view_column.ViewColumn.{ViewColumn}
use Rattle.body.specs.Columns.{Column, cell_in, with_cell}
use Rattle.body.specs.HeldColumns.{column_in, is_own, held_seen}
use Rattle.column_store.specs.Column.{ColumnCells}
use Rattle.column_store.specs.Fields.{with_field_cells}
use Rattle.body.specs.declared.view_column.ColumnAccess.{ColumnAccess}
use Rattle.body.specs.declared.view_column.ColumnAccess.TheVariants.{Written}
use Rattle.body.specs.Fields.{words_with, field_of, field_seen, field_cell, column_with_fields, with_field_rows, sheet_with_fields}
use Rattle.body.specs.Turns.{AreInTurn}
use Rattle.body.specs.Seen.{words_read, with_words, no_row}
use Rattle.body.specs.Sheet.{slot_in, slot_cell, seen_at, at_slot, Sheet, sheet_of, IsSheet, IsReadableAt, IsWritableAt}
use Rattle.body.proofs.Gets.{same-some, update-as, update-twice, update-id}
use Rattle.body.proofs.Sheets.{cell_in-is}
use Rattle.body.proofs.SheetCalls.{held-is, rows-within, row-readable, row-within, sheet-read, row-writable, sheet-after, sheet-set}

-- two changes of a cell that agree on what is there
pub cells-alike : (columns : List Column) (j i : ℕ) (f g : Cell → Cell) → ((c : Cell) → cell_in columns j i ≡ Some c → f c ≡ g c) → update_at j (with_cell i f) columns ≡ update_at j (with_cell i g) columns
cells-alike [] j i f g h = refl
cells-alike (c ∷ cs) zero i f g h =
    ap (λ (cells : List Cell). let x : Column = record { archetype = c.archetype; entities = c.entities; is_written = c.is_written; kind = c.kind; cells = cells; room = c.room } in x ∷ cs) (update-as f g c.cells i h)
cells-alike (c ∷ cs) (suc j) i f g h = ap (λ xs. c ∷ xs) (cells-alike cs j i f g h)

-- ---- a field of a column

-- the word that is read of a cell
pub word-read : (o : Option Cell) (place : ℕ) (w v : ℤ) → v ≡ w → option_map (λ (c : Cell). word_at c.words place) o ≡ Some w → v ≡ field_of place (words_of o)
word-read None place w v e h = absurd (cc)
word-read (Some c) place w v e h = e ∙ sym (same-some (word_at c.words place) w h)

-- what a column's cells become is what it becomes
pub column-fields : (width tick place from : ℕ) (values : List ℤ) (c : Column) →
    (let written : Column = record { archetype = c.archetype; entities = c.entities; is_written = c.is_written; kind = c.kind; cells = with_field_cells width tick place from values c.cells; room = c.room } in written)
    ≡ column_with_fields width tick place from values c
column-fields width tick place from [] c = refl
column-fields width tick place from (value ∷ more) c = column-fields width tick place (suc from) more (with_cell from (field_cell width tick place value) c)

-- a column of a query whose own components are written
pub written-fields : (h : ViewColumn) (column new : ColumnCells) (k tick place from : ℕ) (values : List ℤ) → h.cells ≡ Written column →
    new ≡ record { kind = column.kind; cells = with_field_cells (widths column.kind) tick place from values column.cells; room = column.room } → (held_seen h).kind ≡ k →
    held_seen (record { archetype = h.archetype; cells = Written new; world = h.world }) ≡ column_with_fields (widths k) tick place from values (held_seen h)
written-fields h column new k tick place from values is e kind =
    ap (λ (c : ColumnCells). held_seen (record { archetype = h.archetype; cells = Written c; world = h.world })) e
    ∙ ap (λ (a : ColumnAccess). let seen = held_seen h in let cells = column_in a in
    let written : Column = record { archetype = seen.archetype; entities = seen.entities; is_written = is_own a; kind = cells.kind; cells = with_field_cells (widths cells.kind) tick place from values cells.cells; room = cells.room } in written) (sym is)
    ∙ ap (λ n. let seen = held_seen h in
    let written : Column = record { archetype = seen.archetype; entities = seen.entities; is_written = seen.is_written; kind = seen.kind; cells = with_field_cells (widths n) tick place from values seen.cells; room = seen.room } in written) kind
    ∙ column-fields (widths k) tick place from values (held_seen h)

-- ---- a field of a row of columns

pub field-changed : (slots : List (List (Option ℕ))) (columns news : List Column) (row : Row) (k width tick place slot : ℕ) (value : ℤ) → slot_in slots row.archetype k ≡ Some slot →
    news ≡ update_at slot (with_cell row.place (field_cell width tick place value)) columns →
    news ≡ at_slot (slot_in slots row.archetype k) (with_cell row.place (changed_cell (words_with width place value (unwrap_or (words_of (seen_at slots columns row k)) [])) tick)) columns
field-changed slots columns news row k width tick place slot value named e =
    let old = unwrap_or (words_of (seen_at slots columns row k)) [] in
    let seen : seen_at slots columns row k ≡ cell_in columns slot row.place = ap (λ s. slot_cell s columns row.place) named in
    e
    ∙ cells-alike columns slot row.place (field_cell width tick place value) (changed_cell (words_with width place value old) tick)
    (λ c there. ap (λ ws. let x : Cell = record { words = words_with width place value ws; added = c.added; changed = tick } in x) (sym (ap (λ o. unwrap_or (words_of o) []) (seen ∙ there))))
    ∙ ap (λ s. at_slot s (with_cell row.place (changed_cell (words_with width place value old) tick)) columns) (sym named)

-- the value that is written, by another name
pub field-told : (slots : List (List (Option ℕ))) (columns news : List Column) (row : Row) (k width tick place : ℕ) (value v : ℤ) → v ≡ value →
    news ≡ at_slot (slot_in slots row.archetype k) (with_cell row.place (changed_cell (words_with width place v (unwrap_or (words_of (seen_at slots columns row k)) [])) tick)) columns →
    news ≡ at_slot (slot_in slots row.archetype k) (with_cell row.place (changed_cell (words_with width place value (unwrap_or (words_of (seen_at slots columns row k)) [])) tick)) columns
field-told slots columns news row k width tick place value v same e =
    e ∙ ap (λ x. at_slot (slot_in slots row.archetype k) (with_cell row.place (changed_cell (words_with width place x (unwrap_or (words_of (seen_at slots columns row k)) [])) tick)) columns) same

pub sheet-more : (k place from i : ℕ) (values : List ℤ) (d v : ℤ) (now new last : Sheet) → i < length values → v ≡ get_or values i d → new ≡ sheet_with_fields now k place (from + i) (v ∷ []) →
    sheet_with_fields now k place (from + i) (drop i values) ≡ last → sheet_with_fields new k place (from + (i + 1)) (drop (i + 1) values) ≡ last
sheet-more k place from i values d v now new last l read e h =
    ap₂ (λ a s. sheet_with_fields s k place a (drop (i + 1) values)) (let n : from + (i + 1) ≡ suc (from + i) = omega arith in n) (e ∙ ap (λ x. sheet_with_fields now k place (from + i) (x ∷ [])) read)
    ∙ sym (ap (sheet_with_fields now k place (from + i)) (drop_more values i d l)) ∙ h

-- ---- one column

-- a column that a slot names
pub record IsHeld (k at : ℕ) (cell : Option Cell) (h : ViewColumn) : Type 0 where
  pub kind : (held_seen h).kind ≡ k
  pub within : at < length (held_seen h).cells
  pub cell_is : slice_get (held_seen h).cells at ≡ cell

pub held-there : (columns : List ViewColumn) (o : Option ℕ) (k slot at : ℕ) (h : ViewColumn) → Some slot ≡ o → IsReadableAt o (map held_seen columns) k at → h ≡ get_or columns slot h → IsHeld k at (slot_cell o (map held_seen columns) at) h
held-there columns o k slot at h e readable is =
    let there = subst (λ s. IsReadableAt s (map held_seen columns) k at) (sym e) readable in
    let column = held-is columns slot there.column h there.there is in
    record {
      kind = ap (λ (c : Column). c.kind) (sym column) ∙ there.kind_is;
      within = subst (λ (c : Column). at < length c.cells) column there.within;
      cell_is = ap (λ (c : Column). slice_get c.cells at) (sym column) ∙ sym (cell_in-is (map held_seen columns) slot at there.column there.there) ∙ ap (λ s. slot_cell s (map held_seen columns) at) e;
    }

-- and an own one
pub record IsOwnHeld (k at : ℕ) (h : ViewColumn) : Type 0 where
  pub own : (held_seen h).is_written ≡ true
  pub kind : (held_seen h).kind ≡ k
  pub within : at < length (held_seen h).cells

pub own-there : (columns : List ViewColumn) (o : Option ℕ) (k slot at : ℕ) (h : ViewColumn) → Some slot ≡ o → IsWritableAt o (map held_seen columns) k at → h ≡ get_or columns slot h → IsOwnHeld k at h
own-there columns o k slot at h e writable is =
    let there = subst (λ s. IsWritableAt s (map held_seen columns) k at) (sym e) writable in
    let column = held-is columns slot there.column h there.there is in
    record {
      own = ap (λ (c : Column). c.is_written) (sym column) ∙ there.own;
      kind = ap (λ (c : Column). c.kind) (sym column) ∙ there.kind_is;
      within = subst (λ (c : Column). at < length c.cells) column there.within;
    }

pub own-within : (columns : List ViewColumn) (o : Option ℕ) (k slot at : ℕ) → Some slot ≡ o → IsWritableAt o (map held_seen columns) k at → slot < length columns
own-within columns o k slot at e writable =
    let there = subst (λ s. IsWritableAt s (map held_seen columns) k at) (sym e) writable in
    let l = slice_get_within (map held_seen columns) slot there.column there.there in
    omega (arith, length-map columns held_seen)

-- no value
pub none-written : (o : Option ℕ) (width tick place from : ℕ) (values : List ℤ) (columns : List Column) → length values ≡ 0 → columns ≡ at_slot o (column_with_fields width tick place from values) columns
none-written o width tick place from (v ∷ vs) columns l = absurd (omega arith)
none-written None width tick place from [] columns l = refl
none-written (Some j) width tick place from [] columns l = sym (update-id columns j)

-- ---- rows that stand in turn

-- a row that is there
pub record IsAt (rows : List Row) (n r place : ℕ) : Type 0 where
  pub row : Row
  pub row_is : row ≡ get_or rows r row
  pub archetype_is : row.archetype ≡ n
  pub place_is : row.place ≡ place

pub in-turn : (rows : List Row) (r count : ℕ) (first : Row) → AreInTurn rows r count → first ≡ get_or rows r first → r + count ≤ length rows → (i : ℕ) → i < count → IsAt rows first.archetype (r + i) (first.place + i)
in-turn rows r count first turn is within i l =
    let row = get_or rows (r + i) first in
    let p = turn i first l in
    record {
      row = row;
      row_is = get_or_default rows (r + i) first row (omega arith);
      archetype_is = p.0 ∙ ap (λ (x : Row). x.archetype) (sym is);
      place_is = p.1 ∙ ap (λ (x : Row). x.place + i) (sym is);
    }

-- as many rows are there as are shown
pub all-within : (tick : ℕ) (terms : List Term) (slots : List (List (Option ℕ))) (rows : List Row) (taken columns : List Column) → IsSheet tick terms slots rows taken columns → (s : Sheet) → sheet_of tick terms slots rows taken columns ≡ s →
    (r n : ℕ) → 0 < n → r + n ≤ length s.rows → r + n ≤ length rows
all-within tick terms slots rows taken columns is s seen r n some l = let last = rows-within tick terms slots rows taken columns is s seen (r + (n - 1)) (omega arith) in omega arith

module _ (tick : ℕ) (terms : List Term) (slots : List (List (Option ℕ))) (rows : List Row) (taken columns : List Column) (is : IsSheet tick terms slots rows taken columns) (s : Sheet) (seen : sheet_of tick terms slots rows taken columns ≡ s)
    (n k r p : ℕ) (l : r < length s.rows) (at : IsAt rows n r p) where
  -- what the row is read as, and that it may be read and written
  pub turn-read : (place : ℕ) → field_of place (words_of (slot_cell (slot_in slots n k) columns p)) ≡ field_seen s r k place
  turn-read place =
      ap (λ a. field_of place (words_of (slot_cell (slot_in slots a k) columns p))) (sym at.archetype_is)
      ∙ ap (λ q. field_of place (words_of (slot_cell (slot_in slots at.row.archetype k) columns q))) (sym at.place_is)
      ∙ ap (field_of place) (sheet-read tick terms slots rows taken columns is s seen r at.row k l at.row_is)

  pub turn-within : n < length slots
  turn-within = subst (λ a. a < length slots) at.archetype_is (row-within tick terms slots rows taken columns is s seen r at.row l at.row_is)

  pub turn-readable : IsReadableAt (slot_in slots n k) columns k p
  turn-readable =
      subst (λ a. IsReadableAt (slot_in slots a k) columns k p) at.archetype_is
      (subst (λ q. IsReadableAt (slot_in slots at.row.archetype k) columns k q) at.place_is (row-readable tick terms slots rows taken columns is s seen r at.row k l at.row_is))

  pub turn-writable : writes s.terms k ≡ true → IsWritableAt (slot_in slots n k) columns k p
  turn-writable w =
      subst (λ a. IsWritableAt (slot_in slots a k) columns k p) at.archetype_is
      (subst (λ q. IsWritableAt (slot_in slots at.row.archetype k) columns k q) at.place_is (row-writable tick terms slots rows taken columns is s seen r at.row k l at.row_is w))

-- what is left of a query once a field is written in rows that stand in turn
pub record IsFieldWritten (tick : ℕ) (terms : List Term) (slots : List (List (Option ℕ))) (rows : List Row) (taken news : List Column) (s : Sheet) (k place r : ℕ) (values : List ℤ) : Type 0 where
  pub sheet : IsSheet tick terms slots rows taken news
  pub seen : sheet_of tick terms slots rows taken news ≡ sheet_with_fields s k place r values

module _ (tick : ℕ) (terms : List Term) (slots : List (List (Option ℕ))) (rows : List Row) (taken : List Column) (n k j place : ℕ) (slot : slot_in slots n k ≡ Some j) where
  -- one row
  pub written-once : (columns : List Column) (s : Sheet) (r p : ℕ) (value : ℤ) → IsSheet tick terms slots rows taken columns → sheet_of tick terms slots rows taken columns ≡ s → r < length s.rows → IsAt rows n r p →
      update_at j (with_cell p (field_cell (widths k) tick place value)) columns ≡ update_at j (with_cell p (changed_cell (words_with (widths k) place value (unwrap_or (words_read s.terms (get_or s.rows r no_row).values (get_or s.cells r []) k) [])) tick)) columns
  written-once columns s r p value is seen l at =
      let read = sheet-read tick terms slots rows taken columns is s seen r at.row k l at.row_is in
      let here = ap (λ q. words_of (slot_cell (slot_in slots at.row.archetype k) columns q)) at.place_is in
      let of_n = ap (λ a. words_of (slot_cell (slot_in slots a k) columns p)) at.archetype_is ∙ ap (λ o. words_of (slot_cell o columns p)) slot in
      cells-alike columns j p (field_cell (widths k) tick place value) (changed_cell (words_with (widths k) place value (unwrap_or (words_read s.terms (get_or s.rows r no_row).values (get_or s.cells r []) k) [])) tick)
      (λ c e. ap (λ ws. let x : Cell = record { words = words_with (widths k) place value ws; added = c.added; changed = tick } in x)
      (ap (λ o. unwrap_or o []) (sym (ap words_of e) ∙ sym of_n ∙ sym here ∙ read)))

  pub field-written : (columns news : List Column) (s : Sheet) (r p : ℕ) (values : List ℤ) → IsSheet tick terms slots rows taken columns → sheet_of tick terms slots rows taken columns ≡ s → r + length values ≤ length s.rows →
      ((i : ℕ) → i < length values → IsAt rows n (r + i) (p + i)) → writes s.terms k ≡ true → news ≡ update_at j (column_with_fields (widths k) tick place p values) columns → IsFieldWritten tick terms slots rows taken news s k place r values
  field-written columns news s r p [] is seen l turn w e =
      let same = e ∙ update-id columns j in
      record { sheet = subst (IsSheet tick terms slots rows taken) (sym same) is; seen = ap (sheet_of tick terms slots rows taken) same ∙ seen }
  field-written columns news s r p (value ∷ more) is seen l turn w e =
      let within : r < length s.rows = omega arith in
      let at : IsAt rows n r p = subst (λ m. IsAt rows n m p) (let a : r + 0 ≡ r = omega arith in a) (subst (IsAt rows n (r + 0)) (let a : p + 0 ≡ p = omega arith in a) (turn 0 (omega arith))) in
      let words = words_with (widths k) place value (unwrap_or (words_read s.terms (get_or s.rows r no_row).values (get_or s.cells r []) k) []) in
      let middle = update_at j (with_cell p (field_cell (widths k) tick place value)) columns in
      let changed = written-once columns s r p value is seen within at
      ∙ ap (λ q. update_at j (with_cell q (changed_cell words tick)) columns) (sym at.place_is)
      ∙ ap (λ o. at_slot o (with_cell at.row.place (changed_cell words tick)) columns) (sym (ap (λ a. slot_in slots a k) at.archetype_is ∙ slot)) in
      let after = sheet-after tick terms slots rows taken columns is s seen r at.row k words middle within at.row_is w changed in
      let now = sheet-set tick terms slots rows taken columns is s seen r at.row k words middle within at.row_is w changed in
      let rest : suc r + length more ≤ length s.rows = omega arith in
      let later : (i : ℕ) → i < length more → IsAt rows n (suc r + i) (suc p + i) = λ i m.
      subst (λ a. IsAt rows n a (suc p + i)) (let a : r + suc i ≡ suc r + i = omega arith in a) (subst (IsAt rows n (r + suc i)) (let a : p + suc i ≡ suc p + i = omega arith in a) (turn (suc i) (omega arith))) in
      let done = field-written middle news (record { terms = s.terms; rows = s.rows; cells = update_at r (with_words s.terms k words) s.cells; taken = s.taken; tick = s.tick; places = s.places }) (suc r) (suc p) more after now rest later w
      (e ∙ sym (update-twice (column_with_fields (widths k) tick place (suc p) more) (with_cell p (field_cell (widths k) tick place value)) columns j)) in
      record { sheet = done.sheet; seen = done.seen }

-- the same where there may be no such column, and then no row
pub fields-written : (tick : ℕ) (terms : List Term) (slots : List (List (Option ℕ))) (rows : List Row) (taken columns news : List Column) (is : IsSheet tick terms slots rows taken columns) (s : Sheet)
    (seen : sheet_of tick terms slots rows taken columns ≡ s) (n k place r p : ℕ) (values : List ℤ) → ((i : ℕ) → i < length values → IsAt rows n (r + i) (p + i)) → r + length values ≤ length s.rows → writes s.terms k ≡ true →
    news ≡ at_slot (slot_in slots n k) (column_with_fields (widths k) tick place p values) columns → IsFieldWritten tick terms slots rows taken news s k place r values
fields-written tick terms slots rows taken columns news is s seen n k place r p values turn l w e = at (slot_in slots n k) refl values l turn e
  where
    at : (o : Option ℕ) → slot_in slots n k ≡ o → (vs : List ℤ) → r + length vs ≤ length s.rows → ((i : ℕ) → i < length vs → IsAt rows n (r + i) (p + i)) →
        news ≡ at_slot (slot_in slots n k) (column_with_fields (widths k) tick place p vs) columns → IsFieldWritten tick terms slots rows taken news s k place r vs
    at (Some j) is_j vs within there changed =
        field-written tick terms slots rows taken n k j place is_j columns news s r p vs is seen within there w (changed ∙ ap (λ o. at_slot o (column_with_fields (widths k) tick place p vs) columns) is_j)
    at None is_none [] within there changed =
        let same = changed ∙ ap (λ o. at_slot o (column_with_fields (widths k) tick place p []) columns) is_none in
        record { sheet = subst (IsSheet tick terms slots rows taken) (sym same) is; seen = ap (sheet_of tick terms slots rows taken) same ∙ seen }
    at None is_none (v ∷ vs) within there changed =
        absurd (subst (λ o. IsWritableAt o columns k (p + 0)) is_none (turn-writable tick terms slots rows taken columns is s seen n k (r + 0) (p + 0) (omega arith) (there 0 (omega arith)) w))

-- ---- values that are written in two goes

rows-then : (terms : List Term) (rows : List ShownRow) (k place r m : ℕ) (xs ys : List ℤ) (cells : List (List (Option (List ℤ)))) → m ≡ r + length xs →
    with_field_rows terms rows k place r (xs ++ ys) cells ≡ with_field_rows terms rows k place m ys (with_field_rows terms rows k place r xs cells)
rows-then terms rows k place r m [] ys cells e = ap (λ a. with_field_rows terms rows k place a ys cells) (let same : r ≡ m = omega arith in same)
rows-then terms rows k place r m (x ∷ xs) ys cells e = rows-then terms rows k place (suc r) m xs ys _ (omega arith)

pub sheet-further : (k place from i n m : ℕ) (values : List ℤ) (now new last : Sheet) → m ≡ i + n → i + n ≤ length values → new ≡ sheet_with_fields now k place (from + i) (take n (drop i values)) →
    sheet_with_fields now k place (from + i) (drop i values) ≡ last → sheet_with_fields new k place (from + m) (drop m values) ≡ last
sheet-further k place from i n m values now new last at l e h =
    let long : length (take n (drop i values)) ≡ n = length-take-le n (drop i values) (let d = length-drop i values in omega arith) in
    let parts : drop i values ≡ take n (drop i values) ++ drop m values = sym (take-append-drop n (drop i values)) ∙ ap (λ ys. take n (drop i values) ++ ys) (drop-drop n i values ∙ ap (λ a. drop a values) (let same : i + n ≡ m = omega arith in same)) in
    ap (λ (s : Sheet). sheet_with_fields s k place (from + m) (drop m values)) e
    ∙ sym (ap (λ (cells : List (List (Option (List ℤ)))). let x : Sheet = record { terms = now.terms; rows = now.rows; cells = cells; taken = now.taken; tick = now.tick; places = now.places } in x)
    (rows-then now.terms now.rows k place (from + i) (from + m) (take n (drop i values)) (drop m values) now.cells (omega arith)))
    ∙ ap (sheet_with_fields now k place (from + i)) (sym parts) ∙ h
