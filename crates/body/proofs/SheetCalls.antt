-- The calls of a query of a view, as its sheet has them.
use Rattle.std.proofs.Common.{◌≡◌, ℕ, ◌<◌, true, ℤ, List, [], length, get_or, map, slice_get, Option, Some, None, option_map, refl, sym, ap, ◌∙◌, subst, arith}
use Rattle.std.proofs.lemmas.Option.{slice_get-map, slice_get_within, slice_get_read}
use Rattle.std.proofs.lemmas.List.{length-map}
use Rattle.model.specs.Lists.{update_at}
use Rattle.model.specs.state.State.{Cell}
use Rattle.model.specs.access.Query.{Term, writes}
use Rattle.model.specs.shown.Input.{words_of}
use Rattle.column_store.specs.Cells.{changed_cell}
use Rattle.query_plan.specs.declared.row.Row.{Row}
use Rattle.body.specs.declared.view_column.ViewColumn.{ViewColumn}
use Rattle.body.specs.Columns.{Column, with_cell}
use Rattle.body.specs.HeldColumns.{held_seen}
use Rattle.body.specs.Seen.{words_read, with_words, no_row}
use Rattle.body.specs.Sheet.{slot_in, slot_cell, seen_at, at_slot, row_of, Sheet, sheet_of, IsSheet, IsRow, IsReadable, IsReadableAt, IsWritable}
use Rattle.body.proofs.Gets.{same-some, all-get}
use Rattle.body.proofs.Sheets.{cell_in-is, is-some, readable, read-row}
use Rattle.body.proofs.SheetWrites.{writable, cells-written, sheet-written}

pub words_of-map : (o : Option Cell) → words_of o ≡ option_map (λ c. c.words) o
words_of-map None = refl
words_of-map (Some c) = refl

pub held-is : (columns : List ViewColumn) (slot : ℕ) (column : Column) (h : ViewColumn) → slice_get (map held_seen columns) slot ≡ Some column → h ≡ get_or columns slot h → column ≡ held_seen h
held-is columns slot column h there is =
    let inside : slot < length columns = (let l = slice_get_within (map held_seen columns) slot column there in omega (arith, length-map columns held_seen)) in
    same-some column (held_seen h) (sym there ∙ slice_get-map held_seen columns slot ∙ ap (option_map held_seen) (slice_get_read columns (length columns) slot h refl inside is))

-- the component in a row, from that of its column
pub cell-read : (slots : List (List (Option ℕ))) (columns : List ViewColumn) (row : Row) (k slot : ℕ) (h : ViewColumn) (w : List ℤ) → Some slot ≡ slot_in slots row.archetype k → IsReadable slots (map held_seen columns) row k → h ≡ get_or columns slot h →
    option_map (λ c. c.words) (slice_get (held_seen h).cells row.place) ≡ Some w → Some w ≡ words_of (seen_at slots (map held_seen columns) row k)
cell-read slots columns row k slot h w e r is words =
    let there = subst (λ s. IsReadableAt s (map held_seen columns) k row.place) (sym e) r in
    let column = held-is columns slot there.column h there.there is in
    sym (ap (λ s. words_of (slot_cell s (map held_seen columns) row.place)) (sym e)
    ∙ ap words_of (cell_in-is (map held_seen columns) slot row.place there.column there.there ∙ ap (λ (c : Column). slice_get c.cells row.place) column)
    ∙ words_of-map (slice_get (held_seen h).cells row.place) ∙ words)

module _ (tick : ℕ) (terms : List Term) (slots : List (List (Option ℕ))) (rows : List Row) (taken columns : List Column) (is : IsSheet tick terms slots rows taken columns) (s : Sheet) (seen : sheet_of tick terms slots rows taken columns ≡ s) where
  pub rows-within : (r : ℕ) → r < length s.rows → r < length rows
  rows-within r l = let e = length-map rows (row_of slots taken terms) in let f = ap (λ (x : Sheet). length x.rows) seen in omega arith

  pub row-there : (r : ℕ) (row : Row) → r < length s.rows → row ≡ get_or rows r row → slice_get rows r ≡ Some row
  row-there r row l e = slice_get_read rows (length rows) r row refl (rows-within r l) e

  pub row-readable : (r : ℕ) (row : Row) (k : ℕ) → r < length s.rows → row ≡ get_or rows r row → IsReadable slots columns row k
  row-readable r row k l e = readable tick terms slots rows taken columns is r row k (row-there r row l e)

  pub row-within : (r : ℕ) (row : Row) → r < length s.rows → row ≡ get_or rows r row → row.archetype < length slots
  row-within r row l e = (all-get (IsRow terms slots taken) rows r row is.rows_are (row-there r row l e)).within

  -- what a row is read as
  pub sheet-read : (r : ℕ) (row : Row) (k : ℕ) → r < length s.rows → row ≡ get_or rows r row → words_of (seen_at slots columns row k) ≡ words_read s.terms (get_or s.rows r no_row).values (get_or s.cells r []) k
  sheet-read r row k l e =
      ap (λ x. words_of (seen_at slots columns x k)) e
      ∙ subst (λ (x : Sheet). words_of (seen_at slots columns (get_or rows r row) k) ≡ words_read x.terms (get_or x.rows r no_row).values (get_or x.cells r []) k) seen
      (sym (read-row tick terms slots rows taken columns is r row k (rows-within r l)))

  written-term : (k : ℕ) → writes s.terms k ≡ true → writes terms k ≡ true
  written-term k w = subst (λ (x : Sheet). writes x.terms k ≡ true) (sym seen) w

  pub row-writable : (r : ℕ) (row : Row) (k : ℕ) → r < length s.rows → row ≡ get_or rows r row → writes s.terms k ≡ true → IsWritable slots columns row k
  row-writable r row k l e w = writable tick terms slots rows taken columns is r row k (row-there r row l e) (written-term k w)

  module _ (r : ℕ) (row : Row) (k : ℕ) (words : List ℤ) (news : List Column) (within : r < length s.rows) (row_is : row ≡ get_or rows r row) (mut_term : writes s.terms k ≡ true)
      (changed : news ≡ at_slot (slot_in slots row.archetype k) (with_cell row.place (changed_cell words tick)) columns) where
    slot-of : (j : ℕ) × (slot_in slots row.archetype k ≡ Some j)
    slot-of = is-some (slot_in slots row.archetype k) ((all-get (IsRow terms slots taken) rows r row is.rows_are (row-there r row within row_is)).writable k (written-term k mut_term))

    news-are : (j : ℕ) → slot_in slots row.archetype k ≡ Some j → news ≡ update_at j (with_cell row.place (changed_cell words tick)) columns
    news-are j e = changed ∙ ap (λ o. at_slot o (with_cell row.place (changed_cell words tick)) columns) e

    pub sheet-after : IsSheet tick terms slots rows taken news
    sheet-after =
        let slot = slot-of in
        subst (IsSheet tick terms slots rows taken) (sym (news-are slot.0 slot.1))
        (sheet-written tick terms slots rows taken columns is r row k slot.0 words (row-there r row within row_is) (written-term k mut_term) slot.1)

    -- what is written in a row
    pub sheet-set : sheet_of tick terms slots rows taken news ≡ record { terms = s.terms; rows = s.rows; cells = update_at r (with_words s.terms k words) s.cells; taken = s.taken; tick = s.tick; places = s.places }
    sheet-set =
        let slot = slot-of in
        let first = sheet_of tick terms slots rows taken columns in
        let made = λ (cells : List (List (Option (List ℤ)))). (let x : Sheet = record { terms = first.terms; rows = first.rows; cells = cells; taken = first.taken; tick = first.tick; places = first.places } in x) in
        ap (λ cs. sheet_of tick terms slots rows taken cs) (news-are slot.0 slot.1)
        ∙ ap made (cells-written tick terms slots rows taken columns is r row k slot.0 words (row-there r row within row_is) (written-term k mut_term) slot.1)
        ∙ ap (λ (x : Sheet). let y : Sheet = record { terms = x.terms; rows = x.rows; cells = update_at r (with_words x.terms k words) x.cells; taken = x.taken; tick = x.tick; places = x.places } in y) seen
