-- Fields of the rows with some numbers.
use Rattle.std.proofs.Common.{◌≡◌, ℕ, suc, ◌+◌, ◌<◌, ◌≤◌, inl, inr, true, ℤ, List, [], ◌∷◌, ◌++◌, length, get_or, take, drop, Option, Some, None, unwrap_or, refl, sym, ap, ◌∙◌, subst, arith}
use Rattle.std.proofs.lemmas.Bool.{cases_lt}
use Rattle.std.proofs.lemmas.List.{get_or_default, length-take-le, length-drop, take-append-drop, drop-drop}
use Rattle.model.specs.Lists.{update_at}
use Rattle.model.specs.access.Query.{Term, writes}
use Rattle.model.specs.shown.Input.{ShownRow}
use Rattle.kinds.specs.Components.{widths}
use Rattle.column_store.specs.Cells.{changed_cell}
use Rattle.query_plan.specs.declared.row.Row.{Row}
use Rattle.body.specs.Columns.{Column, with_cell}
use Rattle.body.specs.Fields.{words_with, field_cell, column_with_fields, with_listed_rows, sheet_with_listed_fields}
use Rattle.body.specs.Seen.{words_read, with_words, no_row}
use Rattle.body.specs.Sheet.{slot_in, at_slot, Sheet, sheet_of, IsSheet, IsWritableAt}
use Rattle.body.specs.Turns.{AreInTurnAt}
use Rattle.body.proofs.Gets.{update-twice, update-id}
use Rattle.body.proofs.FieldRows.{IsAt, turn-writable, written-once}
use Rattle.body.proofs.SheetCalls.{rows-within, sheet-after, sheet-set}

-- ---- rows that stand in turn

-- one
pub one-listed : (rows : List Row) (ns : List ℕ) → AreInTurnAt rows ns 1
one-listed rows ns i d l =
    let none : i ≡ 0 = omega arith in (
      ap (λ k. (get_or rows (get_or ns k 0) d).archetype) none,
      ap (λ k. (get_or rows (get_or ns k 0) d).place) none ∙ (let p = (get_or rows (get_or ns 0 0) d).place in let e : p ≡ p + i = omega arith in e),
    )

-- one more
pub more-listed : (rows : List Row) (ns : List ℕ) (count : ℕ) (first next : Row) → AreInTurnAt rows ns count → get_or ns 0 0 < length rows → get_or ns count 0 < length rows → first ≡ get_or rows (get_or ns 0 0) first → next ≡ get_or rows (get_or ns count 0) next →
    next.archetype ≡ first.archetype → next.place ≡ first.place + count → AreInTurnAt rows ns (count + 1)
more-listed rows ns count first next turn at_first at_next is_first is_next archetype place i d l = elim (cases_lt i count) [
  | inl low ↦ turn i d low
  | inr high ↦
      let last : i ≡ count = omega arith in
      let a : get_or rows (get_or ns i 0) d ≡ next = ap (λ k. get_or rows (get_or ns k 0) d) last ∙ get_or_default rows (get_or ns count 0) d next at_next ∙ sym is_next in
      let b : get_or rows (get_or ns 0 0) d ≡ first = get_or_default rows (get_or ns 0 0) d first at_first ∙ sym is_first in (
        ap (λ (x : Row). x.archetype) a ∙ archetype ∙ ap (λ (x : Row). x.archetype) (sym b),
        ap (λ (x : Row). x.place) a ∙ place ∙ ap (λ k. first.place + k) (sym last) ∙ ap (λ (x : Row). x.place + i) (sym b),
      )
]

-- each of them is there
pub listed-turn : (rows : List Row) (ns : List ℕ) (count : ℕ) (first : Row) → AreInTurnAt rows ns count → first ≡ get_or rows (get_or ns 0 0) first → ((i : ℕ) → i < count → get_or ns i 0 < length rows) →
    (i : ℕ) → i < count → IsAt rows first.archetype (get_or ns i 0) (first.place + i)
listed-turn rows ns count first turn is within i l =
    let row = get_or rows (get_or ns i 0) first in
    let p = turn i first l in
    record {
      row = row;
      row_is = get_or_default rows (get_or ns i 0) first row (within i l);
      archetype_is = p.0 ∙ ap (λ (x : Row). x.archetype) (sym is);
      place_is = p.1 ∙ ap (λ (x : Row). x.place + i) (sym is);
    }

-- so is each of some rows of a query that stand in turn
pub query-turn : (tick : ℕ) (terms : List Term) (slots : List (List (Option ℕ))) (rows : List Row) (taken columns : List Column) → IsSheet tick terms slots rows taken columns → (s : Sheet) → sheet_of tick terms slots rows taken columns ≡ s →
    (ns : List ℕ) (first : Row) → AreInTurnAt s.places ns (length ns) → first ≡ get_or rows (get_or ns 0 0) first → ((i : ℕ) → i < length ns → get_or ns i 0 < length s.rows) →
    (i : ℕ) → i < length ns → IsAt rows first.archetype (get_or ns i 0) (first.place + i)
query-turn tick terms slots rows taken columns is s seen ns first turn told within =
    listed-turn rows ns (length ns) first (subst (λ rs. AreInTurnAt rs ns (length ns)) (sym (ap (λ (x : Sheet). x.places) seen)) turn) told
    (λ i l. rows-within tick terms slots rows taken columns is s seen (get_or ns i 0) (within i l))

-- ---- a field that is written in them

pub record IsListedWritten (tick : ℕ) (terms : List Term) (slots : List (List (Option ℕ))) (rows : List Row) (taken news : List Column) (s : Sheet) (k place : ℕ) (ns : List ℕ) (values : List ℤ) : Type 0 where
  pub sheet : IsSheet tick terms slots rows taken news
  pub seen : sheet_of tick terms slots rows taken news ≡ sheet_with_listed_fields s k place ns values

module _ (tick : ℕ) (terms : List Term) (slots : List (List (Option ℕ))) (rows : List Row) (taken : List Column) (n k j place : ℕ) (slot : slot_in slots n k ≡ Some j) where
  written-in-turn : (columns news : List Column) (s : Sheet) (ns : List ℕ) (p : ℕ) (values : List ℤ) → IsSheet tick terms slots rows taken columns → sheet_of tick terms slots rows taken columns ≡ s → length values ≤ length ns →
      ((i : ℕ) → i < length ns → get_or ns i 0 < length s.rows) → ((i : ℕ) → i < length values → IsAt rows n (get_or ns i 0) (p + i)) → writes s.terms k ≡ true → news ≡ update_at j (column_with_fields (widths k) tick place p values) columns →
      IsListedWritten tick terms slots rows taken news s k place ns values
  written-in-turn columns news s [] p [] is seen few l turn w e =
      let same = e ∙ update-id columns j in
      record { sheet = subst (IsSheet tick terms slots rows taken) (sym same) is; seen = ap (sheet_of tick terms slots rows taken) same ∙ seen }
  written-in-turn columns news s (r ∷ ns) p [] is seen few l turn w e =
      let same = e ∙ update-id columns j in
      record { sheet = subst (IsSheet tick terms slots rows taken) (sym same) is; seen = ap (sheet_of tick terms slots rows taken) same ∙ seen }
  written-in-turn columns news s [] p (value ∷ more) is seen few l turn w e = absurd (omega arith)
  written-in-turn columns news s (r ∷ ns) p (value ∷ more) is seen few l turn w e =
      let within : r < length s.rows = l 0 (omega arith) in
      let at : IsAt rows n r p = subst (IsAt rows n r) (let a : p + 0 ≡ p = omega arith in a) (turn 0 (omega arith)) in
      let words = words_with (widths k) place value (unwrap_or (words_read s.terms (get_or s.rows r no_row).values (get_or s.cells r []) k) []) in
      let middle = update_at j (with_cell p (field_cell (widths k) tick place value)) columns in
      let changed = written-once tick terms slots rows taken n k j place slot columns s r p value is seen within at
      ∙ ap (λ q. update_at j (with_cell q (changed_cell words tick)) columns) (sym at.place_is)
      ∙ ap (λ o. at_slot o (with_cell at.row.place (changed_cell words tick)) columns) (sym (ap (λ a. slot_in slots a k) at.archetype_is ∙ slot)) in
      let after = sheet-after tick terms slots rows taken columns is s seen r at.row k words middle within at.row_is w changed in
      let now = sheet-set tick terms slots rows taken columns is s seen r at.row k words middle within at.row_is w changed in
      let rest : length more ≤ length ns = omega arith in
      let later : (i : ℕ) → i < length more → IsAt rows n (get_or ns i 0) (suc p + i) = λ i m.
      subst (IsAt rows n (get_or ns i 0)) (let a : p + suc i ≡ suc p + i = omega arith in a) (turn (suc i) (omega arith)) in
      let done = written-in-turn middle news (record { terms = s.terms; rows = s.rows; cells = update_at r (with_words s.terms k words) s.cells; taken = s.taken; tick = s.tick; places = s.places }) ns (suc p) more after now rest (λ i m. l (suc i) (omega arith)) later w
      (e ∙ sym (update-twice (column_with_fields (widths k) tick place (suc p) more) (with_cell p (field_cell (widths k) tick place value)) columns j)) in
      record { sheet = done.sheet; seen = done.seen }

-- the same where there may be no such column, and then no row
pub listed-written : (tick : ℕ) (terms : List Term) (slots : List (List (Option ℕ))) (rows : List Row) (taken columns news : List Column) (is : IsSheet tick terms slots rows taken columns) (s : Sheet)
    (seen : sheet_of tick terms slots rows taken columns ≡ s) (n k place p : ℕ) (ns : List ℕ) (values : List ℤ) → length values ≤ length ns → ((i : ℕ) → i < length ns → get_or ns i 0 < length s.rows) →
    ((i : ℕ) → i < length values → IsAt rows n (get_or ns i 0) (p + i)) → writes s.terms k ≡ true →
    news ≡ at_slot (slot_in slots n k) (column_with_fields (widths k) tick place p values) columns → IsListedWritten tick terms slots rows taken news s k place ns values
listed-written tick terms slots rows taken columns news is s seen n k place p ns values few l turn w e = at (slot_in slots n k) refl ns values few l turn e
  where
    at : (o : Option ℕ) → slot_in slots n k ≡ o → (ms : List ℕ) (vs : List ℤ) → length vs ≤ length ms → ((i : ℕ) → i < length ms → get_or ms i 0 < length s.rows) → ((i : ℕ) → i < length vs → IsAt rows n (get_or ms i 0) (p + i)) →
        news ≡ at_slot (slot_in slots n k) (column_with_fields (widths k) tick place p vs) columns → IsListedWritten tick terms slots rows taken news s k place ms vs
    at (Some j) is_j ms vs short within there changed =
        written-in-turn tick terms slots rows taken n k j place is_j columns news s ms p vs is seen short within there w (changed ∙ ap (λ o. at_slot o (column_with_fields (widths k) tick place p vs) columns) is_j)
    at None is_none [] [] short within there changed =
        let same = changed ∙ ap (λ o. at_slot o (column_with_fields (widths k) tick place p []) columns) is_none in
        record { sheet = subst (IsSheet tick terms slots rows taken) (sym same) is; seen = ap (sheet_of tick terms slots rows taken) same ∙ seen }
    at None is_none (m ∷ ms) [] short within there changed =
        let same = changed ∙ ap (λ o. at_slot o (column_with_fields (widths k) tick place p []) columns) is_none in
        record { sheet = subst (IsSheet tick terms slots rows taken) (sym same) is; seen = ap (sheet_of tick terms slots rows taken) same ∙ seen }
    at None is_none ms (v ∷ vs) short within there changed =
        absurd (subst (λ o. IsWritableAt o columns k (p + 0)) is_none (turn-writable tick terms slots rows taken columns is s seen n k (get_or ms 0 0) (p + 0) (within 0 (omega arith)) (there 0 (omega arith)) w))

-- in no rows
pub nothing-listed : (k place : ℕ) (ns : List ℕ) (values : List ℤ) (s : Sheet) → length ns ≡ 0 → s ≡ sheet_with_listed_fields s k place ns values
nothing-listed k place [] values s e = refl
nothing-listed k place (n ∷ ns) values s e = absurd (omega arith)
