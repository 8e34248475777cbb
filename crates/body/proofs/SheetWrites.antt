-- A write in a query of a view.
use Rattle.std.proofs.Common.{◌≡◌, ◌≢◌, ℕ, zero, suc, ◌⊎◌, inl, inr, true, ◌==◌, ℤ, List, [], ◌∷◌, map, slice_get, Option, Some, None, option_map, refl, sym, ap, ap₂, ◌∙◌, subst, arith}
use Rattle.std.proofs.lemmas.Option.{slice_get_within}
use Rattle.std.proofs.lemmas.Bool.{eq-eqb, cases_lt}
use Rattle.model.specs.Lists.{update_at}
use Rattle.model.specs.state.State.{Cell}
use Rattle.model.specs.access.Query.{Term, writes}
use Rattle.column_store.specs.Cells.{changed_cell}
use Rattle.query_plan.specs.declared.row.Row.{Row}
use Rattle.event_buffers.proofs.ListsOfEvents.{choose}
use Rattle.body.specs.Columns.{Column, cell_in, with_cell}
use Rattle.body.specs.Seen.{with_words}
use Rattle.body.specs.Sheet.{slot_in, slot_cell, seen_at, words_at, written_of, IsRow, IsSheet, IsOverwritten, head_of, IsWritable, IsWritableAt}
use Rattle.body.proofs.Gets.{same-some, all-get, map-update-get, get-update, get-update-other}
use Rattle.body.proofs.SheetWords.{with_words-map, written_in-same}
use Rattle.body.proofs.Sheets.{column-of, is-some, head-at, apart-at, two-cells}

pub same-number : (a b : ℕ) → (a ≡ b) ⊎ (a ≢ b)
same-number a b = elim (cases_lt a b) [
  | inl below ↦ inr (omega arith)
  | inr above ↦ elim (cases_lt b a) [ inl over ↦ inr (omega arith) | inr under ↦ inl (let e : a ≡ b = omega arith in e) ]
]

-- ---- one cell of one column

cell-here : (columns : List Column) (j place : ℕ) (f : Cell → Cell) → cell_in (update_at j (with_cell place f) columns) j place ≡ option_map f (cell_in columns j place)
cell-here [] j place f = refl
cell-here (c ∷ cs) zero place f = get-update place f c.cells
cell-here (c ∷ cs) (suc j) place f = cell-here cs j place f

cell-elsewhere : (columns : List Column) (j k place at : ℕ) (f : Cell → Cell) → (k ≡ j → at ≡ place → ⊥) → cell_in (update_at j (with_cell place f) columns) k at ≡ cell_in columns k at
cell-elsewhere [] j k place at f d = refl
cell-elsewhere (c ∷ cs) zero zero place at f d = get-update-other place at f c.cells (d refl)
cell-elsewhere (c ∷ cs) zero (suc k) place at f d = refl
cell-elsewhere (c ∷ cs) (suc j) zero place at f d = refl
cell-elsewhere (c ∷ cs) (suc j) (suc k) place at f d = cell-elsewhere cs j k place at f (λ e. d (ap suc e))

heads-stay : (columns : List Column) (j place : ℕ) (f : Cell → Cell) → map head_of (update_at j (with_cell place f) columns) ≡ map head_of columns
heads-stay [] j place f = refl
heads-stay (c ∷ cs) zero place f = refl
heads-stay (c ∷ cs) (suc j) place f = ap (λ hs. head_of c ∷ hs) (heads-stay cs j place f)

module _ (tick : ℕ) (terms : List Term) (slots : List (List (Option ℕ))) (rows : List Row) (taken columns : List Column) (is : IsSheet tick terms slots rows taken columns) where
  -- the slot of a kind that is written may be written
  writable-at : (r : ℕ) (row : Row) (k : ℕ) (slot : Option ℕ) → slice_get rows r ≡ Some row → writes terms k ≡ true → slot_in slots row.archetype k ≡ slot → IsWritableAt slot columns k row.place
  writable-at r row k None e w s =
      let here = all-get (IsRow terms slots taken) rows r row is.rows_are e in
      let there = is-some (slot_in slots row.archetype k) (here.writable k w) in
      absurd (let t = there.1 in cc (t, s))
  writable-at r row k (Some j) e w s =
      let cells = two-cells tick terms slots rows taken columns is r row k j e s in
      let mine = is.slots_are row.archetype k j s in
      let now = head-at columns taken j mine.column is.heads mine.there in
      let found = column-of columns j row.place cells.1 cells.3 in
      let same = same-some now.0 found.0 (sym now.1 ∙ found.1) in
      record {
        column = found.0;
        there = found.1;
        own = ap (λ (c : Column). c.is_written) (sym same) ∙ ap (λ (c : Column). c.is_written) now.2 ∙ mine.written_is w;
        kind_is = ap (λ (c : Column). c.kind) (sym same) ∙ ap (λ (c : Column). c.kind) now.2 ∙ mine.kind_is;
        within = slice_get_within found.0.cells row.place cells.1 found.2;
      }

  pub writable : (r : ℕ) (row : Row) (k : ℕ) → slice_get rows r ≡ Some row → writes terms k ≡ true → IsWritable slots columns row k
  writable r row k e w = writable-at r row k (slot_in slots row.archetype k) e w refl

  -- another slot of a row is not the cell that was written; nor is a slot of another row
  kept-slot : (place j : ℕ) (f : Cell → Cell) (slot : Option ℕ) (at : ℕ) → ((i : ℕ) → slot ≡ Some i → i ≡ j → at ≡ place → ⊥) → slot_cell slot (update_at j (with_cell place f) columns) at ≡ slot_cell slot columns at
  kept-slot place j f None at d = refl
  kept-slot place j f (Some i) at d = cell-elsewhere columns j i place at f (d i refl)

  module _ (r : ℕ) (row : Row) (k j : ℕ) (w : List ℤ) (row_is : slice_get rows r ≡ Some row) (mut_term : writes terms k ≡ true) (slot_is : slot_in slots row.archetype k ≡ Some j) where
    abbrev changed_columns : List Column
    changed_columns = update_at j (with_cell row.place (changed_cell w tick)) columns

    changed-here : words_at tick (seen_at slots changed_columns row k) ≡ Some w
    changed-here =
        let cells = two-cells tick terms slots rows taken columns is r row k j row_is slot_is in
        ap (λ s. words_at tick (slot_cell s changed_columns row.place)) slot_is
        ∙ ap (words_at tick) (cell-here columns j row.place (changed_cell w tick) ∙ ap (option_map (changed_cell w tick)) cells.3)
        ∙ choose (tick == tick) true (Some w) None (eq-eqb tick tick refl)

    other-kinds : (m : ℕ) → m ≢ k → words_at tick (seen_at slots changed_columns row m) ≡ words_at tick (seen_at slots columns row m)
    other-kinds m d = ap (words_at tick) (kept-slot row.place j (changed_cell w tick) (slot_in slots row.archetype m) row.place (λ i s e p.
        let mine = is.slots_are row.archetype k j slot_is in
        let other = is.slots_are row.archetype m i s in
        let same = same-some mine.column other.column (sym mine.there ∙ ap (slice_get taken) (sym e) ∙ other.there) in
        d (sym other.kind_is ∙ sym (ap (λ (c : Column). c.kind) same) ∙ mine.kind_is)))

    other-rows : (s : ℕ) (other : Row) → slice_get rows s ≡ Some other → s ≢ r → (m : ℕ) → words_at tick (seen_at slots changed_columns other m) ≡ words_at tick (seen_at slots columns other m)
    other-rows s other other_is d m = ap (words_at tick) (kept-slot row.place j (changed_cell w tick) (slot_in slots other.archetype m) other.place (λ i t e p.
        let mine = is.slots_are row.archetype k j slot_is in
        let theirs = is.slots_are other.archetype m i t in
        let same = same-some mine.column theirs.column (sym mine.there ∙ ap (slice_get taken) (sym e) ∙ theirs.there) in
        let archetypes = sym mine.archetype_is ∙ ap (λ (c : Column). c.archetype) same ∙ theirs.archetype_is in
        apart-at rows r s row other is.apart row_is other_is (λ q. d (sym q)) archetypes (sym p)))

    -- the words written, after one more write
    pub cells-written : map (written_of tick slots changed_columns terms) rows ≡ update_at r (with_words terms k w) (map (written_of tick slots columns terms) rows)
    cells-written = map-update-get (written_of tick slots changed_columns terms) (written_of tick slots columns terms) (with_words terms k w) rows r
        (λ x e. let same = same-some x row (sym e ∙ row_is) in
        subst (λ y. written_of tick slots changed_columns terms y ≡ with_words terms k w (written_of tick slots columns terms y)) (sym same)
        (sym (with_words-map terms (λ m. words_at tick (seen_at slots columns row m)) (λ m. words_at tick (seen_at slots changed_columns row m)) k w mut_term changed-here other-kinds)))
        (λ s x e d. written_in-same terms (λ m. words_at tick (seen_at slots changed_columns x m)) (λ m. words_at tick (seen_at slots columns x m)) (other-rows s x e d))

    still-over : (i at : ℕ) → (i ≡ j → at ≡ row.place → ⊥) → IsOverwritten tick terms slots rows taken columns i at → IsOverwritten tick terms slots rows taken changed_columns i at
    still-over i at d o = record {
      at = o.at;
      row = o.row;
      row_is = o.row_is;
      place_is = o.place_is;
      kind = o.kind;
      slot_is = o.slot_is;
      written_is = o.written_is;
      before = o.before;
      after = o.after;
      before_is = o.before_is;
      after_is = cell-elsewhere columns j i row.place at (changed_cell w tick) d ∙ o.after_is;
      added_is = o.added_is;
      changed_is = o.changed_is;
    }

    unchanged : (i at : ℕ) → (i ≡ j → at ≡ row.place → ⊥) → (cell_in changed_columns i at ≡ cell_in taken i at) ⊎ IsOverwritten tick terms slots rows taken changed_columns i at
    unchanged i at d = elim (is.changed i at) [
      | inl same ↦ inl (cell-elsewhere columns j i row.place at (changed_cell w tick) d ∙ same)
      | inr o ↦ inr (still-over i at d o)
    ]

    changes : (i at : ℕ) → (i ≡ j) ⊎ (i ≢ j) → (at ≡ row.place) ⊎ (at ≢ row.place) → (cell_in changed_columns i at ≡ cell_in taken i at) ⊎ IsOverwritten tick terms slots rows taken changed_columns i at
    changes i at (inl e) (inl p) =
        let cells = two-cells tick terms slots rows taken columns is r row k j row_is slot_is in
        inr (record {
          at = r;
          row = row;
          row_is = row_is;
          place_is = sym p;
          kind = k;
          slot_is = slot_is ∙ ap Some (sym e);
          written_is = mut_term;
          before = cells.0;
          after = changed_cell w tick cells.1;
          before_is = ap₂ (cell_in taken) e p ∙ cells.2;
          after_is = ap₂ (cell_in changed_columns) e p ∙ cell-here columns j row.place (changed_cell w tick) ∙ ap (option_map (changed_cell w tick)) cells.3;
          added_is = cells.4;
          changed_is = refl;
        })
    changes i at (inl e) (inr p) = unchanged i at (λ a b. p b)
    changes i at (inr e) place = unchanged i at (λ a b. e a)

    -- what holds of the query holds after the write
    pub sheet-written : IsSheet tick terms slots rows taken changed_columns
    sheet-written = record {
      slots_are = is.slots_are;
      rows_are = is.rows_are;
      apart = is.apart;
      placed = is.placed;
      heads = heads-stay columns j row.place (changed_cell w tick) ∙ is.heads;
      changed = λ i at. changes i at (same-number i j) (same-number at row.place);
    }
