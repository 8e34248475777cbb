-- What the columns of a query are when it is closed.
use Rattle.std.proofs.Common.{◌≡◌, ℕ, zero, suc, ◌<◌, ◌⊎◌, inl, inr, Bool, true, false, cond, ◌==◌, ℤ, List, [], ◌∷◌, length, get_or, map, slice_get, Option, Some, None, option_map, refl, sym, ap, ap₂, ◌∙◌, arith}
use Rattle.std.proofs.lemmas.Option.{slice_get-map, slice_get_within, slice_get-get_or}
use Rattle.std.proofs.lemmas.Bool.{eq-eqb, eqb-true}
use Rattle.model.specs.Lists.{first_some}
use Rattle.model.specs.declared.entities.Entity.{Entity}
use Rattle.model.specs.state.State.{Cell}
use Rattle.model.specs.access.Query.{Term, writes}
use Rattle.model.specs.shown.Input.{ShownRow}
use Rattle.model.specs.shown.Outcome.{words_in_row, words_in_query}
use Rattle.model.specs.shown.Overlay.{cell_after}
use Rattle.query_plan.specs.declared.row.Row.{Row}
use Rattle.event_buffers.proofs.ListsOfEvents.{choose}
use Rattle.body.specs.Columns.{Column, cell_in, cells_after, column_after}
use Rattle.body.specs.Sheet.{slot_in, slot_cell, seen_at, words_at, row_of, written_of, IsSheet, IsOverwritten, head_of, WritesReach}
use Rattle.body.proofs.Gets.{same-some, same-by-get}
use Rattle.body.proofs.SheetWords.{in_row-map}
use Rattle.body.proofs.Sheets.{cell_in-is, head-at}

-- ---- the writes of a query, row by row

-- a row through which words were written at an index and a kind
record IsWriter (terms : List Term) (written : Row → List (Option (List ℤ))) (rows : List Row) (index number : ℕ) (w : List ℤ) : Type 0 where
  at : ℕ
  row : Row
  row_is : slice_get rows at ≡ Some row
  index_is : row.entity.index ≡ index
  words_are : words_in_row terms (written row) number ≡ Some w

first-cases : (b : Bool) (u v : Option (List ℤ)) (w : List ℤ) → first_some (cond b u None) v ≡ Some w → ((b ≡ true) × (u ≡ Some w)) ⊎ (v ≡ Some w)
first-cases true None v w h = inr h
first-cases true (Some x) v w h = inl (refl, h)
first-cases false u v w h = inr h

later-writer : (terms : List Term) (written : Row → List (Option (List ℤ))) (x : Row) (rows : List Row) (index kind : ℕ) (w : List ℤ) → IsWriter terms written rows index kind w → IsWriter terms written (x ∷ rows) index kind w
later-writer terms written x rows index kind w h = record { at = suc h.at; row = h.row; row_is = h.row_is; index_is = h.index_is; words_are = h.words_are }

writer : (terms : List Term) (shown : Row → ShownRow) (written : Row → List (Option (List ℤ))) (rows : List Row) (index kind : ℕ) (w : List ℤ) → ((row : Row) → (shown row).entity ≡ row.entity) →
    words_in_query terms (map shown rows) (map written rows) index kind ≡ Some w → IsWriter terms written rows index kind w
writer terms shown written [] index kind w entities h = absurd (cc)
writer terms shown written (x ∷ xs) index kind w entities h = elim (first-cases ((shown x).entity.index == index) (words_in_row terms (written x) kind) (words_in_query terms (map shown xs) (map written xs) index kind) w h) [
  | inl here ↦ record { at = zero; row = x; row_is = refl; index_is = ap (λ (e : Entity). e.index) (sym (entities x)) ∙ eqb-true (shown x).entity.index index here.0; words_are = here.1 }
  | inr later ↦ later-writer terms written x xs index kind w (writer terms shown written xs index kind w entities later)
]

there-is : (b : Bool) (u v : Option (List ℤ)) (w : List ℤ) → b ≡ true → u ≡ Some w → first_some (cond b u None) v ≡ None → ⊥
there-is b u v w e f h = (let t = choose b true u None e ∙ f in let z = sym (ap (λ o. first_some o v) t) ∙ h in (let y : ⊥ = cc in y))

not-later : (o v : Option (List ℤ)) → first_some o v ≡ None → v ≡ None
not-later None v h = h
not-later (Some x) v h = absurd (cc)

-- where no words are written, no row is their writer
no-writer : (terms : List Term) (shown : Row → ShownRow) (written : Row → List (Option (List ℤ))) (rows : List Row) (index kind : ℕ) (r : ℕ) (row : Row) (w : List ℤ) → ((row : Row) → (shown row).entity ≡ row.entity) →
    slice_get rows r ≡ Some row → row.entity.index ≡ index → words_in_row terms (written row) kind ≡ Some w → words_in_query terms (map shown rows) (map written rows) index kind ≡ None → ⊥
no-writer terms shown written [] index kind r row w entities e i f h = cc
no-writer terms shown written (x ∷ xs) index kind zero row w entities e i f h =
    let same = same-some x row e in
    there-is ((shown x).entity.index == index) (words_in_row terms (written x) kind) (words_in_query terms (map shown xs) (map written xs) index kind) w
    (eq-eqb (shown x).entity.index index (ap (λ (e : Entity). e.index) (entities x) ∙ ap (λ (y : Row). y.entity.index) same ∙ i)) (ap (λ y. words_in_row terms (written y) kind) same ∙ f) h
no-writer terms shown written (x ∷ xs) index kind (suc r) row w entities e i f h =
    no-writer terms shown written xs index kind r row w entities e i f (not-later (cond ((shown x).entity.index == index) (words_in_row terms (written x) kind) None) (words_in_query terms (map shown xs) (map written xs) index kind) h)

-- ---- cells after writes

cells_after-at : (tick : ℕ) (words : ℕ → ℕ → Option (List ℤ)) (kind : ℕ) (entities : List Entity) (cells : List Cell) (i : ℕ) (e : Entity) (c : Cell) → slice_get entities i ≡ Some e → slice_get cells i ≡ Some c →
    slice_get (cells_after tick words kind entities cells) i ≡ Some (cell_after tick (words e.index kind) c)
cells_after-at tick words kind entities [] i e c h g = absurd (cc)
cells_after-at tick words kind [] (y ∷ ys) i e c h g = absurd (cc)
cells_after-at tick words kind (x ∷ xs) (y ∷ ys) zero e c h g =
    ap₂ (λ (a : Entity) b. Some (cell_after tick (words a.index kind) b)) (same-some x e h) (same-some y c g)
cells_after-at tick words kind (x ∷ xs) (y ∷ ys) (suc i) e c h g = cells_after-at tick words kind xs ys i e c h g

cells_after-past : (tick : ℕ) (words : ℕ → ℕ → Option (List ℤ)) (kind : ℕ) (entities : List Entity) (cells : List Cell) (i : ℕ) → slice_get cells i ≡ None → slice_get (cells_after tick words kind entities cells) i ≡ None
cells_after-past tick words kind entities [] i g = refl
cells_after-past tick words kind [] (y ∷ ys) i g = g
cells_after-past tick words kind (x ∷ xs) (y ∷ ys) zero g = absurd (cc)
cells_after-past tick words kind (x ∷ xs) (y ∷ ys) (suc i) g = cells_after-past tick words kind xs ys i g

words-there : (tick : ℕ) (b : Bool) (slot : Option ℕ) (columns : List Column) (place : ℕ) (w : List ℤ) → cond b (words_at tick (slot_cell slot columns place)) None ≡ Some w →
    (j : ℕ) × (cell : Cell) × (b ≡ true) × (slot ≡ Some j) × (cell_in columns j place ≡ Some cell) × (cell.words ≡ w) × (cell.changed ≡ tick)
words-there tick false slot columns place w h = absurd (cc)
words-there tick true None columns place w h = absurd (cc)
words-there tick true (Some j) columns place w h = at (cell_in columns j place) refl h
  where
    stamped : (t : Bool) (c : Cell) → (c.changed == tick) ≡ t → cond t (Some c.words) None ≡ Some w → (c.words ≡ w) × (c.changed ≡ tick)
    stamped true c e h = (same-some c.words w h, eqb-true c.changed tick e)
    stamped false c e h = absurd (cc)

    at : (o : Option Cell) → cell_in columns j place ≡ o → words_at tick o ≡ Some w →
        (i : ℕ) × (cell : Cell) × (true ≡ true) × ((let s : Option ℕ = Some j in s) ≡ Some i) × (cell_in columns i place ≡ Some cell) × (cell.words ≡ w) × (cell.changed ≡ tick)
    at None e h = absurd (cc)
    at (Some c) e h = let p = stamped (c.changed == tick) c refl h in (j, c, refl, refl, e, p.0, p.1)

same-cell : (c d : Cell) → c.words ≡ d.words → c.added ≡ d.added → c.changed ≡ d.changed → c ≡ d
same-cell c d e f g = λ i. record { words = e i; added = f i; changed = g i }

same-column : (c d : Column) → head_of c ≡ head_of d → c.cells ≡ d.cells → c ≡ d
same-column c d e f = λ i. record { archetype = (e i).archetype; entities = (e i).entities; is_written = (e i).is_written; kind = (e i).kind; cells = f i; room = (e i).room }

-- ---- a query over columns

module _ (tick : ℕ) (terms : List Term) (slots : List (List (Option ℕ))) (rows : List Row) (taken columns : List Column) (is : IsSheet tick terms slots rows taken columns) where
  abbrev words_here : ℕ → ℕ → Option (List ℤ)
  words_here = words_in_query terms (map (row_of slots taken terms) rows) (map (written_of tick slots columns terms) rows)

  -- the cell through which words were written
  written-cell : (r : ℕ) (row : Row) (kind : ℕ) (w : List ℤ) → words_in_row terms (written_of tick slots columns terms row) kind ≡ Some w →
      (j : ℕ) × (cell : Cell) × (writes terms kind ≡ true) × (slot_in slots row.archetype kind ≡ Some j) × (cell_in columns j row.place ≡ Some cell) × (cell.words ≡ w) × (cell.changed ≡ tick)
  written-cell r row kind w h =
      words-there tick (writes terms kind) (slot_in slots row.archetype kind) columns row.place w (sym (in_row-map terms (λ m. words_at tick (seen_at slots columns row m)) kind) ∙ h)

  pub reach : WritesReach words_here taken
  reach index kind w h =
      let by = writer terms (row_of slots taken terms) (written_of tick slots columns terms) rows index kind w (λ row. refl) h in
      let cell = written-cell by.at by.row kind w by.words_are in
      let slot = is.slots_are by.row.archetype kind cell.0 cell.3 in
      record {
        at = cell.0;
        column = slot.column;
        there = slot.there;
        kind_is = slot.kind_is;
        written_is = slot.written_is cell.2;
        place = by.row.place;
        entity = by.row.entity;
        entity_is = is.placed.there by.at by.row by.row_is kind cell.0 cell.3 slot.column slot.there;
        index_is = by.index_is;
      }

  -- a cell as the writes leave it
  cell-closed : (j i : ℕ) (column : Column) (e : Entity) (c now : Cell) (words : Option (List ℤ)) → slice_get taken j ≡ Some column → slice_get column.entities i ≡ Some e → slice_get column.cells i ≡ Some c →
      cell_in columns j i ≡ Some now → words_here e.index column.kind ≡ words → now ≡ cell_after tick words c
  cell-closed j i column e c now None there person before after h = elim (is.changed j i) [
    | inl same ↦ same-some now c (sym after ∙ same ∙ cell_in-is taken j i column there ∙ before)
    | inr o ↦
        let slot = is.slots_are o.row.archetype o.kind j o.slot_is in
        let same = same-some slot.column column (sym slot.there ∙ there) in
        let kinds = sym slot.kind_is ∙ ap (λ (x : Column). x.kind) same in
        let standing = is.placed.there o.at o.row o.row_is o.kind j o.slot_is column there in
        let entity = same-some o.row.entity e (sym standing ∙ ap (slice_get column.entities) o.place_is ∙ person) in
        let seen = ap (λ s. words_at tick (slot_cell s columns o.row.place)) o.slot_is ∙ ap (λ p. words_at tick (cell_in columns j p)) o.place_is ∙ ap (words_at tick) o.after_is
        ∙ choose (o.after.changed == tick) true (Some o.after.words) None (eq-eqb o.after.changed tick o.changed_is) in
        let row_words = in_row-map terms (λ m. words_at tick (seen_at slots columns o.row m)) o.kind
        ∙ choose (writes terms o.kind) true (words_at tick (seen_at slots columns o.row o.kind)) None o.written_is ∙ seen in
        absurd (no-writer terms (row_of slots taken terms) (written_of tick slots columns terms) rows e.index o.kind o.at o.row o.after.words (λ row. refl) o.row_is (ap (λ (x : Entity). x.index) entity) row_words
        (ap (words_here e.index) kinds ∙ h))
  ]
  cell-closed j i column e c now (Some w) there person before after h =
      let by = writer terms (row_of slots taken terms) (written_of tick slots columns terms) rows e.index column.kind w (λ row. refl) h in
      let cell = written-cell by.at by.row column.kind w by.words_are in
      let slot = is.slots_are by.row.archetype column.kind cell.0 cell.3 in
      let alone = is.placed.alone by.at by.row by.row_is j column there i e person (sym by.index_is) in
      let same = is.placed.unlike cell.0 j slot.column column slot.there there (slot.archetype_is ∙ sym alone.0) slot.kind_is in
      let here = same-some cell.1 now (sym cell.4 ∙ ap₂ (cell_in columns) same (sym alone.1) ∙ after) in
      same-cell now (cell_after tick (Some w) c) (ap (λ (x : Cell). x.words) (sym here) ∙ cell.5) (added (is.changed j i)) (ap (λ (x : Cell). x.changed) (sym here) ∙ cell.6)
    where
      added : ((cell_in columns j i ≡ cell_in taken j i) ⊎ IsOverwritten tick terms slots rows taken columns j i) → now.added ≡ c.added
      added (inl same) = ap (λ (x : Cell). x.added) (same-some now c (sym after ∙ same ∙ cell_in-is taken j i column there ∙ before))
      added (inr o) =
          ap (λ (x : Cell). x.added) (same-some now o.after (sym after ∙ o.after_is)) ∙ o.added_is
          ∙ ap (λ (x : Cell). x.added) (same-some o.before c (sym o.before_is ∙ cell_in-is taken j i column there ∙ before))

  -- at each place
  place-closed : (j i : ℕ) (column now : Column) (cell : Option Cell) → slice_get taken j ≡ Some column → slice_get columns j ≡ Some now → slice_get column.cells i ≡ cell → slice_get now.cells i ≡ slice_get (cells_after tick words_here column.kind column.entities column.cells) i
  place-closed j i column now None there is_now before =
      sym (cell_in-is columns j i now is_now) ∙ none (is.changed j i) ∙ sym (cells_after-past tick words_here column.kind column.entities column.cells i before)
    where
      none : ((cell_in columns j i ≡ cell_in taken j i) ⊎ IsOverwritten tick terms slots rows taken columns j i) → cell_in columns j i ≡ None
      none (inl same) = same ∙ cell_in-is taken j i column there ∙ before
      none (inr o) = absurd (let h = sym o.before_is ∙ cell_in-is taken j i column there ∙ before in cc)
  place-closed j i column now (Some c) there is_now before =
      let inside = slice_get_within column.cells i c before in
      let many = is.placed.peopled j column there in
      let person = slice_get-get_or column.entities i (record { index = 0; generation = 0 }) (let l : i < length column.entities = omega (arith, many, inside) in l) in
      let e = get_or column.entities i (record { index = 0; generation = 0 }) in
      let found = current (is.changed j i) in
      sym (cell_in-is columns j i now is_now) ∙ found.1
      ∙ ap Some (cell-closed j i column e c found.0 (words_here e.index column.kind) there person before found.1 refl)
      ∙ sym (cells_after-at tick words_here column.kind column.entities column.cells i e c person before)
    where
      current : ((cell_in columns j i ≡ cell_in taken j i) ⊎ IsOverwritten tick terms slots rows taken columns j i) → (x : Cell) × (cell_in columns j i ≡ Some x)
      current (inl same) = (c, same ∙ cell_in-is taken j i column there ∙ before)
      current (inr o) = (o.after, o.after_is)

  column-closed : (j : ℕ) (column : Option Column) → slice_get taken j ≡ column → slice_get columns j ≡ slice_get (map (column_after tick words_here) taken) j
  column-closed j None there =
      past (slice_get columns j) (sym (slice_get-map head_of columns j) ∙ ap (λ hs. slice_get hs j) is.heads ∙ slice_get-map head_of taken j ∙ ap (option_map head_of) there)
      ∙ sym (slice_get-map (column_after tick words_here) taken j ∙ ap (option_map (column_after tick words_here)) there)
    where
      past : (o : Option Column) → option_map head_of o ≡ None → o ≡ None
      past None h = refl
      past (Some x) h = absurd (cc)
  column-closed j (Some column) there =
      let now = head-at columns taken j column is.heads there in
      now.1 ∙ ap Some (same-column now.0 (column_after tick words_here column) now.2
      (same-by-get now.0.cells (cells_after tick words_here column.kind column.entities column.cells) (λ i. place-closed j i column now.0 (slice_get column.cells i) there now.1 refl)))
      ∙ sym (slice_get-map (column_after tick words_here) taken j ∙ ap (option_map (column_after tick words_here)) there)

  -- the columns are those that were taken, with what was written laid over them
  pub columns-closed : columns ≡ map (column_after tick words_here) taken
  columns-closed = same-by-get columns (map (column_after tick words_here) taken) (λ j. column-closed j (slice_get taken j) refl)
