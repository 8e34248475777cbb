-- The cells of columns, and what holds of a query of a view over them.
use Rattle.std.proofs.Common.{◌≡◌, ◌≢◌, ℕ, zero, suc, ◌<◌, ◌⊎◌, inl, inr, Bool, true, false, cond, ◌==◌, ℤ, List, [], ◌∷◌, length, get_or, map, slice_get, Option, Some, None, option_map, refl, sym, ap, ap₂, ◌∙◌, subst}
use Rattle.std.specs.Prelude.{IsSome}
use Rattle.std.proofs.lemmas.Option.{slice_get-map, slice_get_within, slice_get-get_or}
use Rattle.std.proofs.lemmas.Bool.{eq-eqb}
use Rattle.std.proofs.lemmas.List.{get_or-map}
use Rattle.model.specs.Lists.{first_some}
use Rattle.model.specs.state.State.{Cell}
use Rattle.model.specs.access.Query.{Term, writes}
use Rattle.model.specs.shown.Input.{words_of}
use Rattle.query_plan.specs.declared.row.Row.{Row}
use Rattle.body.specs.Columns.{Column, cell_in}
use Rattle.body.specs.Seen.{fetches, words_read, no_row}
use Rattle.body.specs.Sheet.{slot_in, slot_cell, seen_at, words_at, row_of, written_of, IsRow, AreApart, IsElsewhere, IsSheet, IsOverwritten, head_of, IsReadableAt, IsReadable}
use Rattle.body.proofs.Gets.{same-some, all-get, mapped}
use Rattle.body.proofs.SheetWords.{in_row-map, shown-map}

-- ---- cells of columns

pub cell_in-is : (columns : List Column) (j i : ℕ) (column : Column) → slice_get columns j ≡ Some column → cell_in columns j i ≡ slice_get column.cells i
cell_in-is [] j i column e = absurd (cc)
cell_in-is (c ∷ cs) zero i column e = ap (λ (x : Column). slice_get x.cells i) (same-some c column e)
cell_in-is (c ∷ cs) (suc j) i column e = cell_in-is cs j i column e

-- the column of a cell
pub column-of : (columns : List Column) (j i : ℕ) (cell : Cell) → cell_in columns j i ≡ Some cell → (column : Column) × (slice_get columns j ≡ Some column) × (slice_get column.cells i ≡ Some cell)
column-of [] j i cell e = absurd (cc)
column-of (c ∷ cs) zero i cell e = (c, refl, e)
column-of (c ∷ cs) (suc j) i cell e = column-of cs j i cell e

pub is-some : {A : Type 0} (o : Option A) → IsSome o → (x : A) × (o ≡ Some x)
is-some None h = absurd (cc)
is-some (Some x) h = (x, refl)

-- columns with the same heads
pub head-at : (columns taken : List Column) (j : ℕ) (column : Column) → map head_of columns ≡ map head_of taken → slice_get taken j ≡ Some column → (now : Column) × (slice_get columns j ≡ Some now) × (head_of now ≡ head_of column)
head-at columns taken j column h e =
    mapped head_of (slice_get columns j) (head_of column) (sym (slice_get-map head_of columns j) ∙ ap (λ hs. slice_get hs j) h ∙ slice_get-map head_of taken j ∙ ap (option_map head_of) e)

-- the rows at two places stand apart
pub apart-at : (rows : List Row) (r s : ℕ) (row other : Row) → AreApart rows → slice_get rows r ≡ Some row → slice_get rows s ≡ Some other → r ≢ s → IsElsewhere row other
apart-at [] r s row other h e f d = absurd (cc)
apart-at (x ∷ xs) zero zero row other h e f d = absurd (d refl)
apart-at (x ∷ xs) zero (suc s) row other h e f d = subst (λ y. IsElsewhere y other) (same-some x row e) (all-get (IsElsewhere x) xs s other h.0 f)
apart-at (x ∷ xs) (suc r) zero row other h e f d = λ a p. subst (λ y. IsElsewhere y row) (same-some x other f) (all-get (IsElsewhere x) xs r row h.0 e) (sym a) (sym p)
apart-at (x ∷ xs) (suc r) (suc s) row other h e f d = apart-at xs r s row other h.1 e f (λ q. d (ap suc q))

-- ---- a query over columns

module _ (tick : ℕ) (terms : List Term) (slots : List (List (Option ℕ))) (rows : List Row) (taken columns : List Column) (is : IsSheet tick terms slots rows taken columns) where
  -- the cell now and as it was taken, of a slot of a row
  pub two-cells : (r : ℕ) (row : Row) (k j : ℕ) → slice_get rows r ≡ Some row → slot_in slots row.archetype k ≡ Some j →
      (before : Cell) × (now : Cell) × (cell_in taken j row.place ≡ Some before) × (cell_in columns j row.place ≡ Some now) × (now.added ≡ before.added) × ((now ≡ before) ⊎ ((now.changed ≡ tick) × (writes terms k ≡ true)))
  two-cells r row k j e s =
      let here = all-get (IsRow terms slots taken) rows r row is.rows_are e in
      let b = is-some (cell_in taken j row.place) (here.readable k j s) in
      elim (is.changed j row.place) [
        | inl same ↦ (b.0, b.0, b.1, same ∙ b.1, refl, inl refl)
        | inr o ↦ (o.before, o.after, o.before_is, o.after_is, o.added_is, inr (o.changed_is, kind-written r row k j e s o))
      ]
    where
      kind-written : (r : ℕ) (row : Row) (k j : ℕ) → slice_get rows r ≡ Some row → slot_in slots row.archetype k ≡ Some j → IsOverwritten tick terms slots rows taken columns j row.place → writes terms k ≡ true
      kind-written r row k j e s o =
          let mine = is.slots_are row.archetype k j s in
          let other = is.slots_are o.row.archetype o.kind j o.slot_is in
          let same = same-some mine.column other.column (sym mine.there ∙ other.there) in
          let kinds : o.kind ≡ k = sym other.kind_is ∙ sym (ap (λ (c : Column). c.kind) same) ∙ mine.kind_is in
          ap (writes terms) (sym kinds) ∙ o.written_is

  -- the slot of a row may be read
  readable-at : (r : ℕ) (row : Row) (k : ℕ) (slot : Option ℕ) → slice_get rows r ≡ Some row → slot_in slots row.archetype k ≡ slot → IsReadableAt slot columns k row.place
  readable-at r row k None e s = tt
  readable-at r row k (Some j) e s =
      let cells = two-cells r row k j e s in
      let mine = is.slots_are row.archetype k j s in
      let now = head-at columns taken j mine.column is.heads mine.there in
      let found = column-of columns j row.place cells.1 cells.3 in
      let same = same-some now.0 found.0 (sym now.1 ∙ found.1) in
      record {
        column = found.0;
        there = found.1;
        kind_is = ap (λ (c : Column). c.kind) (sym same) ∙ ap (λ (c : Column). c.kind) now.2 ∙ mine.kind_is;
        within = slice_get_within found.0.cells row.place cells.1 found.2;
      }

  pub readable : (r : ℕ) (row : Row) (k : ℕ) → slice_get rows r ≡ Some row → IsReadable slots columns row k
  readable r row k e = readable-at r row k (slot_in slots row.archetype k) e refl

  -- what a row is read as
  read-at : (r : ℕ) (row : Row) (k : ℕ) (slot : Option ℕ) → slice_get rows r ≡ Some row → slot_in slots row.archetype k ≡ slot →
      first_some (cond (writes terms k) (words_at tick (slot_cell slot columns row.place)) None) (cond (fetches terms k) (words_of (slot_cell slot taken row.place)) None) ≡ words_of (slot_cell slot columns row.place)
  read-at r row k None e s = none (writes terms k) (fetches terms k)
    where
      none : (w f : Bool) → first_some (cond w None None) (cond f None None) ≡ (let o : Option (List ℤ) = None in o)
      none true true = refl
      none true false = refl
      none false true = refl
      none false false = refl
  read-at r row k (Some j) e s =
      let cells = two-cells r row k j e s in
      let mine = is.slots_are row.archetype k j s in
      ap₂ (λ x y. first_some (cond (writes terms k) (words_at tick x) None) (cond (fetches terms k) (words_of y) None)) cells.3 cells.2
      ∙ ap (λ f. first_some (cond (writes terms k) (words_at tick (Some cells.1)) None) (cond f (Some cells.0.words) None)) mine.fetched_is
      ∙ (elim cells.5 [
        | inl same ↦ unchanged (writes terms k) (cells.1.changed == tick) cells.1.words cells.0.words (ap (λ (c : Cell). c.words) same)
        | inr changed ↦ ap₂ (λ w t. first_some (cond w (cond t (Some cells.1.words) None) None) (Some cells.0.words)) changed.1 (eq-eqb cells.1.changed tick changed.0)
      ])
      ∙ sym (ap words_of cells.3)
    where
      unchanged : (w t : Bool) (a b : List ℤ) → a ≡ b → first_some (cond w (cond t (Some a) None) None) (Some b) ≡ Some a
      unchanged true true a b e = refl
      unchanged true false a b e = ap Some (sym e)
      unchanged false t a b e = ap Some (sym e)

  pub read-row : (r : ℕ) (d : Row) (k : ℕ) → r < length rows →
      words_read terms (get_or (map (row_of slots taken terms) rows) r no_row).values (get_or (map (written_of tick slots columns terms) rows) r []) k ≡ words_of (seen_at slots columns (get_or rows r d) k)
  read-row r d k l =
      let row = get_or rows r d in
      let values = get_or-map (row_of slots taken terms) rows r d no_row l in
      let cells = get_or-map (written_of tick slots columns terms) rows r d [] l in
      ap₂ (λ v c. words_read terms v.values c k) values cells
      ∙ ap₂ first_some (in_row-map terms (λ m. words_at tick (seen_at slots columns row m)) k) (shown-map terms (λ m. words_of (seen_at slots taken row m)) k)
      ∙ read-at r row k (slot_in slots row.archetype k) (slice_get-get_or rows r d l) refl

  pub within-slots : (r : ℕ) (d : Row) → r < length rows → (get_or rows r d).archetype < length slots
  within-slots r d l = (all-get (IsRow terms slots taken) rows r (get_or rows r d) is.rows_are (slice_get-get_or rows r d l)).within
