-- A query may open over a world: its rows and the columns that it picks are a plan, and its rows show what the definitions show.
use Rattle.std.proofs.Common.{◌≡◌, ℕ, zero, suc, ◌<◌, inl, inr, Bool, true, false, cond, List, [], ◌∷◌, length, get_or, map, slice_get, Option, Some, None, option_map, is_some, refl, sym, ap, ap₂, ◌∙◌, subst, arith}
use mathlib.Core.Path.{fun_ext}
use Rattle.std.specs.Prelude.{IsSome}
use Rattle.std.specs.List.{AllByRecursion}
use Rattle.std.proofs.lemmas.Bool.{false≢true}
use Rattle.std.proofs.lemmas.Option.{slice_get-map, slice_get_within}
use Rattle.kinds.specs.Components.{widths}
use Rattle.model.specs.Lists.{has, is_number, is_there}
use Rattle.model.specs.declared.entities.Entity.{Entity}
use Rattle.model.specs.state.State.{Component, Slot, fresh_slot}
use Rattle.model.specs.state.Rows.{row_at, cell_at, kinds_of}
use Rattle.model.specs.state.Shape.{IsWorld}
use Rattle.model.specs.access.Query.{Term, matches, touched, touches, writes}
use Rattle.model.specs.access.Query.Term.{Read, Mut, Opt}
use Rattle.model.specs.access.QueryFaults.{fetched}
use Rattle.model.specs.shown.Input.{ShownRow, is_row, words_of, shown_row, rows_from, rows_of}
use Rattle.model.proofs.lists.Each.{each-weaker}
use Rattle.model.proofs.order.Histories.{any_weaker}
use Rattle.model.proofs.serial.Conflicts.{none_from_no, touches_from_writes, holds_from_writes}
use Rattle.column_store.specs.Order.{AreApart}
use Rattle.archetype_store.specs.Layout.{Archetype, archetype_at, IsLayoutOf}
use Rattle.archetype_store.specs.Store.{StoreValue, IsPast}
use Rattle.archetype_store.proofs.RowEdits.{kinds-among}
use Rattle.archetype_store.proofs.ColumnLoans.{cells_past}
use Rattle.query_plan.specs.declared.row.Row.{Row}
use Rattle.query_plan.specs.Standing.{IsStanding}
use Rattle.query_plan.proofs.Stamps.{cell_here, cells_length}
use Rattle.model.proofs.serial.Within.{matches_from_row as row-matches}
use Rattle.body.specs.Columns.{Column, AreFresh}
use Rattle.body.specs.Seen.{fetches}
use Rattle.body.specs.Sheet.{slot_in, slot_cell, row_of}
use Rattle.body.specs.SlotTable.{AreSlotsOf}
use Rattle.body.specs.Planned.{IsColumnOf, AreOfOthers, IsAmong, IsPlanned}
use Rattle.body.specs.Opened.{IsPickedOf, ArePickedOf, OpensOver}
use Rattle.body.proofs.Gets.{all-get, mapped}
use Rattle.body.proofs.Sheets.{cell_in-is, column-of}
use Rattle.body.proofs.Alongside.{rows-shown}
use Rattle.body.proofs.Plannings.{is-in, row-place, column-entity, plans-open}
use Rattle.body.proofs.Aloneness.{row-at-slot}

-- ---- two lists beside each other

-- what holds at each place holds of each
pub each-by-get : {A : Type 0} (P : A → Type 0) (xs : List A) → ((i : ℕ) (x : A) → slice_get xs i ≡ Some x → P x) → AllByRecursion P xs
each-by-get P [] h = tt
each-by-get P (x ∷ xs) h = (h zero x refl, each-by-get P xs (λ i y e. h (suc i) y e))

-- where two lists have the same names in order, one is what the other is mapped to if each is at its place
same-beside : {A B N : Type 0} (f : A → B) (name : A → N) (other_name : B → N) (xs : List A) (ys : List B) → map name xs ≡ map other_name ys →
    ((i : ℕ) (x : A) (y : B) → slice_get xs i ≡ Some x → slice_get ys i ≡ Some y → name x ≡ other_name y → f x ≡ y) → map f xs ≡ ys
same-beside f name other_name [] [] e h = refl
same-beside f name other_name [] (y ∷ ys) e h = absurd (cc)
same-beside f name other_name (x ∷ xs) [] e h = absurd (cc)
same-beside f name other_name (x ∷ xs) (y ∷ ys) e h = ap₂ ◌∷◌ (h zero x y refl refl (cc)) (same-beside f name other_name xs ys (cc) (λ i a b p q r. h (suc i) a b p q r))

-- ---- rows of the definitions

-- the shown row of a row's entity
pub beside : (rows : List Row) (shown : List ShownRow) (r : ℕ) (row : Row) → map (λ (x : Row). x.entity) rows ≡ map (λ (x : ShownRow). x.entity) shown → slice_get rows r ≡ Some row →
    (s : ShownRow) × (slice_get shown r ≡ Some s) × (s.entity ≡ row.entity)
beside rows shown r row same there =
    mapped (λ (x : ShownRow). x.entity) (slice_get shown r) row.entity
    (sym (slice_get-map (λ (x : ShownRow). x.entity) shown r) ∙ ap (λ es. slice_get es r) (sym same) ∙ slice_get-map (λ (x : Row). x.entity) rows r ∙ ap (option_map (λ (x : Row). x.entity)) there)

-- a shown row is that of the slot of its index, which is a row
pub row-shown : (query : List Term) (last : ℕ) (slots : List Slot) (r : ℕ) (row : ShownRow) → slice_get (rows_of query last slots) r ≡ Some row →
    (row ≡ shown_row query row.entity.index (get_or slots row.entity.index fresh_slot)) × (is_row query last (get_or slots row.entity.index fresh_slot) ≡ true)
row-shown query last slots r row h =
    let at = row-at-slot query last 0 slots r row h in
    let index : at.at ≡ row.entity.index = (let i = at.index_is in omega arith) in (
      at.shown_is ∙ ap₂ (λ n m. shown_row query n (get_or slots m fresh_slot)) (sym at.index_is) index,
      subst (λ n. is_row query last (get_or slots n fresh_slot) ≡ true) index at.passed,
    )

-- rows with the entities of shown rows have different indices
of-others : (query : List Term) (last first : ℕ) (slots : List Slot) (rows : List Row) → map (λ (x : Row). x.entity) rows ≡ map (λ (x : ShownRow). x.entity) (rows_from query last first slots) → AreOfOthers rows
unfolding rows_from
of-others query last first [] [] e = tt
of-others query last first [] (row ∷ rows) e = absurd (cc)
of-others query last first (x ∷ slots) rows e = at (is_row query last x) rows e (of-others query last (suc first) slots)
  where
    at : (b : Bool) (some : List Row) → map (λ (y : Row). y.entity) some ≡ map (λ (y : ShownRow). y.entity) (cond b (shown_row query first x ∷ rows_from query last (suc first) slots) (rows_from query last (suc first) slots)) →
        ((more : List Row) → map (λ (y : Row). y.entity) more ≡ map (λ (y : ShownRow). y.entity) (rows_from query last (suc first) slots) → AreOfOthers more) → AreOfOthers some
    at false some g others = others some g
    at true [] g others = tt
    at true (row ∷ some) g others =
        let head : row.entity ≡ (let e : Entity = record { index = first; generation = x.generation } in e) = cc in
        let rest : map (λ (y : Row). y.entity) some ≡ map (λ (y : ShownRow). y.entity) (rows_from query last (suc first) slots) = cc in (
          each-by-get (λ (other : Row). row.entity.index ≡ other.entity.index → ⊥) some
              (λ r other there same.
              (let s = beside some (rows_from query last (suc first) slots) r other rest there in
              let i = (row-at-slot query last (suc first) slots r s.0 s.1).index_is in
              let mine = ap (λ (e : Entity). e.index) head in
              let theirs = ap (λ (e : Entity). e.index) s.2 in
              (let z : ⊥ = omega arith in z))),
          others some rest,
        )

-- ---- kinds

-- what has a kind is an archetype of the layout
pub kinds-within : (layout : List Archetype) (n kind : ℕ) → has kind (archetype_at layout n).kinds ≡ true → n < length layout
kinds-within [] n kind h = absurd (cc)
kinds-within (a ∷ layout) zero kind h = omega arith
kinds-within (a ∷ layout) (suc n) kind h = let l = kinds-within layout n kind h in omega arith

-- a row without components has no cell
no-cell : (row : List Component) (kind : ℕ) → is_there row ≡ false → cell_at row kind ≡ None
no-cell [] kind h = refl
no-cell (c ∷ cs) kind h = absurd (cc)

-- a term touches the kind that it fetches
fetched-touched : (kind : ℕ) (t : Term) → is_number kind (fetched t) ≡ true → is_number kind (touched t) ≡ true
fetched-touched kind (Read k) h = h
fetched-touched kind (Mut k) h = h
fetched-touched kind (Opt k) h = h
fetched-touched kind t h = absurd (false≢true h)

fetches-touch : (terms : List Term) (kind : ℕ) → fetches terms kind ≡ true → touches terms kind ≡ true
fetches-touch terms kind h = any_weaker (λ t. is_number kind (fetched t)) (λ t. is_number kind (touched t)) (fetched-touched kind) terms h

-- ---- a query over a world

module _ (tick last : ℕ) (terms : List Term) (w : StoreValue) (tables : List (List (Option ℕ))) (rows : List Row) (columns : List Column) (laid : IsLayoutOf w.state.slots w.layout) (world : IsWorld widths w.state)
    (apart : AllByRecursion (λ (a : Archetype). AreApart a.entities) w.layout) (later : w.state.clock < tick)
    (same : map (λ (row : Row). row.entity) rows ≡ map (λ (row : ShownRow). row.entity) (rows_of terms last w.state.slots)) (standing : AllByRecursion (IsStanding w.state.slots w.layout) rows)
    (picked : ArePickedOf terms w columns) (are : AreSlotsOf terms (suc (length w.layout)) columns tables) where
  -- the query matches the kinds of a row
  row-fact : (r : ℕ) (row : Row) → slice_get rows r ≡ Some row → matches terms (kinds_of (row_at w.state.slots row.entity.index)) ≡ true
  row-fact r row there =
      let s = beside rows (rows_of terms last w.state.slots) r row same there in
      row-matches terms last (get_or w.state.slots row.entity.index fresh_slot)
      (subst (λ (e : Entity). is_row terms last (get_or w.state.slots e.index fresh_slot) ≡ true) s.2 (row-shown terms last w.state.slots r s.0 s.1).1)

  -- these are those of its archetype
  row-kinds : (row : Row) → slice_get (archetype_at w.layout row.archetype).entities row.place ≡ Some row.entity →
      kinds_of (row_at w.state.slots row.entity.index) ≡ (λ kind. has kind (archetype_at w.layout row.archetype).kinds)
  row-kinds row h = fun_ext (λ kind.
      sym (kinds-among (row_at w.state.slots row.entity.index) kind)
      ∙ ap (has kind) (laid.theirs row.archetype row.entity (is-in (archetype_at w.layout row.archetype).entities row.place row.entity h)).1)

  -- so that the column of a kind that it has and the query touches was picked
  row-column : (row : Row) (kind : ℕ) → slice_get (archetype_at w.layout row.archetype).entities row.place ≡ Some row.entity → matches terms (kinds_of (row_at w.state.slots row.entity.index)) ≡ true →
      kinds_of (row_at w.state.slots row.entity.index) kind ≡ true → touches terms kind ≡ true → IsAmong columns row.archetype kind
  row-column row kind h m there t =
      let kinds = row-kinds row h in
      picked.all row.archetype kind (subst (λ (ks : ℕ → Bool). matches terms ks ≡ true) kinds m) (subst (λ (ks : ℕ → Bool). ks kind ≡ true) kinds there) t

  row-covered : (row : Row) (kind : ℕ) → IsStanding w.state.slots w.layout row → matches terms (kinds_of (row_at w.state.slots row.entity.index)) ≡ true → writes terms kind ≡ true → IsAmong columns row.archetype kind
  row-covered row kind (inl h) m t = row-column row kind h m (holds_from_writes terms (kinds_of (row_at w.state.slots row.entity.index)) kind m t) (touches_from_writes terms kind t)
  row-covered row kind (inr h) m t =
      absurd (false≢true (sym (ap is_some (no-cell (row_at w.state.slots row.entity.index) kind h.2)) ∙ holds_from_writes terms (kinds_of (row_at w.state.slots row.entity.index)) kind m t))

  -- no stamp of the world is that of a tick to come
  all-fresh : AreFresh tick columns
  all-fresh j i c e =
      let of = column-of columns j i c e in
      let is = all-get (IsPickedOf terms w) columns j of.0 picked.each of.1 in
      let past = all-get (IsPast w.state.clock) of.0.cells i c (cells_past w.state.clock w.state.slots of.0.kind of.0.entities of.0.cells world.slots is.cells_are) of.2 in
      let l = past.changed in
      omega arith

  planned : IsPlanned tick terms w.state.slots w.layout rows columns
  planned = record {
    laid = laid;
    apart = apart;
    columns_are = each-weaker (IsPickedOf terms w) (IsColumnOf terms w.layout)
        (λ column is. record {
          archetype_within = kinds-within w.layout column.archetype column.kind is.picked.held;
          entities_are = is.picked.entities_are;
          as_many = cells_length w.state.slots column.entities column.kind column.cells is.cells_are;
          own = λ t. is.own ∙ t;
        })
        columns picked.each;
    unlike = picked.unlike;
    standing = standing;
    others = of-others terms last 0 w.state.slots rows same;
    covered = λ r row there kind t. row-covered row kind (all-get (IsStanding w.state.slots w.layout) rows r row standing there) (row-fact r row there) t;
    fresh = all-fresh;
  }

  -- the cell of a row at a kind that is fetched is that of the world
  cell-seen : (row : Row) (kind : ℕ) (o : Option ℕ) → slot_in tables row.archetype kind ≡ o → IsStanding w.state.slots w.layout row → matches terms (kinds_of (row_at w.state.slots row.entity.index)) ≡ true →
      fetches terms kind ≡ true → slot_cell o columns row.place ≡ cell_at (row_at w.state.slots row.entity.index) kind
  cell-seen row kind (Some j) e s m f =
      let slot = are.named row.archetype kind j e in
      let column = slot.column in
      let is = all-get (IsPickedOf terms w) columns j column picked.each slot.there in
      let at = row-place tick terms w.state.slots w.layout tables rows columns planned are row j column s slot.there slot.archetype_is in
      let lives = column-entity tick terms w.state.slots w.layout tables rows columns planned are j column row.place row.entity slot.there at in
      cell_in-is columns j row.place column slot.there
      ∙ cell_here w.state.slots column.entities column.kind column.cells row.place row.entity is.cells_are at lives.1
      ∙ ap (cell_at (row_at w.state.slots row.entity.index)) slot.kind_is
  cell-seen row kind None e (inl h) m f =
      sym (none_from_no (cell_at (row_at w.state.slots row.entity.index) kind)
      (λ c there.
      (let among = row-column row kind h m (ap is_some there) (fetches-touch terms kind f) in
      let inside = slice_get_within columns among.at among.column among.there in
      let found = are.found among.at among.column inside among.there (ap (fetches terms) among.kind_is ∙ f) in
      let nothing : slot_in tables among.column.archetype among.column.kind ≡ None = ap₂ (slot_in tables) among.archetype_is among.kind_is ∙ e in
      let z : IsSome (let o : Option ℕ = None in o) = subst (λ o. IsSome o) nothing found in
      (let y : ⊥ = absurd (cc) in y))))
  cell-seen row kind None e (inr h) m f = sym (no-cell (row_at w.state.slots row.entity.index) kind h.2)

  -- each row shows what the definitions show
  row-same : (r : ℕ) (row : Row) (s : ShownRow) → slice_get rows r ≡ Some row → slice_get (rows_of terms last w.state.slots) r ≡ Some s → row.entity ≡ s.entity → row_of tables columns terms row ≡ s
  row-same r row s there shown e =
      let fact = row-shown terms last w.state.slots r s shown in
      let index = ap (λ (x : Entity). x.index) e in
      let stands = all-get (IsStanding w.state.slots w.layout) rows r row standing there in
      rows-shown terms tables columns row s.entity.index (get_or w.state.slots s.entity.index fresh_slot) (e ∙ ap (λ (x : ShownRow). x.entity) fact.0)
      (λ kind f. ap words_of
      (cell-seen row kind (slot_in tables row.archetype kind) refl stands (row-fact r row there) f ∙ ap (λ n. cell_at (row_at w.state.slots n) kind) index))
      ∙ sym fact.0

pub opens-over : OpensOver
opens-over tick last terms w tables rows columns laid world apart later same standing picked are = (
  plans-open tick terms w.state.slots w.layout tables rows columns (planned tick last terms w tables rows columns laid world apart later same standing picked are) are,
  same-beside (row_of tables columns terms) (λ (row : Row). row.entity) (λ (row : ShownRow). row.entity) rows (rows_of terms last w.state.slots) same
      (row-same tick last terms w tables rows columns laid world apart later same standing picked are),
)
