-- The laws of the queries of a view together.
use Rattle.std.proofs.Common.{◌≡◌, ℕ, zero, suc, Bool, true, false, cond, ◌==◌, ◌⊎◌, inl, inr, ℤ, List, [], ◌∷◌, map, slice_get, Option, Some, None, option_map, refl, sym, ap, ap₂, ◌∙◌, arith}
use Rattle.std.proofs.lemmas.Bool.{eqb-true, eq-eqb, or_right as or-right, or_left as or-left}
use Rattle.model.specs.Lists.{is_number, first_some}
use Rattle.model.specs.declared.entities.Entity.{Entity}
use Rattle.model.specs.state.State.{Cell, Component}
use Rattle.model.specs.state.Rows.{cell_at}
use Rattle.model.specs.access.Query.{Term, writes}
use Rattle.model.specs.access.Query.Term.{Entity as IdOnly, Read, Mut, Opt, With, Without, Added, Changed, AnyOf}
use Rattle.model.specs.access.QueryFaults.{fetched}
use Rattle.model.specs.shown.Input.{ShownRow, words_of, fetch}
use Rattle.model.specs.shown.Outcome.{words_in_row, words_in_query}
use Rattle.model.specs.shown.Overlay.{cell_after}
use Rattle.model.proofs.serial.Within.{words_in_row-writes as in-row-written}
use Rattle.body.specs.Columns.{Column, cells_after, column_after}
use Rattle.body.specs.Seen.{fetches}
use Rattle.body.specs.Sheet.{Sheet, seen_at, words_for}
use Rattle.body.specs.Together.{words_of_sheet, words_of_all, CloseTogether, IsReachedIn, ReachTogether, RowsAreShown, CellsAreAfter}
use Rattle.body.proofs.Gets.{same-some, map-same-get}

-- ---- another query writes nothing there

query-step : (b : Bool) (u v : Option (List ℤ)) → (b ≡ true → u ≡ None) → v ≡ None → first_some (cond b u None) v ≡ None
query-step true u v h g = ap (λ o. first_some o v) (h refl) ∙ g
query-step false u v h g = g

not-some : (o : Option (List ℤ)) → ((w : List ℤ) → o ≡ Some w → ⊥) → o ≡ None
not-some None h = refl
not-some (Some w) h = absurd (h w refl)

query-silent : (query : List Term) (rows : List ShownRow) (cells : List (List (Option (List ℤ)))) (index kind : ℕ) →
    (writes query kind ≡ true → (r : ℕ) (row : ShownRow) → slice_get rows r ≡ Some row → row.entity.index ≡ index → ⊥) → words_in_query query rows cells index kind ≡ None
query-silent query [] cells index kind h = refl
query-silent query (row ∷ rows) [] index kind h = refl
query-silent query (row ∷ rows) (c ∷ cells) index kind h =
    query-step (row.entity.index == index) (words_in_row query c kind) (words_in_query query rows cells index kind)
    (λ e. not-some (words_in_row query c kind) (λ w f. h (in-row-written query c kind w f) zero row refl (eqb-true row.entity.index index e)))
    (query-silent query rows cells index kind (λ w r other g i. h w (suc r) other g i))

first-none : (o : Option (List ℤ)) → first_some o None ≡ o
first-none None = refl
first-none (Some w) = refl

all-silent : (sheets : List Sheet) (index kind : ℕ) → ((m : ℕ) (t : Sheet) → slice_get sheets m ≡ Some t → words_of_sheet t index kind ≡ None) → words_of_all sheets index kind ≡ None
all-silent [] index kind h = refl
all-silent (s ∷ ss) index kind h = ap₂ first_some (h zero s refl) (all-silent ss index kind (λ m t e. h (suc m) t e))

-- what is written through all is what is written through the one that may
one-speaks : (sheets : List Sheet) (n : ℕ) (s : Sheet) (index kind : ℕ) → slice_get sheets n ≡ Some s → ((m : ℕ) (t : Sheet) → slice_get sheets m ≡ Some t → (m ≡ n → ⊥) → words_of_sheet t index kind ≡ None) →
    words_of_sheet s index kind ≡ words_of_all sheets index kind
one-speaks [] n s index kind e h = absurd (cc)
one-speaks (x ∷ xs) zero s index kind e h =
    ap (λ (y : Sheet). words_of_sheet y index kind) (sym (same-some x s e))
    ∙ sym (first-none (words_of_sheet x index kind))
    ∙ ap (first_some (words_of_sheet x index kind)) (sym (all-silent xs index kind (λ m t f. h (suc m) t f (omega arith))))
one-speaks (x ∷ xs) (suc n) s index kind e h =
    one-speaks xs n s index kind e (λ m t f d. h (suc m) t f (omega arith))
    ∙ ap (λ o. first_some o (words_of_all xs index kind)) (sym (h zero x refl (omega arith)))

-- ---- cells after the same writes

cells-same : (tick : ℕ) (f g : ℕ → ℕ → Option (List ℤ)) (kind : ℕ) (entities : List Entity) (cells : List Cell) → ((p : ℕ) (e : Entity) → slice_get entities p ≡ Some e → f e.index kind ≡ g e.index kind) →
    cells_after tick f kind entities cells ≡ cells_after tick g kind entities cells
cells-same tick f g kind entities [] h = refl
cells-same tick f g kind [] (c ∷ cs) h = refl
cells-same tick f g kind (e ∷ es) (c ∷ cs) h = ap₂ (λ o xs. cell_after tick o c ∷ xs) (h zero e refl) (cells-same tick f g kind es cs (λ p x i. h (suc p) x i))

with-cells : Column → List Cell → Column
with-cells c cells = record { archetype = c.archetype; entities = c.entities; is_written = c.is_written; kind = c.kind; cells = cells; room = c.room }

pub close-together : CloseTogether
unfolding with-cells
close-together sheets n s there alone =
    map-same-get (column_after s.tick (words_of_sheet s)) (column_after s.tick (words_of_all sheets)) s.taken
    (λ j column e. ap (with-cells column) (cells-same s.tick (words_of_sheet s) (words_of_all sheets) column.kind column.entities column.cells
    (λ p x i. one-speaks sheets n s x.index column.kind there
    (λ m t f d. query-silent t.terms t.rows t.cells x.index column.kind (λ w r row g q. alone j column e p x i m t f d w r row g q)))))

-- ---- what is written reaches a column

first-of : (u v : Option (List ℤ)) (w : List ℤ) → first_some u v ≡ Some w → (u ≡ Some w) ⊎ (v ≡ Some w)
first-of None v w h = inr h
first-of (Some x) v w h = inl h

later-reached : (x : Sheet) (sheets : List Sheet) (index kind : ℕ) → IsReachedIn sheets index kind → IsReachedIn (x ∷ sheets) index kind
later-reached x sheets index kind h = record { query = suc h.query; sheet = h.sheet; there = h.there; reached = h.reached }

pub reach-together : ReachTogether
reach-together [] reach index kind w h = absurd (cc)
reach-together (x ∷ xs) reach index kind w h = elim (first-of (words_of_sheet x index kind) (words_of_all xs index kind) w h) [
  | inl here ↦ record { query = zero; sheet = x; there = refl; reached = reach zero x refl index kind w here }
  | inr later ↦ later-reached x xs index kind (reach-together xs (λ n s e. reach (suc n) s e) index kind w later)
]

-- ---- rows as they are shown

fetch-is : (row : List Component) (f : ℕ → Option (List ℤ)) (t : Term) → ((k : ℕ) → is_number k (fetched t) ≡ true → f k ≡ words_of (cell_at row k)) → words_for (fetched t) f ≡ fetch row t
fetch-is row f IdOnly h = refl
fetch-is row f (Read k) h = h k (eq-eqb k k refl)
fetch-is row f (Mut k) h = h k (eq-eqb k k refl)
fetch-is row f (Opt k) h = h k (eq-eqb k k refl)
fetch-is row f (With k) h = refl
fetch-is row f (Without k) h = refl
fetch-is row f (Added k) h = refl
fetch-is row f (Changed k) h = refl
fetch-is row f (AnyOf alternatives) h = refl

fetches-are : (row : List Component) (f : ℕ → Option (List ℤ)) (terms : List Term) → ((k : ℕ) → fetches terms k ≡ true → f k ≡ words_of (cell_at row k)) → map (λ t. words_for (fetched t) f) terms ≡ map (fetch row) terms
fetches-are row f [] h = refl
fetches-are row f (t ∷ ts) h =
    ap₂ ◌∷◌ (fetch-is row f t (λ k e. h k (or-left (is_number k (fetched t)) (fetches ts k) e))) (fetches-are row f ts (λ k e. h k (or-right (is_number k (fetched t)) (fetches ts k) e)))

pub rows-shown : RowsAreShown
rows-shown terms slots taken row index slot e h = λ i. record { entity = e i; values = fetches-are slot.row (λ kind. words_of (seen_at slots taken row kind)) terms h i }

-- ---- cells as a store has them

stored-after : (tick : ℕ) (w : Option (List ℤ)) (c : Cell) (o : Option Cell) → Some c ≡ o → Some (cell_after tick w c) ≡ option_map (cell_after tick w) o
stored-after tick w c o e = ap (option_map (cell_after tick w)) e

head-same : {A : Type 0} (x y : A) (xs ys : List A) → x ∷ xs ≡ y ∷ ys → (x ≡ y) × (xs ≡ ys)
head-same x y xs ys e = (cc, cc)

pub cells-stored : CellsAreAfter
cells-stored tick words kind [] [] stored h = refl
cells-stored tick words kind (e ∷ es) [] stored h = absurd (cc)
cells-stored tick words kind [] (c ∷ cs) stored h = absurd (cc)
cells-stored tick words kind (e ∷ es) (c ∷ cs) stored h =
    let p = head-same (let o : Option Cell = Some c in o) (stored e) (map (λ cell. Some cell) cs) (map stored es) h in
    ap₂ ◌∷◌ (stored-after tick (words e.index kind) c (stored e) p.0) (cells-stored tick words kind es cs stored p.1)
