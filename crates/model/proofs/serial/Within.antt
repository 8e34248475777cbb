-- An outcome writes only where a query of its system matches, in entities whose kinds may be there: it is parallel to the rows that were
-- shown.
use Rattle.std.proofs.Common.{ℕ, zero, suc, ◌+◌, ℤ, Bool, true, false, cond, ◌&&◌, ◌==◌, ◌≡◌, ◌⊎◌, List, [], ◌∷◌, map, get_or, Option, Some, None, refl, sym, subst, inl, inr, arith, add-zero}
use Rattle.std.specs.List.{list_all, AllByRecursion}
use Rattle.std.proofs.lemmas.Bool.{or_left, or_right, and_parts, eqb-true}
use Rattle.model.specs.Lists.{is_number}
use Rattle.model.specs.state.State.{Slot, fresh_slot, is_living}
use Rattle.model.specs.state.Rows.{row_at, kinds_of}
use Rattle.model.specs.access.Query.{Term, matches, written, writes}
use Rattle.model.specs.access.Meeting.{IsAmong}
use Rattle.model.specs.shown.Input.{ShownRow, is_row, rows_from, rows_of, passes, shown_row}
use Rattle.model.specs.shown.Outcome.{words_in_row, words_in_query, words_written}
use Rattle.model.proofs.serial.Conflicts.{WritesIn, WritesWithin, first_some-cases}

-- each living entity has kinds that may be there
abbrev pub AllAmong : Option (List ℕ) → List Slot → Type 0
AllAmong there slots = (index : ℕ) → is_living (get_or slots index fresh_slot).status ≡ true → IsAmong there (kinds_of (row_at slots index))

-- an entity that the query matches, and whose kinds may be there
pub record IsMatch (there : Option (List ℕ)) (slots : List Slot) (query : List Term) (index : ℕ) : Type 0 where
  pub matched : matches query (kinds_of (row_at slots index)) ≡ true
  pub among : IsAmong there (kinds_of (row_at slots index))

-- each of these rows is of such an entity
abbrev pub RowsMatch : Option (List ℕ) → List Slot → List Term → List ShownRow → Type 0
RowsMatch there slots query rows = AllByRecursion (λ row. IsMatch there slots query row.entity.index) rows

-- so are the rows of each query
abbrev pub QueriesMatch : Option (List ℕ) → List Slot → List (List Term) → List (List ShownRow) → Type 0
QueriesMatch there slots [] rows = Unit {0}
QueriesMatch there slots (query ∷ queries) [] = Unit {0}
QueriesMatch there slots (query ∷ queries) (rows ∷ more) = RowsMatch there slots query rows × QueriesMatch there slots queries more

-- ---- rows match

-- a row matches its query
pub matches_from_row : (query : List Term) (last : ℕ) (slot : Slot) → is_row query last slot ≡ true → matches query (kinds_of slot.row) ≡ true
matches_from_row query last slot h =
    (and_parts (is_living slot.status) (matches query (kinds_of slot.row))
    (and_parts (is_living slot.status && matches query (kinds_of slot.row)) (list_all (passes last slot.row) query) h).0).1

-- a row is of an entity that lives
pub living_from_row : (query : List Term) (last : ℕ) (slot : Slot) → is_row query last slot ≡ true → is_living slot.status ≡ true
living_from_row query last slot h =
    (and_parts (is_living slot.status) (matches query (kinds_of slot.row))
    (and_parts (is_living slot.status && matches query (kinds_of slot.row)) (list_all (passes last slot.row) query) h).0).0

-- what holds of the index of each living entity that the query matches holds of the rows
rows_from-match : (query : List Term) (last index : ℕ) (slots : List Slot) (P : ℕ → Type 0) →
    ((place : ℕ) → is_living (get_or slots place fresh_slot).status ≡ true → matches query (kinds_of (row_at slots place)) ≡ true → P (place + index)) →
    AllByRecursion (λ row. P row.entity.index) (rows_from query last index slots)
unfolding rows_from
rows_from-match query last index [] P h = tt
rows_from-match query last index (slot ∷ slots) P h =
    go (is_row query last slot) refl (rows_from-match query last (suc index) slots P (λ place l m. subst P (omega arith) (h (suc place) l m)))
  where
    go : (b : Bool) → is_row query last slot ≡ b → AllByRecursion (λ row. P row.entity.index) (rows_from query last (suc index) slots) →
        AllByRecursion (λ row. P row.entity.index)
        (cond b (shown_row query index slot ∷ rows_from query last (suc index) slots) (rows_from query last (suc index) slots))
    go true e r = (subst P (omega arith) (h zero (living_from_row query last slot e) (matches_from_row query last slot e)), r)
    go false e r = r

-- the rows of a query match it
pub rows_of-match : (there : Option (List ℕ)) (query : List Term) (last : ℕ) (slots : List Slot) → AllAmong there slots → RowsMatch there slots query (rows_of query last slots)
rows_of-match there query last slots all =
    rows_from-match query last 0 slots (IsMatch there slots query)
    (λ place l m. subst (IsMatch there slots query) (sym (add-zero place)) (record { matched = m; among = all place l }))

-- so do those of each query
pub rows_of_each-match : (there : Option (List ℕ)) (queries : List (List Term)) (last : ℕ) (slots : List Slot) → AllAmong there slots →
    QueriesMatch there slots queries (map (λ query. rows_of query last slots) queries)
rows_of_each-match there [] last slots all = tt
rows_of_each-match there (query ∷ queries) last slots all = (rows_of-match there query last slots all, rows_of_each-match there queries last slots all)

-- ---- writes are within

-- the value of a kind that stands at a term, where it does
cond_none-some : {A : Type 0} (b : Bool) (o : Option A) (x : A) → cond b o None ≡ Some x → (b ≡ true) × (o ≡ Some x)
cond_none-some true o x h = (refl, h)
cond_none-some false o x h = absurd (cc)

-- words that a row's values write at a kind are of a query that writes it
pub words_in_row-writes : (query : List Term) (values : List (Option (List ℤ))) (kind : ℕ) (x : List ℤ) → words_in_row query values kind ≡ Some x → writes query kind ≡ true
words_in_row-writes [] values kind x h = absurd (cc)
words_in_row-writes (t ∷ ts) [] kind x h = absurd (cc)
words_in_row-writes (t ∷ ts) (v ∷ vs) kind x h =
    go (first_some-cases (cond (is_number kind (written t)) v None) (words_in_row ts vs kind) x h) (words_in_row-writes ts vs kind x)
  where
    go : (cond (is_number kind (written t)) v None ≡ Some x) ⊎ (words_in_row ts vs kind ≡ Some x) → (words_in_row ts vs kind ≡ Some x → writes ts kind ≡ true) →
        writes (t ∷ ts) kind ≡ true
    go (inl e) r = or_left (is_number kind (written t)) (writes ts kind) (cond_none-some (is_number kind (written t)) v x e).0
    go (inr e) r = or_right (is_number kind (written t)) (writes ts kind) (r e)

-- words written through a query are of an entity that it matches and of a kind that it writes
words_in_query-within : (there : Option (List ℕ)) (slots : List Slot) (query : List Term) (rows : List ShownRow) (cells : List (List (Option (List ℤ)))) (index kind : ℕ) (x : List ℤ) →
    RowsMatch there slots query rows → words_in_query query rows cells index kind ≡ Some x → IsMatch there slots query index × (writes query kind ≡ true)
words_in_query-within there slots query [] cells index kind x m h = absurd (cc)
words_in_query-within there slots query (row ∷ rows) [] index kind x m h = absurd (cc)
words_in_query-within there slots query (row ∷ rows) (values ∷ cells) index kind x m h =
    go (first_some-cases (cond (row.entity.index == index) (words_in_row query values kind) None) (words_in_query query rows cells index kind) x h)
    (words_in_query-within there slots query rows cells index kind x m.1)
  where
    go : (cond (row.entity.index == index) (words_in_row query values kind) None ≡ Some x) ⊎ (words_in_query query rows cells index kind ≡ Some x) →
        (words_in_query query rows cells index kind ≡ Some x → IsMatch there slots query index × (writes query kind ≡ true)) →
        IsMatch there slots query index × (writes query kind ≡ true)
    go (inl e) r =
        let p : ((row.entity.index == index) ≡ true) × (words_in_row query values kind ≡ Some x) = cond_none-some (row.entity.index == index) (words_in_row query values kind) x e in
        (subst (IsMatch there slots query) (eqb-true row.entity.index index p.0) m.0, words_in_row-writes query values kind x p.1)
    go (inr e) r = r e

-- words written through some query are written by one that writes their kind, in an entity that it matches and whose kinds may be there
words_written-in : (there : Option (List ℕ)) (slots : List Slot) (queries : List (List Term)) (rows : List (List ShownRow)) (cells : List (List (List (Option (List ℤ))))) (index kind : ℕ) (x : List ℤ) →
    QueriesMatch there slots queries rows → words_written queries rows cells index kind ≡ Some x →
    WritesIn queries (kinds_of (row_at slots index)) kind × IsAmong there (kinds_of (row_at slots index))
words_written-in there slots [] rows cells index kind x m h = absurd (cc)
words_written-in there slots (query ∷ queries) [] cells index kind x m h = absurd (cc)
words_written-in there slots (query ∷ queries) (rows ∷ more) [] index kind x m h = absurd (cc)
words_written-in there slots (query ∷ queries) (rows ∷ more) (cells ∷ others) index kind x m h =
    go (first_some-cases (words_in_query query rows cells index kind) (words_written queries more others index kind) x h)
    (words_written-in there slots queries more others index kind x m.1)
  where
    go : (words_in_query query rows cells index kind ≡ Some x) ⊎ (words_written queries more others index kind ≡ Some x) →
        (words_written queries more others index kind ≡ Some x → WritesIn queries (kinds_of (row_at slots index)) kind × IsAmong there (kinds_of (row_at slots index))) →
        WritesIn (query ∷ queries) (kinds_of (row_at slots index)) kind × IsAmong there (kinds_of (row_at slots index))
    go (inl e) r =
        let p : IsMatch there slots query index × (writes query kind ≡ true) = words_in_query-within there slots query rows cells index kind x m.0 e in
        (record { query = query; is_in = inl refl; admitted = p.0.matched; wrote = p.1 }, p.0.among)
    go (inr e) r =
        let w : WritesIn queries (kinds_of (row_at slots index)) kind × IsAmong there (kinds_of (row_at slots index)) = r e in
        (record { query = w.0.query; is_in = inr w.0.is_in; admitted = w.0.admitted; wrote = w.0.wrote }, w.1)

-- what an outcome writes on rows that match is within
pub words_written-within : (there : Option (List ℕ)) (slots : List Slot) (queries : List (List Term)) (rows : List (List ShownRow)) (cells : List (List (List (Option (List ℤ))))) →
    QueriesMatch there slots queries rows → WritesWithin there queries slots (words_written queries rows cells)
words_written-within there slots queries rows cells m = record {
  at = λ index kind x h. (words_written-in there slots queries rows cells index kind x m h).0;
  among = λ index kind x h. (words_written-in there slots queries rows cells index kind x m h).1;
}
