-- The columns of a query by archetype and kind, one column at a time.
use Rattle.std.proofs.Common.{◌≡◌, ◌≢◌, ℕ, zero, suc, ◌+◌, ◌<◌, ◌≤◌, ◌⊎◌, inl, inr, Bool, true, false, cond, List, [], ◌∷◌, length, get_or, set, map, replicate, slice_get, Option, Some, None, option_map, refl, sym, ap, ap₂, ◌∙◌, subst, arith}
use Rattle.std.specs.Prelude.{IsSome}
use Rattle.std.proofs.lemmas.List.{get_or-set_same, get_or-set_other, length-set}
use Rattle.std.proofs.lemmas.Option.{slice_get-map, slice_get_read}
use Rattle.std.proofs.lemmas.List.{length-map}
use Rattle.std.specs.List.{AllByRecursion}
use Rattle.query.proofs.Terms.{list_any-map}
use Rattle.kinds.specs.Kind.{kind_count}
use Rattle.model.specs.Lists.{update_at}
use Rattle.model.specs.access.Query.{Term}
use Rattle.model.proofs.lists.Lists.{length-update_at as length-update}
use Rattle.body.specs.declared.view_column.ViewColumn.{ViewColumn}
use Rattle.body.specs.declared.view_query.ColumnIndex.{ColumnIndex}
use Rattle.body.specs.Columns.{Column}
use Rattle.body.specs.HeldColumns.{held_seen, slots_seen}
use Rattle.body.specs.Seen.{fetches}
use Rattle.body.specs.Sheet.{slot_in}
use Rattle.body.specs.SlotTable.{with_slot, is_slot_kind, IsSlotOf, AreSlotsBelow, AreSlotsOf}
use Rattle.body.proofs.Gets.{same-some, all-get}
use Rattle.body.proofs.SheetWrites.{same-number}

pub ruleset over_terms = (list_any-map)

-- ---- a table at a place

get-update-here : (a : ℕ) (f : List (Option ℕ) → List (Option ℕ)) (slots : List (List (Option ℕ))) → a < length slots → get_or (update_at a f slots) a [] ≡ f (get_or slots a [])
get-update-here a f [] l = absurd (omega arith)
get-update-here zero f (s ∷ ss) l = refl
get-update-here (suc a) f (s ∷ ss) l = get-update-here a f ss (omega arith)

get-update-there : (a n : ℕ) (f : List (Option ℕ) → List (Option ℕ)) (slots : List (List (Option ℕ))) → n ≢ a → get_or (update_at a f slots) n [] ≡ get_or slots n []
get-update-there a n f [] d = refl
get-update-there zero zero f (s ∷ ss) d = absurd (d refl)
get-update-there zero (suc n) f (s ∷ ss) d = refl
get-update-there (suc a) zero f (s ∷ ss) d = refl
get-update-there (suc a) (suc n) f (s ∷ ss) d = get-update-there a n f ss (λ e. d (ap suc e))

wide-update : (a k : ℕ) (v : Option ℕ) (slots : List (List (Option ℕ))) → AllByRecursion (λ row. length row ≡ kind_count) slots → AllByRecursion (λ row. length row ≡ kind_count) (update_at a (λ columns. set columns k v) slots)
wide-update a k v [] h = tt
wide-update zero k v (s ∷ ss) h = (length-set s k v ∙ h.0, h.1)
wide-update (suc a) k v (s ∷ ss) h = (h.0, wide-update a k v ss h.1)

wide-at : (a : ℕ) (slots : List (List (Option ℕ))) → AllByRecursion (λ row. length row ≡ kind_count) slots → a < length slots → length (get_or slots a []) ≡ kind_count
wide-at a [] h l = absurd (omega arith)
wide-at zero (s ∷ ss) h l = h.0
wide-at (suc a) (s ∷ ss) h l = wide-at a ss h.1 (omega arith)

-- ---- a slot

slot-here : (a k j : ℕ) (slots : List (List (Option ℕ))) → AllByRecursion (λ row. length row ≡ kind_count) slots → a < length slots → k < kind_count → slot_in (with_slot a k j slots) a k ≡ Some j
slot-here a k j slots wide l b =
    let w = wide-at a slots wide l in
    let within : k < length (get_or slots a []) = omega arith in
    ap (λ row. get_or row k None) (get-update-here a (λ columns. set columns k (Some j)) slots l) ∙ get_or-set_same (get_or slots a []) k (Some j) None within

slot-there : (a k j n m : ℕ) (slots : List (List (Option ℕ))) → a < length slots → (n ≡ a → m ≡ k → ⊥) → slot_in (with_slot a k j slots) n m ≡ slot_in slots n m
slot-there a k j n m slots l d = elim (same-number n a) [
  | inl e ↦ subst (λ x. slot_in (with_slot a k j slots) x m ≡ slot_in slots x m) (sym e)
      (ap (λ row. get_or row m None) (get-update-here a (λ columns. set columns k (Some j)) slots l) ∙ get_or-set_other (get_or slots a []) k m (Some j) None (d e))
  | inr u ↦ ap (λ row. get_or row m None) (get-update-there a n (λ columns. set columns k (Some j)) slots u)
]

some-is : (o : Option ℕ) (j : ℕ) → o ≡ Some j → IsSome o
some-is None j e = absurd (cc)
some-is (Some x) j e = refl

-- ---- one more column

none-at : (n kind m : ℕ) (d : Option ℕ) → get_or (replicate m (let o : Option ℕ = None in o)) kind None ≡ None
none-at n kind zero d = refl
none-at n zero (suc m) d = refl
none-at n (suc kind) (suc m) d = none-at n kind m d

no-slot : (n kind archetypes : ℕ) → slot_in (replicate archetypes (replicate kind_count None)) n kind ≡ None
no-slot n kind zero = refl
no-slot zero kind (suc archetypes) = none-at 0 kind kind_count None
no-slot (suc n) kind (suc archetypes) = no-slot n kind archetypes

pub length-replicated : {A : Type 0} (n : ℕ) (x : A) → length (replicate n x) ≡ n
length-replicated zero x = refl
length-replicated (suc n) x = ap suc (length-replicated n x)

all-wide : (n : ℕ) → AllByRecursion (λ row. length row ≡ kind_count) (replicate n (replicate kind_count (let o : Option ℕ = None in o)))
all-wide zero = tt
all-wide (suc n) = (length-replicated {A = Option ℕ} kind_count None, all-wide n)

map-replicated : (n : ℕ) (x : ColumnIndex) → map slots_seen (replicate n x) ≡ replicate n (slots_seen x)
map-replicated zero x = refl
map-replicated (suc n) x = ap (λ xs. slots_seen x ∷ xs) (map-replicated n x)

-- no column yet
pub slots-begun : (terms : List Term) (archetypes : ℕ) (columns : List Column) (slots : List ColumnIndex) → slots ≡ replicate archetypes (record { columns = replicate kind_count None }) → AreSlotsBelow terms archetypes columns 0 (map slots_seen slots)
slots-begun terms archetypes columns slots e =
    subst (AreSlotsBelow terms archetypes columns 0) (sym (ap (map slots_seen) e ∙ map-replicated archetypes (record { columns = replicate kind_count None }))) (record {
      count = length-replicated archetypes (replicate kind_count None);
      wide = all-wide archetypes;
      named = λ n kind j h. absurd (let z = sym (no-slot n kind archetypes) ∙ h in cc);
      found = λ j column l. absurd (omega arith);
    })

-- with a column
slots-added : (b : Bool) (terms : List Term) (archetypes : ℕ) (columns : List Column) (i : ℕ) (slots : List (List (Option ℕ))) (column : Column) → fetches terms column.kind ≡ b → slice_get columns i ≡ Some column →
    column.archetype < archetypes → column.kind < kind_count → AreSlotsBelow terms archetypes columns i slots →
    AreSlotsBelow terms archetypes columns (i + 1) (cond b (with_slot column.archetype column.kind i slots) slots)
slots-added true terms archetypes columns i slots column f there l k is =
    let count = is.count in
    let inside : column.archetype < length slots = omega arith in
    record {
      count = length-update column.archetype (λ row. set row column.kind (Some i)) slots ∙ is.count;
      wide = wide-update column.archetype column.kind (Some i) slots is.wide;
      named = λ n kind j h. named n kind j inside h (same-number n column.archetype) (same-number kind column.kind);
      found = λ j other m e g. found j other inside m e g (same-number other.archetype column.archetype) (same-number other.kind column.kind);
    }
  where
    named : (n kind j : ℕ) → column.archetype < length slots → slot_in (with_slot column.archetype column.kind i slots) n kind ≡ Some j → (n ≡ column.archetype) ⊎ (n ≢ column.archetype) → (kind ≡ column.kind) ⊎ (kind ≢ column.kind) → IsSlotOf terms columns n kind j
    named n kind j inside h (inl e) (inl g) =
        let same = same-some i j (sym (slot-here column.archetype column.kind i slots is.wide inside k) ∙ ap₂ (slot_in (with_slot column.archetype column.kind i slots)) (sym e) (sym g) ∙ h) in
        record { column = column; there = ap (slice_get columns) (sym same) ∙ there; archetype_is = sym e; kind_is = sym g; fetched_is = ap (fetches terms) g ∙ f }
    named n kind j inside h (inl e) (inr d) = is.named n kind j (sym (slot-there column.archetype column.kind i n kind slots inside (λ a b. d b)) ∙ h)
    named n kind j inside h (inr d) other = is.named n kind j (sym (slot-there column.archetype column.kind i n kind slots inside (λ a b. d a)) ∙ h)

    kept : (j : ℕ) (other : Column) → column.archetype < length slots → j < i + 1 → slice_get columns j ≡ Some other → fetches terms other.kind ≡ true → (other.archetype ≡ column.archetype → other.kind ≡ column.kind → ⊥) →
        IsSome (slot_in (with_slot column.archetype column.kind i slots) other.archetype other.kind)
    kept j other inside m e g d = elim (same-number j i) [
      | inl s ↦ let same = same-some other column (sym e ∙ ap (slice_get columns) s ∙ there) in absurd (d (ap (λ (c : Column). c.archetype) same) (ap (λ (c : Column). c.kind) same))
      | inr u ↦ subst (λ o. IsSome o) (sym (slot-there column.archetype column.kind i other.archetype other.kind slots inside d)) (is.found j other (let z : j < i = omega arith in z) e g)
    ]

    found : (j : ℕ) (other : Column) → column.archetype < length slots → j < i + 1 → slice_get columns j ≡ Some other → fetches terms other.kind ≡ true → (other.archetype ≡ column.archetype) ⊎ (other.archetype ≢ column.archetype) →
        (other.kind ≡ column.kind) ⊎ (other.kind ≢ column.kind) → IsSome (slot_in (with_slot column.archetype column.kind i slots) other.archetype other.kind)
    found j other inside m e g (inl a) (inl b) =
        some-is (slot_in (with_slot column.archetype column.kind i slots) other.archetype other.kind) i
        (ap₂ (slot_in (with_slot column.archetype column.kind i slots)) a b ∙ slot-here column.archetype column.kind i slots is.wide inside k)
    found j other inside m e g (inl a) (inr d) = kept j other inside m e g (λ x y. d y)
    found j other inside m e g (inr d) kinds = kept j other inside m e g (λ x y. d x)
slots-added false terms archetypes columns i slots column f there l k is = record {
  count = is.count;
  wide = is.wide;
  named = is.named;
  found = λ j other m e g. elim (same-number j i) [
    | inl s ↦ let same = same-some other column (sym e ∙ ap (slice_get columns) s ∙ there) in absurd (let z = sym f ∙ ap (λ (c : Column). fetches terms c.kind) (sym same) ∙ g in cc)
    | inr u ↦ is.found j other (let z : j < i = omega arith in z) e g
  ];
}

pub slots-more : (terms : List Term) (archetypes : ℕ) (columns : List ViewColumn) (i : ℕ) (slots news : List (List (Option ℕ))) (held : ViewColumn) → i < length columns → held ≡ get_or columns i held →
    AllByRecursion (λ (column : Column). column.archetype < archetypes) (map held_seen columns) → (held_seen held).kind < kind_count → news ≡ is_slot_kind terms (held_seen held) i slots →
    AreSlotsBelow terms archetypes (map held_seen columns) i slots → AreSlotsBelow terms archetypes (map held_seen columns) (i + 1) news
slots-more terms archetypes columns i slots news held l e below k n is =
    let there = slice_get-map held_seen columns i ∙ ap (option_map held_seen) (slice_get_read columns (length columns) i held refl l e) in
    let low = all-get (λ (column : Column). column.archetype < archetypes) (map held_seen columns) i (held_seen held) below there in
    subst (AreSlotsBelow terms archetypes (map held_seen columns) (i + 1)) (sym n) (slots-added (fetches terms (held_seen held).kind) terms archetypes (map held_seen columns) i slots (held_seen held) refl there low k is)

pub slots-ended : (terms : List Term) (archetypes : ℕ) (columns : List ViewColumn) (i : ℕ) (slots : List (List (Option ℕ))) → length columns ≤ i → AreSlotsBelow terms archetypes (map held_seen columns) i slots → AreSlotsOf terms archetypes (map held_seen columns) slots
slots-ended terms archetypes columns i slots l is = record {
  count = is.count;
  wide = is.wide;
  named = is.named;
  found = λ j column m e g. is.found j column (let z : j < i = omega (arith, length-map columns held_seen, m, l) in z) e g;
}

-- a column of the columns is of an archetype below the number
pub archetype-below : (archetypes : ℕ) (columns : List ViewColumn) (i : ℕ) (held : ViewColumn) → i < length columns → held ≡ get_or columns i held → AllByRecursion (λ (column : Column). column.archetype < archetypes) (map held_seen columns) → (held_seen held).archetype < archetypes
archetype-below archetypes columns i held l e below =
    all-get (λ (column : Column). column.archetype < archetypes) (map held_seen columns) i (held_seen held) below (slice_get-map held_seen columns i ∙ ap (option_map held_seen) (slice_get_read columns (length columns) i held refl l e))
