-- A query may open over what was planned: each part of what it asks, from the layout of the store.
use Rattle.std.proofs.Common.{◌≡◌, ◌≢◌, ℕ, zero, suc, ◌<◌, ◌⊎◌, inl, inr, Bool, true, false, ◌||◌, ◌&&◌, List, [], ◌∷◌, length, get_or, map, slice_get, Option, Some, refl, sym, ap, ap₂, ◌∙◌, subst, arith}
use Rattle.std.specs.Prelude.{IsSome}
use Rattle.std.proofs.lemmas.Bool.{eq-eqb, or_right as or-right, or_left as or-left}
use Rattle.std.proofs.lemmas.Option.{slice_get_within}
use Rattle.std.specs.List.{AllByRecursion, list_any}
use Rattle.model.specs.Lists.{is_there, is_number}
use Rattle.model.specs.declared.entities.Entity.{Entity}
use Rattle.model.specs.state.State.{Slot, Component, fresh_slot}
use Rattle.model.specs.state.Rows.{row_at}
use Rattle.model.specs.state.Commands.{is_alive}
use Rattle.model.specs.access.Query.{Term, written, writes}
use Rattle.model.specs.access.Query.Term.{Entity as IdOnly, Read, Mut, Opt, With, Without, Added, Changed, AnyOf}
use Rattle.model.specs.access.QueryFaults.{fetched}
use Rattle.column_store.specs.Order.{is_same, AreApart as AreIdsApart}
use Rattle.archetype_store.specs.Layout.{Archetype, archetype_at, IsArchetype, AreOfOtherKinds}
use Rattle.query_plan.specs.declared.row.Row.{Row}
use Rattle.query_plan.proofs.Gathered.{living_generation as alive-generation}
use Rattle.body.specs.Columns.{Column, cell_in}
use Rattle.body.specs.Seen.{fetches}
use Rattle.body.specs.Sheet.{slot_in, IsRow, IsElsewhere, AreApart, IsPlan}
use Rattle.body.specs.SlotTable.{AreSlotsOf}
use Rattle.query_plan.specs.Standing.{IsStanding}
use Rattle.body.specs.Planned.{IsColumnOf, AreOfOthers, IsPlanned, PlansOpen}
use Rattle.body.proofs.Gets.{same-some, all-get}
use Rattle.body.proofs.Sheets.{cell_in-is}

pub or-cases : (a b : Bool) → (a || b) ≡ true → (a ≡ true) ⊎ (b ≡ true)
or-cases true b h = inl refl
or-cases false b h = inr h

-- ---- archetypes

pub archetype-fact : (P : Archetype → Type 0) (layout : List Archetype) (n : ℕ) → AllByRecursion P layout → n < length layout → P (archetype_at layout n)
archetype-fact P [] n h l = absurd (omega arith)
archetype-fact P (a ∷ layout) zero h l = h.0
archetype-fact P (a ∷ layout) (suc n) h l = archetype-fact P layout n h.1 (omega arith)

-- who is in an archetype is in one of the layout
archetype-within : (layout : List Archetype) (n place : ℕ) (e : Entity) → slice_get (archetype_at layout n).entities place ≡ Some e → n < length layout
archetype-within [] n place e h = absurd (cc)
archetype-within (a ∷ layout) zero place e h = omega arith
archetype-within (a ∷ layout) (suc n) place e h = let l = archetype-within layout n place e h in omega arith

pub same-archetype : (layout : List Archetype) (n m : ℕ) → AreOfOtherKinds layout → n < length layout → m < length layout → (archetype_at layout n).kinds ≡ (archetype_at layout m).kinds → n ≡ m
same-archetype [] n m h l k e = absurd (omega arith)
same-archetype (a ∷ layout) zero zero h l k e = refl
same-archetype (a ∷ layout) zero (suc m) h l k e = absurd (archetype-fact (λ b. a.kinds ≢ b.kinds) layout m h.0 (omega arith) e)
same-archetype (a ∷ layout) (suc n) zero h l k e = absurd (archetype-fact (λ b. a.kinds ≢ b.kinds) layout n h.0 (omega arith) (sym e))
same-archetype (a ∷ layout) (suc n) (suc m) h l k e = ap suc (same-archetype layout n m h.1 (omega arith) (omega arith) e)

pub is-in : (es : List Entity) (place : ℕ) (e : Entity) → slice_get es place ≡ Some e → list_any (λ x. is_same x e) es ≡ true
is-in [] place e h = absurd (cc)
is-in (x ∷ xs) zero e h =
    let s = same-some x e h in
    or-left (is_same x e) (list_any (λ y. is_same y e) xs) (ap₂ ◌&&◌ (eq-eqb x.index e.index (ap (λ (y : Entity). y.index) s)) (eq-eqb x.generation e.generation (ap (λ (y : Entity). y.generation) s)))
is-in (x ∷ xs) (suc place) e h = or-right (is_same x e) (list_any (λ y. is_same y e) xs) (is-in xs place e h)

-- ---- entities

same-entity : (slots : List Slot) (e f : Entity) → is_alive slots e ≡ true → is_alive slots f ≡ true → e.index ≡ f.index → e ≡ f
same-entity slots e f a b i =
    let g = sym (alive-generation slots e a) ∙ ap (λ n. (get_or slots n fresh_slot).generation) i ∙ alive-generation slots f b in
    λ k. record { index = i k; generation = g k }

-- ---- terms

written-number : (t : Term) (k : ℕ) → is_number k (written t) ≡ true → is_number k (fetched t) ≡ true
written-number IdOnly k h = absurd (cc)
written-number (Read m) k h = absurd (cc)
written-number (Mut m) k h = h
written-number (Opt m) k h = absurd (cc)
written-number (With m) k h = absurd (cc)
written-number (Without m) k h = absurd (cc)
written-number (AnyOf alternatives) k h = absurd (cc)
written-number (Added m) k h = absurd (cc)
written-number (Changed m) k h = absurd (cc)

written-fetched : (terms : List Term) (k : ℕ) → writes terms k ≡ true → fetches terms k ≡ true
written-fetched [] k h = absurd (cc)
written-fetched (t ∷ ts) k h = elim (or-cases (is_number k (written t)) (writes ts k) h) [
  | inl here ↦ or-left (is_number k (fetched t)) (fetches ts k) (written-number t k here)
  | inr later ↦ or-right (is_number k (fetched t)) (fetches ts k) (written-fetched ts k later)
]

there-is : {A : Type 0} (xs : List A) (i : ℕ) → i < length xs → IsSome (slice_get xs i)
there-is [] i l = absurd (omega arith)
there-is (x ∷ xs) zero l = refl
there-is (x ∷ xs) (suc i) l = there-is xs i (omega arith)

no-components : (row : List Component) (kinds : List ℕ) → map (λ c. c.kind) row ≡ kinds → kinds ≢ [] → is_there row ≡ false → ⊥
no-components [] kinds e d h = d (sym e)
no-components (c ∷ cs) kinds e d h = cc

-- ---- rows and columns

module _ (tick : ℕ) (terms : List Term) (slots : List Slot) (layout : List Archetype) (tables : List (List (Option ℕ))) (rows : List Row) (columns : List Column) (is : IsPlanned tick terms slots layout rows columns)
    (are : AreSlotsOf terms (suc (length layout)) columns tables) where
  column-fact : (j : ℕ) (column : Column) → slice_get columns j ≡ Some column → IsColumnOf terms layout column
  column-fact j column e = all-get (IsColumnOf terms layout) columns j column is.columns_are e

  -- a row in an archetype of the layout stands at its place there
  standing-in : (row : Row) → IsStanding slots layout row → row.archetype < length layout → slice_get (archetype_at layout row.archetype).entities row.place ≡ Some row.entity
  standing-in row (inl h) l = h
  standing-in row (inr h) l = absurd (let e = h.0 in omega arith)

  row-standing : (r : ℕ) (row : Row) → slice_get rows r ≡ Some row → IsStanding slots layout row
  row-standing r row e = all-get (IsStanding slots layout) rows r row is.standing e

  row-within : (row : Row) → IsStanding slots layout row → row.archetype < length tables
  row-within row (inl h) = let l = archetype-within layout row.archetype row.place row.entity h in let c = are.count in omega arith
  row-within row (inr h) = let e = h.0 in let c = are.count in omega arith

  -- the place of a row in a column of its archetype
  pub row-place : (row : Row) (j : ℕ) (column : Column) → IsStanding slots layout row → slice_get columns j ≡ Some column → column.archetype ≡ row.archetype → slice_get column.entities row.place ≡ Some row.entity
  row-place row j column s there a =
      let of = column-fact j column there in
      let within = of.archetype_within in
      ap (λ es. slice_get es row.place) (of.entities_are ∙ ap (λ n. (archetype_at layout n).entities) a) ∙ standing-in row s (let l : row.archetype < length layout = subst (λ n. n < length layout) a within in l)

  row-readable : (row : Row) (kind j : ℕ) → IsStanding slots layout row → slot_in tables row.archetype kind ≡ Some j → IsSome (cell_in columns j row.place)
  row-readable row kind j s h =
      let slot = are.named row.archetype kind j h in
      let of = column-fact j slot.column slot.there in
      let inside = slice_get_within slot.column.entities row.place row.entity (row-place row j slot.column s slot.there slot.archetype_is) in
      let many = of.as_many in
      subst (λ o. IsSome o) (sym (cell_in-is columns j row.place slot.column slot.there)) (there-is slot.column.cells row.place (omega arith))

  row-writable : (r : ℕ) (row : Row) (kind : ℕ) → slice_get rows r ≡ Some row → writes terms kind ≡ true → IsSome (slot_in tables row.archetype kind)
  row-writable r row kind e w =
      let among = is.covered r row e kind w in
      let inside = slice_get_within columns among.at among.column among.there in
      subst (λ k. IsSome (slot_in tables row.archetype k)) among.kind_is (subst (λ n. IsSome (slot_in tables n among.column.kind)) among.archetype_is
      (are.found among.at among.column inside among.there (ap (fetches terms) among.kind_is ∙ written-fetched terms kind w)))

  rows-from : (r : ℕ) (some : List Row) → ((i : ℕ) (row : Row) → slice_get some i ≡ Some row → (n : ℕ) × (slice_get rows n ≡ Some row)) → AllByRecursion (IsRow terms tables columns) some
  rows-from r [] h = tt
  rows-from r (row ∷ some) h =
      let here = h zero row refl in
      let s = row-standing here.0 row here.1 in (
        record { within = row-within row s; readable = λ kind j e. row-readable row kind j s e; writable = λ kind w. row-writable here.0 row kind here.1 w },
        rows-from r some (λ i x e. h (suc i) x e),
      )

  -- two rows of different indices stand apart
  elsewhere : (row other : Row) → IsStanding slots layout row → IsStanding slots layout other → (row.entity.index ≡ other.entity.index → ⊥) → IsElsewhere row other
  elsewhere row other (inl h) (inl g) d =
      λ a p. d (ap (λ (e : Entity). e.index) (same-some row.entity other.entity (sym h ∙ ap₂ (λ n q. slice_get (archetype_at layout n).entities q) a p ∙ g)))
  elsewhere row other (inl h) (inr g) d = λ a p. (let l = archetype-within layout row.archetype row.place row.entity h in let e = g.0 in (let z : ⊥ = omega arith in z))
  elsewhere row other (inr h) (inl g) d = λ a p. (let l = archetype-within layout other.archetype other.place other.entity g in let e = h.0 in (let z : ⊥ = omega arith in z))
  elsewhere row other (inr h) (inr g) d = λ a p. d (sym h.1 ∙ p ∙ g.1)

  all-elsewhere : (row : Row) (some : List Row) → IsStanding slots layout row → AllByRecursion (IsStanding slots layout) some → AllByRecursion (λ (other : Row). row.entity.index ≡ other.entity.index → ⊥) some → AllByRecursion (IsElsewhere row) some
  all-elsewhere row [] s all h = tt
  all-elsewhere row (other ∷ some) s all h = (elsewhere row other s all.0 h.0, all-elsewhere row some s all.1 h.1)

  all-apart : (some : List Row) → AllByRecursion (IsStanding slots layout) some → AreOfOthers some → AreApart some
  all-apart [] all h = tt
  all-apart (row ∷ some) all h = (all-elsewhere row some all.0 all.1 h.0, all-apart some all.1 h.1)

  -- the entity of a place of a column lives with just the kinds of its archetype
  pub column-entity : (j : ℕ) (column : Column) (place : ℕ) (e : Entity) → slice_get columns j ≡ Some column → slice_get column.entities place ≡ Some e →
      (slice_get (archetype_at layout column.archetype).entities place ≡ Some e) × (is_alive slots e ≡ true) × (map (λ c. c.kind) (row_at slots e.index) ≡ (archetype_at layout column.archetype).kinds)
  column-entity j column place e there h =
      let of = column-fact j column there in
      let at = ap (λ es. slice_get es place) (sym of.entities_are) ∙ h in
      let lives = is.laid.theirs column.archetype e (is-in (archetype_at layout column.archetype).entities place e at) in
      (at, lives.0, lives.1)

  alone-in : (row : Row) → IsStanding slots layout row → (j : ℕ) (column : Column) → slice_get columns j ≡ Some column → (place : ℕ) (e : Entity) → slice_get column.entities place ≡ Some e → e.index ≡ row.entity.index →
      (column.archetype ≡ row.archetype) × (place ≡ row.place)
  alone-in row (inl h) j column there place e g i =
      let their = column-entity j column place e there g in
      let mine = is.laid.theirs row.archetype row.entity (is-in (archetype_at layout row.archetype).entities row.place row.entity h) in
      let of = column-fact j column there in
      let same = same-entity slots e row.entity their.1 mine.0 i in
      let numbers = same-archetype layout column.archetype row.archetype is.laid.unlike of.archetype_within (archetype-within layout row.archetype row.place row.entity h)
      (sym their.2 ∙ ap (λ n. map (λ c. c.kind) (row_at slots n)) i ∙ mine.1) in (
        numbers,
        archetype-fact (λ (a : Archetype). AreIdsApart a.entities) layout row.archetype is.apart (archetype-within layout row.archetype row.place row.entity h) place row.place row.entity
            (ap (λ n. slice_get (archetype_at layout n).entities place) (sym numbers) ∙ their.0 ∙ ap Some same) h,
      )
  alone-in row (inr h) j column there place e g i =
      let their = column-entity j column place e there g in
      let of = column-fact j column there in
      let fact = archetype-fact IsArchetype layout column.archetype is.laid.each of.archetype_within in
      absurd (no-components (row_at slots e.index) (archetype_at layout column.archetype).kinds their.2 fact.shape.some (ap (λ n. is_there (get_or slots n fresh_slot).row) i ∙ h.2))

  pub plan-opens : IsPlan tick terms tables rows columns
  plan-opens = record {
    slots_are = λ n kind j h.
        let slot = are.named n kind j h in
        let of = column-fact j slot.column slot.there in
        record {
          column = slot.column;
          there = slot.there;
          archetype_is = slot.archetype_is;
          kind_is = slot.kind_is;
          fetched_is = slot.fetched_is;
          written_is = λ w. of.own (ap (writes terms) slot.kind_is ∙ w);
        };
    rows_are = rows-from 0 rows (λ i row e. (i, e));
    apart = all-apart rows is.standing is.others;
    placed = record {
      peopled = λ j column e. (let of = column-fact j column e in sym of.as_many);
      unlike = is.unlike;
      there = λ r row e kind j h column f.
          let slot = are.named row.archetype kind j h in
          let same = same-some slot.column column (sym slot.there ∙ f) in
          row-place row j column (row-standing r row e) f (ap (λ (c : Column). c.archetype) (sym same) ∙ slot.archetype_is);
      alone = λ r row e j column f place x g i. alone-in row (row-standing r row e) j column f place x g i;
    };
    fresh = is.fresh;
  }

pub plans-open : PlansOpen
plans-open tick terms slots layout tables rows columns is are = plan-opens tick terms slots layout tables rows columns is are
