-- Plans that are kept hold over each store with the same archetypes of the same entities.
use Rattle.std.proofs.Common.{◌≡◌, ℕ, zero, suc, ◌<◌, Bool, true, false, cond, ◌==◌, ◌&&◌, ◌||◌, List, [], ◌∷◌, ◌++◌, inl, inr, length, get_or, map, slice_get, Option, Some, None, option_map, refl, sym, ap, ap₂, ◌∙◌, subst, eq-eqb, arith}
use mathlib.Core.Path.{fun_ext}
use Rattle.std.specs.Prelude.{IsSome, IfSome}
use Rattle.std.specs.List.{list_any, list_all, AllByRecursion}
use Rattle.std.proofs.lemmas.Bool.{and_parts, and_from, eqb-true}
use Rattle.std.proofs.lemmas.List.{length-map}
use Rattle.std.proofs.lemmas.Option.{slice_get-map}
use Rattle.kinds.specs.Components.{widths}
use Rattle.model.specs.Lists.{has, is_there}
use Rattle.model.specs.declared.entities.Entity.{Entity}
use Rattle.model.specs.state.State.{Component, Slot, fresh_slot, is_living}
use Rattle.model.specs.state.Rows.{kinds_of}
use Rattle.model.specs.state.Commands.{is_alive}
use Rattle.model.specs.state.Shape.{IsWorld}
use Rattle.model.specs.access.Query.{Term, matches, is_filter}
use Rattle.model.specs.access.Query.Term.{Entity as Id, Read, Mut, Opt, With, Without, Added, Changed, AnyOf}
use Rattle.model.specs.shown.Input.{ShownRow, is_row, passes, shown_row, rows_from, rows_of}
use Rattle.model.proofs.lists.Bools.{false_is}
use Rattle.column_store.specs.Order.{AreApart, is_same}
use Rattle.archetype_store.specs.declared.columns.TakenColumn.{TakenColumn}
use Rattle.archetype_store.specs.Layout.{Archetype, archetype_at, is_in_archetype, with_home, IsLayoutOf}
use Rattle.archetype_store.specs.Store.{StoreValue}
use Rattle.archetype_store.proofs.RowEdits.{kinds-among}
use Rattle.query_plan.specs.declared.row.Row.{Row}
use Rattle.query_plan.specs.Picks.{Picked, picked_from, picks_of}
use Rattle.query_plan.specs.Standing.{IsStanding}
use Rattle.body.specs.Columns.{Column}
use Rattle.body.specs.KeptPlans.{form_of, forms_of, spot_in, IsStampFree, AsksForKinds, IsKeptPlan}
use Rattle.body.specs.Lent.{with_away, with_back}
use Rattle.body.specs.Opened.{ArePickedOf}
use Rattle.body.specs.Picked.{Spot, spot_of, picked_own, picked_read, AreHeldOf}
use Rattle.body.specs.Seen.{fetches}
use Rattle.body.specs.Sheet.{IsPlan, row_of, slot_in}
use Rattle.body.specs.SlotTable.{AreSlotsOf}
use Rattle.body.proofs.Gets.{mapped, all-get}
use Rattle.body.proofs.Openings.{beside, row-shown, opens-over, each-by-get}
use Rattle.body.proofs.Pickings.{picked-of}

-- ---- forms

-- a column that leaves or comes home changes no form
forms-home : (b : Bool) (n k : ℕ) (layout : List Archetype) → forms_of (with_home b n k layout) ≡ forms_of layout
forms-home b n k [] = refl
forms-home b zero k (a ∷ layout) = refl
forms-home b (suc n) k (a ∷ layout) = ap (λ xs. form_of a ∷ xs) (forms-home b n k layout)

pub forms-away : (cs : List TakenColumn) (layout : List Archetype) → forms_of (with_away cs layout) ≡ forms_of layout
forms-away [] layout = refl
forms-away (c ∷ cs) layout = forms-away cs (with_home false c.archetype c.column.kind layout) ∙ forms-home false c.archetype c.column.kind layout

pub forms-back : (cs : List TakenColumn) (layout : List Archetype) → forms_of (with_back cs layout) ≡ forms_of layout
forms-back [] layout = refl
forms-back (c ∷ cs) layout = forms-home true c.archetype c.column.kind (with_back cs layout) ∙ forms-back cs layout

-- what forms tell of a layout
form-at : (layout : List Archetype) (n : ℕ) → archetype_at (forms_of layout) n ≡ form_of (archetype_at layout n)
form-at [] n = refl
form-at (a ∷ layout) zero = refl
form-at (a ∷ layout) (suc n) = form-at layout n

kinds-in : (layout : List Archetype) → map (λ (a : Archetype). a.kinds) (forms_of layout) ≡ map (λ (a : Archetype). a.kinds) layout
kinds-in [] = refl
kinds-in (a ∷ layout) = ap (λ ks. a.kinds ∷ ks) (kinds-in layout)

module _ (L M : List Archetype) (same : forms_of L ≡ forms_of M) where
  pub same-many : length L ≡ length M
  same-many = sym (length-map L form_of) ∙ ap length same ∙ length-map M form_of

  pub same-picks : (terms : List Term) → picks_of terms L ≡ picks_of terms M
  same-picks terms = ap (picked_from terms 0) (sym (kinds-in L) ∙ ap (map (λ (a : Archetype). a.kinds)) same ∙ kinds-in M)

  same-form : (n : ℕ) → form_of (archetype_at L n) ≡ form_of (archetype_at M n)
  same-form n = sym (form-at L n) ∙ ap (λ forms. archetype_at forms n) same ∙ form-at M n

  pub same-entities : (n : ℕ) → (archetype_at L n).entities ≡ (archetype_at M n).entities
  same-entities n = ap (λ (a : Archetype). a.entities) (same-form n)

  same-kinds : (n : ℕ) → (archetype_at L n).kinds ≡ (archetype_at M n).kinds
  same-kinds n = ap (λ (a : Archetype). a.kinds) (same-form n)

-- ---- rows

-- where a query compares no stamps each row passes
one-passes : (last : ℕ) (row : List Component) (t : Term) → is_filter t ≡ false → passes last row t ≡ true
one-passes last row (Added k) h = absurd (cc)
one-passes last row (Changed k) h = absurd (cc)
one-passes last row Id h = refl
one-passes last row (Read k) h = refl
one-passes last row (Mut k) h = refl
one-passes last row (Opt k) h = refl
one-passes last row (With k) h = refl
one-passes last row (Without k) h = refl
one-passes last row (AnyOf alternatives) h = refl

all-pass : (last : ℕ) (row : List Component) (terms : List Term) → IsStampFree terms → list_all (passes last row) terms ≡ true
all-pass last row [] h = refl
all-pass last row (t ∷ ts) h = go (is_filter t) refl h (all-pass last row ts)
  where
    go : (b : Bool) → is_filter t ≡ b → (b || list_any is_filter ts) ≡ false → (IsStampFree ts → list_all (passes last row) ts ≡ true) → list_all (passes last row) (t ∷ ts) ≡ true
    go true e f more = absurd (cc)
    go false e f more = and_from (passes last row t) (list_all (passes last row) ts) (one-passes last row t e) (more f)

-- a row has components where the query asks for a kind
row-there : (terms : List Term) (row : List Component) → AsksForKinds terms → matches terms (kinds_of row) ≡ true → is_there row ≡ true
row-there terms [] h m = false_is (matches terms (λ kind. false)) h m
row-there terms (c ∷ cs) h m = refl

module _ (terms : List Term) (free : IsStampFree terms) (asks : AsksForKinds terms) (L M : List Archetype) (same : forms_of L ≡ forms_of M) (ss ts : List Slot) (laid : IsLayoutOf ss L) (now : IsLayoutOf ts M) (last next : ℕ) where
  -- who is a row is one over the other slots too
  row-goes : (i : ℕ) → is_row terms last (get_or ss i fresh_slot) ≡ true → (is_row terms next (get_or ts i fresh_slot) ≡ true) × ((get_or ss i fresh_slot).generation ≡ (get_or ts i fresh_slot).generation)
  row-goes i h =
      let s = get_or ss i fresh_slot in
      let t = get_or ts i fresh_slot in
      let e : Entity = record { index = i; generation = s.generation } in
      let both = and_parts (is_living s.status && matches terms (kinds_of s.row)) (list_all (passes last s.row) terms) h in
      let first = and_parts (is_living s.status) (matches terms (kinds_of s.row)) both.0 in
      let alive : is_alive ss e ≡ true = and_from (is_living s.status) (s.generation == s.generation) first.0 (eq-eqb s.generation s.generation refl) in
      let found = laid.every e alive (row-there terms s.row asks first.1) in
      let n = found.0 in
      let here : is_in_archetype e (archetype_at M n) ≡ true = subst (λ es. list_any (λ x. is_same x e) es ≡ true) (same-entities L M same n) found.1 in
      let was = laid.theirs n e found.1 in
      let is = now.theirs n e here in
      let lives = and_parts (is_living t.status) (t.generation == s.generation) is.0 in
      let kinds : map (λ (c : Component). c.kind) s.row ≡ map (λ (c : Component). c.kind) t.row = was.1 ∙ same-kinds L M same n ∙ sym is.1 in
      let each : kinds_of s.row ≡ kinds_of t.row = fun_ext (λ kind. sym (kinds-among s.row kind) ∙ ap (has kind) kinds ∙ kinds-among t.row kind) in
      let match : matches terms (kinds_of t.row) ≡ true = subst (λ ks. matches terms ks ≡ true) each first.1 in (
        and_from (is_living t.status && matches terms (kinds_of t.row)) (list_all (passes next t.row) terms)
            (and_from (is_living t.status) (matches terms (kinds_of t.row)) lives.0 match) (all-pass next t.row terms free),
        sym (eqb-true t.generation s.generation lives.1),
      )

-- two tests of which each follows from the other
same-test : (a b : Bool) → (a ≡ true → b ≡ true) → (b ≡ true → a ≡ true) → a ≡ b
same-test true b f g = sym (f refl)
same-test false true f g = g refl
same-test false false f g = refl

-- two slots that are alike to a query: both are rows of one generation, or neither is
record IsAlike (terms : List Term) (last next : ℕ) (s t : Slot) : Type 0 where
  pub both : is_row terms last s ≡ is_row terms next t
  pub generation : is_row terms last s ≡ true → s.generation ≡ t.generation

-- the rows among slots that are alike are the same
alike-rows : (terms : List Term) (last next i : ℕ) (ss ts : List Slot) → ((k : ℕ) → IsAlike terms last next (get_or ss k fresh_slot) (get_or ts k fresh_slot)) →
    map (λ (row : ShownRow). row.entity) (rows_from terms last i ss) ≡ map (λ (row : ShownRow). row.entity) (rows_from terms next i ts)
unfolding rows_from
alike-rows terms last next i [] [] h = refl
alike-rows terms last next i [] (t ∷ ts) h = go (is_row terms next t) (sym (h zero).both) (alike-rows terms last next (suc i) [] ts (λ k. h (suc k)))
  where
    go : (b : Bool) → b ≡ false → [] ≡ map (λ (row : ShownRow). row.entity) (rows_from terms next (suc i) ts) →
        [] ≡ map (λ (row : ShownRow). row.entity) (cond b (shown_row terms i t ∷ rows_from terms next (suc i) ts) (rows_from terms next (suc i) ts))
    go true e more = absurd (cc)
    go false e more = more
alike-rows terms last next i (s ∷ ss) [] h = go (is_row terms last s) (h zero).both (alike-rows terms last next (suc i) ss [] (λ k. h (suc k)))
  where
    go : (b : Bool) → b ≡ false → map (λ (row : ShownRow). row.entity) (rows_from terms last (suc i) ss) ≡ [] →
        map (λ (row : ShownRow). row.entity) (cond b (shown_row terms i s ∷ rows_from terms last (suc i) ss) (rows_from terms last (suc i) ss)) ≡ []
    go true e more = absurd (cc)
    go false e more = more
alike-rows terms last next i (s ∷ ss) (t ∷ ts) h = go (is_row terms last s) (is_row terms next t) (h zero).both (h zero).generation (alike-rows terms last next (suc i) ss ts (λ k. h (suc k)))
  where
    go : (b c : Bool) → b ≡ c → (b ≡ true → s.generation ≡ t.generation) → map (λ (row : ShownRow). row.entity) (rows_from terms last (suc i) ss) ≡ map (λ (row : ShownRow). row.entity) (rows_from terms next (suc i) ts) →
        map (λ (row : ShownRow). row.entity) (cond b (shown_row terms i s ∷ rows_from terms last (suc i) ss) (rows_from terms last (suc i) ss))
        ≡ map (λ (row : ShownRow). row.entity) (cond c (shown_row terms i t ∷ rows_from terms next (suc i) ts) (rows_from terms next (suc i) ts))
    go true true e g more = ap₂ ◌∷◌ (ap (λ n. (let x : Entity = record { index = i; generation = n } in x)) (g refl)) more
    go true false e g more = absurd (cc)
    go false true e g more = absurd (cc)
    go false false e g more = more

-- so a query has the same rows over two layouts of the same forms
pub same-rows : (terms : List Term) → IsStampFree terms → AsksForKinds terms → (L M : List Archetype) → forms_of L ≡ forms_of M → (ss ts : List Slot) → IsLayoutOf ss L → IsLayoutOf ts M → (last next : ℕ) →
    map (λ (row : ShownRow). row.entity) (rows_of terms last ss) ≡ map (λ (row : ShownRow). row.entity) (rows_of terms next ts)
same-rows terms free asks L M same ss ts laid now last next =
    alike-rows terms last next 0 ss ts (λ k. record {
      both = same-test (is_row terms last (get_or ss k fresh_slot)) (is_row terms next (get_or ts k fresh_slot)) (λ h. (row-goes terms free asks L M same ss ts laid now last next k h).0)
          (λ h. (row-goes terms free asks M L (sym same) ts ss now laid next last k h).0);
      generation = λ h. (row-goes terms free asks L M same ss ts laid now last next k h).1;
    })

-- ---- tables

-- columns that are held for picks are where these are
pub held-spots : (w : StoreValue) (ps : List Picked) (cs : List Column) → AreHeldOf w ps cs → map spot_in cs ≡ map spot_of ps
held-spots w [] [] h = refl
held-spots w [] (c ∷ cs) h = absurd h
held-spots w (p ∷ ps) [] h = absurd h
held-spots w (p ∷ ps) (c ∷ cs) h = ap₂ ◌∷◌ (ap₂ (λ a k. (let s : Spot = record { archetype = a; kind = k } in s)) h.0.archetype_is h.0.kind_is) (held-spots w ps cs h.1)

-- a table of columns is one of others at the same spots
pub same-tables : (terms : List Term) (many : ℕ) (columns others : List Column) (tables : List (List (Option ℕ))) → map spot_in columns ≡ map spot_in others → AreSlotsOf terms many columns tables → AreSlotsOf terms many others tables
same-tables terms many columns others tables same are = record {
  count = are.count;
  wide = are.wide;
  named = λ archetype kind j e.
      (let slot = are.named archetype kind j e in
      let there = beside-at columns others j slot.column same slot.there in
      record {
        column = there.0;
        there = there.1;
        archetype_is = ap (λ (s : Spot). s.archetype) there.2 ∙ slot.archetype_is;
        kind_is = ap (λ (s : Spot). s.kind) there.2 ∙ slot.kind_is;
        fetched_is = slot.fetched_is;
      });
  found = λ j column l there f.
      (let was = beside-at others columns j column (sym same) there in
      let archetype = ap (λ (s : Spot). s.archetype) was.2 in
      let kind = ap (λ (s : Spot). s.kind) was.2 in
      let many_same : length columns ≡ length others = sym (length-map columns spot_in) ∙ ap length same ∙ length-map others spot_in in
      let found = are.found j was.0 (omega (arith, l, many_same)) was.1 (ap (λ k. fetches terms k) kind ∙ f) in
      subst (λ (k : ℕ). IsSome (slot_in tables column.archetype k)) kind (subst (λ (a : ℕ). IsSome (slot_in tables a was.0.kind)) archetype found));
}
  where
    beside-at : (xs ys : List Column) (j : ℕ) (x : Column) → map spot_in xs ≡ map spot_in ys → slice_get xs j ≡ Some x → (y : Column) × (slice_get ys j ≡ Some y) × (spot_in y ≡ spot_in x)
    beside-at xs ys j x e there =
        mapped spot_in (slice_get ys j) (spot_in x)
        (sym (slice_get-map spot_in ys j) ∙ ap (λ ss. slice_get ss j) (sym e) ∙ slice_get-map spot_in xs j ∙ ap (option_map spot_in) there)

-- ---- a query opens by a plan that is kept

pub kept-picks : (terms : List Term) (before w : StoreValue) (picks : List Picked) (tables : List (List (Option ℕ))) (rows : List Row) → IsKeptPlan terms before picks tables rows → forms_of before.layout ≡ forms_of w.layout → picks ≡ picks_of terms w.layout
kept-picks terms before w picks tables rows plan same = plan.picks_are ∙ same-picks before.layout w.layout same terms

module _ (terms : List Term) (before w : StoreValue) (picks : List Picked) (tables : List (List (Option ℕ))) (rows : List Row) (columns : List Column) (plan : IsKeptPlan terms before picks tables rows)
    (same : forms_of before.layout ≡ forms_of w.layout) (laid : IsLayoutOf w.state.slots w.layout) (held : AreHeldOf w (picked_own picks ++ picked_read picks) columns) where
  pub kept-taken : ArePickedOf terms w columns
  kept-taken = picked-of terms w columns laid (subst (λ ps. AreHeldOf w (picked_own ps ++ picked_read ps) columns) (kept-picks terms before w picks tables rows plan same) held)

  pub kept-rows : (last : ℕ) → map (λ (row : Row). row.entity) rows ≡ map (λ (row : ShownRow). row.entity) (rows_of terms last w.state.slots)
  kept-rows last = plan.rows_are ∙ same-rows terms plan.free plan.kinds before.layout w.layout same before.state.slots w.state.slots plan.laid laid plan.last last

  kept-tables : AreSlotsOf terms (suc (length w.layout)) columns tables
  kept-tables =
      subst (λ n. AreSlotsOf terms (suc n) columns tables) (same-many before.layout w.layout same)
      (same-tables terms (suc (length before.layout)) plan.columns columns tables (plan.spots_are ∙ sym (held-spots w (picked_own picks ++ picked_read picks) columns held)) plan.tables_are)

  -- a row of the plan is one of the query, so it has components and is in an archetype
  stands : (r : ℕ) (row : Row) → slice_get rows r ≡ Some row → IsStanding before.state.slots before.layout row → IsStanding w.state.slots w.layout row
  stands r row there (inl h) = inl (subst (λ es. slice_get es row.place ≡ Some row.entity) (same-entities before.layout w.layout same row.archetype) h)
  stands r row there (inr h) =
      let s = beside rows (rows_of terms plan.last before.state.slots) r row plan.rows_are there in
      let slot = get_or before.state.slots row.entity.index fresh_slot in
      let is : is_row terms plan.last slot ≡ true = subst (λ (e : Entity). is_row terms plan.last (get_or before.state.slots e.index fresh_slot) ≡ true) s.2 (row-shown terms plan.last before.state.slots r s.0 s.1).1 in
      let both = and_parts (is_living slot.status && matches terms (kinds_of slot.row)) (list_all (passes plan.last slot.row) terms) is in
      let first = and_parts (is_living slot.status) (matches terms (kinds_of slot.row)) both.0 in
      false_is (is_there slot.row) h.2 (row-there terms slot.row plan.kinds first.1)

  kept-standing : AllByRecursion (IsStanding w.state.slots w.layout) rows
  kept-standing = each-by-get (IsStanding w.state.slots w.layout) rows (λ r row there. stands r row there (all-get (IsStanding before.state.slots before.layout) rows r row plan.standing there))

  pub kept-opens : (tick last : ℕ) → IsWorld widths w.state → AllByRecursion (λ (a : Archetype). AreApart a.entities) w.layout → w.state.clock < tick → IsPlan tick terms tables rows columns × (map (row_of tables columns terms) rows ≡ rows_of terms last w.state.slots)
  kept-opens tick last world apart coming = opens-over tick last terms w tables rows columns laid world apart coming (kept-rows last) kept-standing kept-taken kept-tables

-- ---- a plan that is to be kept

pub made-plan : (terms : List Term) (last many : ℕ) (w : StoreValue) (picks : List Picked) (tables : List (List (Option ℕ))) (rows : List Row) (columns : List Column) → IsStampFree terms → AsksForKinds terms → IsLayoutOf w.state.slots w.layout →
    map (λ (row : Row). row.entity) rows ≡ map (λ (row : ShownRow). row.entity) (rows_of terms last w.state.slots) → AllByRecursion (IsStanding w.state.slots w.layout) rows → picks ≡ picks_of terms w.layout →
    AreHeldOf w (picked_own picks ++ picked_read picks) columns → AreSlotsOf terms many columns tables → many ≡ suc (length w.layout) → IsKeptPlan terms w picks tables rows
made-plan terms last many w picks tables rows columns free kinds laid shown standing are held slots count = record {
  last = last;
  columns = columns;
  free = free;
  kinds = kinds;
  laid = laid;
  rows_are = shown;
  standing = standing;
  picks_are = are;
  spots_are = held-spots w (picked_own picks ++ picked_read picks) columns held;
  tables_are = subst (λ n. AreSlotsOf terms n columns tables) count slots;
}

-- what four facts of what is there tell together
pub some-four : {A : Type 0} (P Q R S T : A → Type 0) (o : Option A) → ((x : A) → P x → Q x → R x → S x → T x) → IfSome o P → IfSome o Q → IfSome o R → IfSome o S → IfSome o T
some-four P Q R S T None f p q r s = tt
some-four P Q R S T (Some x) f p q r s = f x p q r s
