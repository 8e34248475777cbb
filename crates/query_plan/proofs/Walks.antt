-- The entities of an archetype gone through by their places, and archetypes by their numbers.
use Rattle.std.proofs.Common.{◌≡◌, ℕ, ◌+◌, ◌<◌, ◌≤◌, Bool, true, false, cond, ◌&&◌, ◌==◌, List, [], ◌∷◌, ◌++◌, length, get_or, map, drop, slice_get, refl, sym, ap, ap₂, subst, ◌∙◌, append_assoc, append-nil, arith}
use Rattle.std.specs.List.{AllByRecursion, list_all}
use Rattle.std.proofs.lemmas.Bool.{and_parts}
use Rattle.std.proofs.lemmas.List.{drop_more, drop_all}
use Rattle.std.proofs.lemmas.Option.{slice_get-get_or}
use Rattle.model.specs.declared.entities.Entity.{Entity}
use Rattle.model.specs.Lists.{has}
use Rattle.model.specs.state.State.{Component, Slot, fresh_slot, is_living}
use Rattle.model.specs.state.Rows.{row_at, kinds_of}
use Rattle.model.specs.state.Commands.{is_alive}
use Rattle.model.specs.access.Query.{Term, matches}
use Rattle.model.specs.shown.Input.{passes}
use Rattle.model.proofs.lists.Each.{each-at}
use Rattle.column_store.specs.RowOrder.{entity_at, IsOrderOf}
use Rattle.archetype_store.specs.Layout.{Archetype, archetype_at, IsLayoutOf}
use Rattle.archetype_store.proofs.RowEdits.{kinds-among}
use Rattle.query.specs.declared.term.Term.{Term as QueryTerm}
use Rattle.query.specs.Term.{term_of}
use Rattle.query_plan.specs.declared.row.Row.{Row}
use Rattle.query_plan.specs.declared.filter.Filter.{Filter}
use Rattle.query_plan.specs.Standing.{is_row_at, rows_among, is_newer}
use Rattle.query_plan.specs.Filters.{AreFiltersOf}
use Rattle.query_plan.proofs.Gathered.{all_among}

-- a query matches a row just where it matches the row's kinds
matches_row : (query : List Term) (row : List Component) (kinds : List ℕ) → map (λ c. c.kind) row ≡ kinds → matches query (kinds_of row) ≡ matches query (λ kind. has kind kinds)
matches_row query row kinds same =
    let each : (k : ℕ) → kinds_of row k ≡ has k kinds = λ k. sym (kinds-among row k) ∙ ap (has k) same in
    ap (matches query) (λ i k. each k i)

module _ (query : List Term) (last : ℕ) (slots : List Slot) (layout : List Archetype) (laid : IsLayoutOf slots layout) (n : ℕ) where
  -- those of an archetype live with its kinds
  pub all_live : AllByRecursion (λ e. is_alive slots e ≡ true) (archetype_at layout n).entities
  all_live = all_among (λ e. is_alive slots e ≡ true) (archetype_at layout n).entities (λ e m. (laid.theirs n e m).0)

  pub all_matched : AllByRecursion (λ e. matches query (kinds_of (row_at slots e.index)) ≡ matches query (λ kind. has kind (archetype_at layout n).kinds)) (archetype_at layout n).entities
  all_matched =
      all_among (λ e. matches query (kinds_of (row_at slots e.index)) ≡ matches query (λ kind. has kind (archetype_at layout n).kinds)) (archetype_at layout n).entities
      (λ e m. matches_row query (row_at slots e.index) (archetype_at layout n).kinds (laid.theirs n e m).1)

  -- who lives and is matched is a row just where the filters are passed
  row_is : (e : Entity) → is_alive slots e ≡ true → matches query (kinds_of (row_at slots e.index)) ≡ true → is_row_at query last slots e.index ≡ list_all (passes last (row_at slots e.index)) query
  row_is e alive match =
      let s = get_or slots e.index fresh_slot in
      ap₂ (λ a b. a && b && list_all (passes last s.row) query) (and_parts (is_living s.status) (s.generation == e.generation) alive).0 match

  -- the test of filters at a place is that of a row
  pub row_tested : (fs : List Filter) (place : ℕ) (d : Entity) → AreFiltersOf slots (archetype_at layout n).entities query fs → place < length (archetype_at layout n).entities →
      matches query (λ kind. has kind (archetype_at layout n).kinds) ≡ true →
      list_all (λ f. is_newer last f.is_added (slice_get f.column.now.cells place)) fs ≡ is_row_at query last slots (get_or (archetype_at layout n).entities place d).index
  row_tested fs place d are l match =
      let es = (archetype_at layout n).entities in
      let e = get_or es place d in
      let alive = each-at (λ (x : Entity). is_alive slots x ≡ true) es place d l all_live in
      let same = each-at (λ (x : Entity). matches query (kinds_of (row_at slots x.index)) ≡ matches query (λ kind. has kind (archetype_at layout n).kinds)) es place d l all_matched in
      are.passed last place e (slice_get-get_or es place d l) alive ∙ sym (row_is e alive (same ∙ match))

  -- an archetype that isn't matched has no rows
  unmatched : (es : List Entity) (places : List ℕ) → AllByRecursion (λ p. p < length es) places → AllByRecursion (λ e. matches query (kinds_of (row_at slots e.index)) ≡ false) es → rows_among query last slots n es places ≡ []
  unmatched es [] within h = refl
  unmatched es (p ∷ ps) within h =
      let e = entity_at es p in
      let here = each-at (λ (x : Entity). matches query (kinds_of (row_at slots x.index)) ≡ false) es p (record { index = 0; generation = 0 }) within.0 h in
      let s = get_or slots e.index fresh_slot in
      let out : is_row_at query last slots e.index ≡ false = ap (λ b. is_living s.status && b && list_all (passes last s.row) query) here ∙ ap (λ b. b && list_all (passes last s.row) query) (and_no (is_living s.status)) in
      ap (λ b. cond b ((let r : Row = record { entity = e; archetype = n; place = p } in r) ∷ rows_among query last slots n es ps) (rows_among query last slots n es ps)) out
      ∙ unmatched es ps within.1 h
    where
      and_no : (b : Bool) → (b && false) ≡ false
      and_no true = refl
      and_no false = refl

  pub archetype_passed : (es : List Entity) (places : List ℕ) → es ≡ (archetype_at layout n).entities → IsOrderOf es places → matches query (λ kind. has kind (archetype_at layout n).kinds) ≡ false →
      [] ≡ rows_among query last slots n es places
  archetype_passed es places same order unlike =
      let none = all_among (λ e. matches query (kinds_of (row_at slots e.index)) ≡ false) (archetype_at layout n).entities
      (λ e m. matches_row query (row_at slots e.index) (archetype_at layout n).kinds (laid.theirs n e m).1 ∙ unlike) in
      sym (unmatched es places order.within (subst (AllByRecursion (λ e. matches query (kinds_of (row_at slots e.index)) ≡ false)) (sym same) none))

-- ---- places, one by one

module _ (query : List Term) (last : ℕ) (slots : List Slot) (n at : ℕ) (es : List Entity) (places : List ℕ) (rows all : List Row) (l : at < length places)
    (so_far : rows ++ rows_among query last slots n es (drop at places) ≡ all) where
  here : (b : Bool) (place : ℕ) → place ≡ get_or places at 0 → is_row_at query last slots (entity_at es place).index ≡ b → rows_among query last slots n es (drop at places)
      ≡ cond b (record { entity = entity_at es place; archetype = n; place = place } ∷ rows_among query last slots n es (drop (at + 1) places)) (rows_among query last slots n es (drop (at + 1) places))
  here b place there is =
      ap (rows_among query last slots n es) (drop_more places at 0 l ∙ ap (λ p. p ∷ drop (at + 1) places) (sym there))
      ∙ ap (λ c. cond c ((let r : Row = record { entity = entity_at es place; archetype = n; place = place } in r) ∷ rows_among query last slots n es (drop (at + 1) places)) (rows_among query last slots n es (drop (at + 1) places))) is

  pub place_taken : (place : ℕ) (e : Entity) → place ≡ get_or places at 0 → e ≡ entity_at es place → is_row_at query last slots (entity_at es place).index ≡ true →
      (rows ++ record { entity = e; archetype = n; place = place } ∷ []) ++ rows_among query last slots n es (drop (at + 1) places) ≡ all
  place_taken place e there whose is =
      append_assoc rows (record { entity = e; archetype = n; place = place } ∷ []) (rows_among query last slots n es (drop (at + 1) places))
      ∙ ap (λ x. rows ++ (let r : Row = record { entity = x; archetype = n; place = place } in r) ∷ rows_among query last slots n es (drop (at + 1) places)) whose
      ∙ ap (λ rs. rows ++ rs) (sym (here true place there is)) ∙ so_far

  pub place_passed : (place : ℕ) → place ≡ get_or places at 0 → is_row_at query last slots (entity_at es place).index ≡ false → rows ++ rows_among query last slots n es (drop (at + 1) places) ≡ all
  place_passed place there is = ap (λ rs. rows ++ rs) (sym (here false place there is)) ∙ so_far

pub places_done : (query : List Term) (last : ℕ) (slots : List Slot) (n at : ℕ) (es : List Entity) (places : List ℕ) (rows all : List Row) → length places ≤ at →
    rows ++ rows_among query last slots n es (drop at places) ≡ all → rows ≡ all
places_done query last slots n at es places rows all l h =
    sym (append-nil rows) ∙ ap (λ rs. rows ++ rs) (sym (ap (rows_among query last slots n es) (drop_all at places l))) ∙ h

-- the test of filters is that of a row, where it is known by another name
pub place_tested : (query : List Term) (last : ℕ) (slots : List Slot) (layout : List Archetype) (n : ℕ) (fs : List Filter) (es : List Entity) (place : ℕ) (d : Entity) (b : Bool) → IsLayoutOf slots layout →
    es ≡ (archetype_at layout n).entities → AreFiltersOf slots (archetype_at layout n).entities query fs → place < length es →
    matches query (λ kind. has kind (archetype_at layout n).kinds) ≡ true →
    b ≡ list_all (λ f. is_newer last f.is_added (slice_get f.column.now.cells place)) fs → is_row_at query last slots (get_or es place d).index ≡ b
place_tested query last slots layout n fs es place d b laid same are l match is =
    let within : place < length (archetype_at layout n).entities = (let e = ap length same in omega arith) in
    ap (λ xs. is_row_at query last slots (get_or xs place d).index) same ∙ sym (is ∙ row_tested query last slots layout laid n fs place d are within match)

-- what holds of the terms that the definitions speak of
pub each_terms : (P : Term → Type 0) (ts : List QueryTerm) → AllByRecursion P (map term_of ts) → AllByRecursion (λ t. P (term_of t)) ts
each_terms P [] h = tt
each_terms P (t ∷ ts) h = (h.0, each_terms P ts h.1)
