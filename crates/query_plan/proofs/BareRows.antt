-- The rows without components, index by index, and what tells that entities are apart.
use Rattle.std.proofs.Common.{◌≡◌, ℕ, suc, ◌+◌, ◌<◌, ◌≤◌, Bool, true, false, cond, not, ◌&&◌, List, [], ◌∷◌, ◌++◌, length, get_or, drop, Some, None, refl, sym, ap, ap₂, ◌∙◌, append_assoc, append-nil, arith}
use Rattle.std.specs.List.{list_all}
use Rattle.std.proofs.lemmas.Bool.{and_parts, and_from}
use Rattle.std.proofs.lemmas.List.{drop_more, drop_all}
use Rattle.std.proofs.lemmas.Option.{cond_some}
use Rattle.model.specs.declared.entities.Entity.{Entity as Id}
use Rattle.model.specs.Lists.{is_there}
use Rattle.model.specs.state.State.{Component, Slot, fresh_slot, is_living}
use Rattle.model.specs.state.Rows.{kinds_of}
use Rattle.model.specs.access.Query.{Term, matches, admits}
use Rattle.model.specs.access.Query.Term.{Entity, Read, Mut, Opt, With, Without, Added, Changed, AnyOf}
use Rattle.model.specs.shown.Input.{passes}
use Rattle.archetype_store.specs.Slot.{bare_of}
use Rattle.model.proofs.progress.Width.{and_false as and_no}
use Rattle.query_plan.specs.declared.row.Row.{Row}
use Rattle.query_plan.specs.Standing.{is_bare_row, bare_from}

-- ---- what a query asks of one without components

module _ (last : ℕ) where
  free : (t : Term) → admits (λ k. false) t ≡ true → passes last [] t ≡ true
  free Entity h = refl
  free (Read k) h = refl
  free (Mut k) h = refl
  free (Opt k) h = refl
  free (With k) h = refl
  free (Without k) h = refl
  free (Added k) h = absurd (cc)
  free (Changed k) h = absurd (cc)
  free (AnyOf alternatives) h = refl

  pub all_free : (query : List Term) → matches query (λ k. false) ≡ true → list_all (passes last []) query ≡ true
  all_free [] h = refl
  all_free (t ∷ ts) h =
      let p = and_parts (admits (λ k. false) t) (matches ts (λ k. false)) h in
      and_from (passes last [] t) (list_all (passes last []) ts) (free t p.0) (all_free ts p.1)

  -- where the query requires nothing, who lives without components is a row
  pub bare_test : (query : List Term) (s : Slot) → matches query (λ k. false) ≡ true → is_bare_row query last s ≡ (is_living s.status && not (is_there s.row))
  bare_test query s match = go s.row
    where
      three : (b : Bool) → (b && true && true && true) ≡ (b && true)
      three true = refl
      three false = refl

      go : (row : List Component) → (is_living s.status && matches query (kinds_of row) && list_all (passes last row) query && not (is_there row)) ≡ (is_living s.status && not (is_there row))
      go [] = ap₂ (λ m a. is_living s.status && m && a && true) match (all_free query match) ∙ three (is_living s.status)
      go (c ∷ cs) = and_no (is_living s.status && matches query (kinds_of (c ∷ cs)) && list_all (passes last (c ∷ cs)) query) ∙ sym (and_no (is_living s.status))

  -- where it requires a kind, none is
  none_test : (query : List Term) (s : Slot) → matches query (λ k. false) ≡ false → is_bare_row query last s ≡ false
  none_test query s unlike = go s.row
    where
      left : (b a : Bool) → (b && false && a && true) ≡ false
      left true a = refl
      left false a = refl

      go : (row : List Component) → (is_living s.status && matches query (kinds_of row) && list_all (passes last row) query && not (is_there row)) ≡ false
      go [] = ap (λ m. is_living s.status && m && list_all (passes last []) query && true) unlike ∙ left (is_living s.status) (list_all (passes last []) query)
      go (c ∷ cs) = and_no (is_living s.status && matches query (kinds_of (c ∷ cs)) && list_all (passes last (c ∷ cs)) query)

  pub none_bare : (query : List Term) (n i : ℕ) (ss : List Slot) → matches query (λ k. false) ≡ false → bare_from query last n i ss ≡ []
  none_bare query n i [] unlike = refl
  none_bare query n i (s ∷ ss) unlike =
      ap (λ b. cond b ((let r : Row = record { entity = record { index = i; generation = s.generation }; archetype = n; place = i } in r) ∷ bare_from query last n (suc i) ss) (bare_from query last n (suc i) ss))
      (none_test query s unlike)
      ∙ none_bare query n (suc i) ss unlike

-- ---- indices, one by one

pub cond_none : {A : Type 0} (b : Bool) (x : A) → cond b (Some x) None ≡ None → b ≡ false
cond_none true x h = absurd (cc)
cond_none false x h = refl

module _ (query : List Term) (n i : ℕ) (slots : List Slot) (rows : List Row) (match : matches query (λ k. false) ≡ true) (l : i < length slots)
    (so_far : (last : ℕ) → rows ++ bare_from query last n i (drop i slots) ≡ bare_from query last n 0 slots) where
  here : (last : ℕ) (b : Bool) (g : ℕ) → (is_living (get_or slots i fresh_slot).status && not (is_there (get_or slots i fresh_slot).row)) ≡ b → (get_or slots i fresh_slot).generation ≡ g →
      bare_from query last n i (drop i slots)
      ≡ cond b (record { entity = record { index = i; generation = g }; archetype = n; place = i } ∷ bare_from query last n (i + 1) (drop (i + 1) slots)) (bare_from query last n (i + 1) (drop (i + 1) slots))
  here last b g is gen =
      ap (bare_from query last n i) (drop_more slots i fresh_slot l)
      ∙ ap₂ (λ c j. cond c ((let r : Row = record { entity = record { index = i; generation = (get_or slots i fresh_slot).generation }; archetype = n; place = i } in r)
      ∷ bare_from query last n j (drop (i + 1) slots)) (bare_from query last n j (drop (i + 1) slots)))
      (bare_test last query (get_or slots i fresh_slot) match ∙ is) (let e : suc i ≡ i + 1 = omega arith in e)
      ∙ ap (λ j. cond b ((let r : Row = record { entity = record { index = i; generation = j }; archetype = n; place = i } in r) ∷ bare_from query last n (i + 1) (drop (i + 1) slots)) (bare_from query last n (i + 1) (drop (i + 1) slots))) gen

  -- an index of one that lives without components
  pub bare_taken : (e : Id) → bare_of i (get_or slots i fresh_slot) ≡ Some e → (last : ℕ) →
      (rows ++ record { entity = e; archetype = n; place = i } ∷ []) ++ bare_from query last n (i + 1) (drop (i + 1) slots) ≡ bare_from query last n 0 slots
  bare_taken e is last =
      let p = cond_some (is_living (get_or slots i fresh_slot).status && not (is_there (get_or slots i fresh_slot).row)) (record { index = i; generation = (get_or slots i fresh_slot).generation }) e is in
      append_assoc rows (record { entity = e; archetype = n; place = i } ∷ []) (bare_from query last n (i + 1) (drop (i + 1) slots))
      ∙ ap (λ x. rows ++ (let r : Row = record { entity = x; archetype = n; place = i } in r) ∷ bare_from query last n (i + 1) (drop (i + 1) slots)) (sym p.1)
      ∙ ap (λ rs. rows ++ rs) (sym (here last true (get_or slots i fresh_slot).generation p.0 refl)) ∙ so_far last

  -- another
  pub bare_passed : bare_of i (get_or slots i fresh_slot) ≡ None → (last : ℕ) → rows ++ bare_from query last n (i + 1) (drop (i + 1) slots) ≡ bare_from query last n 0 slots
  bare_passed is last =
      let no_row = cond_none (is_living (get_or slots i fresh_slot).status && not (is_there (get_or slots i fresh_slot).row)) (record { index = i; generation = (get_or slots i fresh_slot).generation }) is in
      ap (λ rs. rows ++ rs) (sym (here last false (get_or slots i fresh_slot).generation no_row refl)) ∙ so_far last

pub bare_done : (query : List Term) (n i : ℕ) (slots : List Slot) (rows : List Row) → length slots ≤ i → ((last : ℕ) → rows ++ bare_from query last n i (drop i slots) ≡ bare_from query last n 0 slots) →
    (last : ℕ) → rows ≡ bare_from query last n 0 slots
bare_done query n i slots rows l h last = sym (append-nil rows) ∙ ap (λ rs. rows ++ rs) (sym (ap (bare_from query last n i) (drop_all i slots l))) ∙ h last
