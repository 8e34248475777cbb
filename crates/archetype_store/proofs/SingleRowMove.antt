-- The moves of one row: laid in another table, written where it is, taken away.
use Rattle.archetype_store.proofs.Common.{◌≡◌, ℕ, ◌<◌, Bool, true, false, cond, ◌==◌, ◌⊎◌, inl, inr, List, [], length, set, map, Option, Some, None, is_some, refl, sym, ap, subst, ◌∙◌, cases_eq, get_or-set_same, get_or-set_other, with_at, is_there, Component, Entity, TableValue, EntityLocation, kinds_at, held_at, row_or_none, IsHeldNow, IsGrown, StorageValue, archetypes_of, row_of, holder_of, holder_if, place_of, row_in, holder_in, IsHolder, IsOfKinds, AreAlike, AreArchetypes, HasRow}
use Rattle.archetype_store.proofs.TablesAfterRowChange.{held_within}
use Rattle.archetype_store.proofs.PlacesAfterRowChange.{with_at_same, with_at_apart, row_seen, holder_seen, IsMoved, nowhere, not_elsewhere, somewhere, kinds_there, row_there}

-- ---- places

-- a place that is written
pub placed_set : (P : List (Option EntityLocation)) (i : ℕ) (o : Option EntityLocation) → i < length P → (j : ℕ) → place_of (set P i o) j ≡ with_at i o (place_of P) j
placed_set P i o l j = go (cases_eq j i)
  where
    go : (j ≡ i) ⊎ (j ≡ i → ⊥) → place_of (set P i o) j ≡ with_at i o (place_of P) j
    go (inl same) = ap (place_of (set P i o)) same ∙ get_or-set_same P i o None l ∙ sym (with_at_same i o (place_of P)) ∙ ap (with_at i o (place_of P)) (sym same)
    go (inr apart) = get_or-set_other P i j o None apart ∙ sym (with_at_apart i j o (place_of P) apart)

-- a place that is as it was
pub placed_kept : (P : List (Option EntityLocation)) (i : ℕ) (o : Option EntityLocation) → place_of P i ≡ o → (j : ℕ) → place_of P j ≡ with_at i o (place_of P) j
placed_kept P i o e j = go (cases_eq j i)
  where
    go : (j ≡ i) ⊎ (j ≡ i → ⊥) → place_of P j ≡ with_at i o (place_of P) j
    go (inl same) = ap (place_of P) same ∙ e ∙ sym (with_at_same i o (place_of P)) ∙ ap (with_at i o (place_of P)) (sym same)
    go (inr apart) = sym (with_at_apart i j o (place_of P) apart)

some_apart : (t : ℕ) → None ≡ Some t → ⊥
some_apart t h = cc

some_same : (t u : ℕ) → Some t ≡ Some u → t ≡ u
some_same t u h = cc

-- ---- laid in a table, by an entity that has no row

module _ (T T' : List TableValue) (P : List (Option EntityLocation)) (e : Entity) (table : ℕ) (row : List Component) (h : AreArchetypes T P) where
  pub moved_joined : e.index < length P → place_of P e.index ≡ None → map (λ (c : Component). c.kind) row ≡ kinds_at T table →
      is_there row ≡ true → IsHeldNow T T' table e (Some row) →
      IsMoved T T' P (set P e.index (Some (record { generation = e.generation; table = table }))) e (Some table) row
  moved_joined within none kinds there put = record {
    others = put.others;
    here = λ t. put.here t ∙ ap (cond (t == table) (Some row)) (nowhere T P h e none t);
    place = placed_set P e.index (Some (record { generation = e.generation; table = table })) within;
    shapes = put.shapes;
    kinds = λ t at. kinds ∙ ap (kinds_at T) (some_same table t at);
    there = λ t at. there;
  }

-- ---- taken away, or written

module _ (T T' : List TableValue) (P : List (Option EntityLocation)) (e : Entity) (p : EntityLocation) (h : AreArchetypes T P) (at : place_of P e.index ≡ Some p) where
  only_here : (b : Bool) (o x : Option (List Component)) → (b ≡ false → o ≡ None) → cond b x o ≡ cond b x None
  only_here true o x f = refl
  only_here false o x f = f refl

  none_here : (b : Bool) → cond b (let none : Option (List Component) = None in none) None ≡ None
  none_here true = refl
  none_here false = refl

  pub moved_cleared : e.index < length P → IsHeldNow T T' p.table e None → IsMoved T T' P (set P e.index None) e None []
  moved_cleared within now = record {
    others = now.others;
    here = λ t. now.here t ∙ only_here (t == p.table) (held_at T t e) None (not_elsewhere T P h e p at t) ∙ none_here (t == p.table);
    place = placed_set P e.index None within;
    shapes = now.shapes;
    kinds = λ t same. absurd (some_apart t same);
    there = λ t same. absurd (some_apart t same);
  }

  pub moved_written : (row : List Component) → p.generation ≡ e.generation → map (λ (c : Component). c.kind) row ≡ kinds_at T p.table → is_there row ≡ true →
      IsHeldNow T T' p.table e (Some row) → IsMoved T T' P P e (Some p.table) row
  moved_written row same kinds there now = record {
    others = now.others;
    here = λ t. now.here t ∙ only_here (t == p.table) (held_at T t e) (Some row) (not_elsewhere T P h e p at t);
    place = placed_kept P e.index (Some (record { generation = e.generation; table = p.table }))
        (at ∙ ap (λ g. let o : Option EntityLocation = Some (record { generation = g; table = p.table }) in o) same);
    shapes = now.shapes;
    kinds = λ t to. kinds ∙ ap (kinds_at T) (some_same p.table t to);
    there = λ t to. there;
  }

-- ---- nothing is changed

module _ (T : List TableValue) (P : List (Option EntityLocation)) (e : Entity) (h : AreArchetypes T P) (fits : IsHolder e.generation (holder_in (place_of P e.index))) where
  kept_here : {A : Type 0} (i : ℕ) (x : A) (f : ℕ → A) → f i ≡ x → (j : ℕ) → f j ≡ with_at i x f j
  kept_here i x f k j = go (cases_eq j i)
    where
      go : (j ≡ i) ⊎ (j ≡ i → ⊥) → f j ≡ with_at i x f j
      go (inl same) = ap f same ∙ k ∙ sym (with_at_same i x f) ∙ ap (with_at i x f) (sym same)
      go (inr apart) = sym (with_at_apart i j x f apart)

  row_some : (t : ℕ) (o : Option (List Component)) → held_at T t e ≡ o → is_some o ≡ true → is_there (row_or_none o) ≡ true
  row_some t None k s = absurd (cc)
  row_some t (Some row) k s = row_there T P h e t row (ap is_some k) (kinds_there T P h e t row k)

  -- the row of an entity that has a place
  pub row_placed : (p : EntityLocation) → place_of P e.index ≡ Some p → p.generation ≡ e.generation → row_in T e.index (Some p) ≡ row_or_none (held_at T p.table e)
  row_placed p at same = ap (λ g. row_or_none (held_at T p.table (record { index = e.index; generation = g }))) same

  holder_kept : (o : Option EntityLocation) → place_of P e.index ≡ o → IsHolder e.generation (holder_in o) → holder_in o ≡ holder_if (row_in T e.index o) e.generation
  holder_kept None at fit = refl
  holder_kept (Some p) at fit =
      ap (λ g. Some g) fit
      ∙ sym (ap (λ row. holder_if row e.generation) (row_placed p at fit)
      ∙ ap (λ b. cond b (Some e.generation) None) (row_some p.table (held_at T p.table e) refl (somewhere T P h e p at fit)))

  -- the entity has the row that it had
  pub has_row_kept : HasRow (archetypes_of T P) e (row_in T e.index (place_of P e.index)) (archetypes_of T P)
  has_row_kept = record {
    rows = kept_here e.index (row_in T e.index (place_of P e.index)) (row_of (archetypes_of T P).rows) (row_seen T P e.index);
    holders = kept_here e.index (holder_if (row_in T e.index (place_of P e.index)) e.generation) (holder_of (archetypes_of T P).holders)
        (holder_seen T P e.index ∙ holder_kept (place_of P e.index) refl fits);
  }

-- ---- one more table

module _ (T T' : List TableValue) (P : List (Option EntityLocation)) (g : IsGrown T T') where
  row_grown : (i : ℕ) (o : Option EntityLocation) → row_in T' i o ≡ row_in T i o
  row_grown i None = refl
  row_grown i (Some p) = ap row_or_none (g.held p.table (record { index = i; generation = p.generation }))

  of_kinds_grown : AreArchetypes T P → (t : ℕ) (x : Entity) (o : Option (List Component)) → held_at T t x ≡ o → IsOfKinds (kinds_at T' t) o
  of_kinds_grown h t x None at = tt
  of_kinds_grown h t x (Some row) at = kinds_there T P h x t row at ∙ sym (g.kinds t (held_within T t x (ap is_some at)))

  pub grown_whole : AreArchetypes T P → AreArchetypes T' P
  grown_whole h = record {
    agree = λ t x. ap is_some (g.held t x) ∙ h.agree t x;
    of_kinds = λ t x. subst (IsOfKinds (kinds_at T' t)) (sym (g.held t x)) (of_kinds_grown h t x (held_at T t x) refl);
    shaped = g.shaped;
    unlike = g.unlike;
  }

  pub grown_alike : AreAlike (archetypes_of T P) (archetypes_of T' P)
  grown_alike = record {
    rows = λ i. row_seen T' P i ∙ row_grown i (place_of P i) ∙ sym (row_seen T P i);
    holders = λ i. holder_seen T' P i ∙ sym (holder_seen T P i);
    layout = g.layout;
  }

pub alike_trans : (A B C : StorageValue) → AreAlike A B → AreAlike B C → AreAlike A C
alike_trans A B C h k = record { rows = λ i. k.rows i ∙ h.rows i; holders = λ i. k.holders i ∙ h.holders i; layout = k.layout ∙ h.layout }

-- places that are alike
pub reached_alike : (T : List TableValue) (P P' : List (Option EntityLocation)) → ((i : ℕ) → place_of P' i ≡ place_of P i) → AreAlike (archetypes_of T P) (archetypes_of T P')
reached_alike T P P' same = record {
  rows = λ i. row_seen T P' i ∙ ap (row_in T i) (same i) ∙ sym (row_seen T P i);
  holders = λ i. holder_seen T P' i ∙ ap holder_in (same i) ∙ sym (holder_seen T P i);
  layout = refl;
}
