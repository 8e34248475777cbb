-- What the tables and places of archetypes are after the row of one entity was laid, moved or taken away.
use Rattle.archetype_store.proofs.Common.{◌≡◌, ◌≢◌, ℕ, zero, suc, Bool, true, false, cond, ◌==◌, ◌&&◌, ◌⊎◌, inl, inr, List, [], ◌∷◌, get_or, map, Option, Some, None, is_some, refl, sym, ap, subst, ◌∙◌, arith, cases_eq, eq-eqb, ne_eqb, nat_tests, AllByRecursion, map_index, with_at, is_there, Component, Entity, is_same, TableValue, empty_table, EntityLocation, kinds_at, held_at, row_or_none, shape_of, AreShaped, AreUnlike, archetypes_of, row_of, holder_of, holder_if, place_of, is_place, row_in, holder_in, IsHolder, IsOfKinds, AreArchetypes, HasRow, eqb-true}
use Rattle.std.proofs.Math.ListN.{get_or-map}
use Rattle.column_store.proofs.Apart.{same_entity}
use Rattle.archetype_store.proofs.TablesAfterRowChange.{shape_at, held_within}

-- ---- maps by number

pub with_at_same : {A : Type 0} (n : ℕ) (x : A) (f : ℕ → A) → with_at n x f n ≡ x
with_at_same n x f = ap (λ b. cond b x (f n)) (eq-eqb n n refl)

pub with_at_apart : {A : Type 0} (n m : ℕ) (x : A) (f : ℕ → A) → (m ≡ n → ⊥) → with_at n x f m ≡ f m
with_at_apart n m x f h = ap (λ b. cond b x (f m)) (ne_eqb m n h)

-- two maps are alike where they are at one number and elsewhere
by_number : {A : Type 0} (n : ℕ) (x : A) (f g : ℕ → A) → g n ≡ x → ((m : ℕ) → (m ≡ n → ⊥) → g m ≡ f m) → (m : ℕ) → g m ≡ with_at n x f m
by_number n x f g here other m = go (cases_eq m n)
  where
    go : (m ≡ n) ⊎ (m ≡ n → ⊥) → g m ≡ with_at n x f m
    go (inl same) = ap g same ∙ here ∙ sym (with_at_same n x f) ∙ ap (with_at n x f) (sym same)
    go (inr apart) = other m apart ∙ sym (with_at_apart n m x f apart)

-- ---- what contracts see

get_or-map_index : {A B : Type 0} (f : ℕ → A → B) (xs : List A) (i : ℕ) (d : A) (e : B) → ((j : ℕ) → f j d ≡ e) → get_or (map_index f xs) i e ≡ f i (get_or xs i d)
get_or-map_index f [] i d e h = sym (h i)
get_or-map_index f (x ∷ xs) zero d e h = refl
get_or-map_index f (x ∷ xs) (suc i) d e h = get_or-map_index (λ j. f (suc j)) xs i d e (λ j. h (suc j))

-- the row of an index
pub row_seen : (tables : List TableValue) (places : List (Option EntityLocation)) (i : ℕ) → row_of (archetypes_of tables places).rows i ≡ row_in tables i (place_of places i)
row_seen tables places i = get_or-map_index (row_in tables) places i None [] (λ j. refl)

-- who has it
pub holder_seen : (tables : List TableValue) (places : List (Option EntityLocation)) (i : ℕ) → holder_of (archetypes_of tables places).holders i ≡ holder_in (place_of places i)
holder_seen tables places i = get_or-map holder_in places i None

-- ---- one entity

generations_apart : (i g h : ℕ) (e : Entity) → i ≡ e.index → ((e.index == i) && (e.generation == h)) ≡ false → g ≡ e.generation → (g == h) ≡ false
generations_apart i g h e same apart gen = grind (arith, nat_tests)

index_apart : (e : Entity) (i g : ℕ) → (i ≡ e.index → ⊥) → is_same e (record { index = i; generation = g }) ≡ false
index_apart e i g h = go (cases_eq e.index i)
  where
    go : (e.index ≡ i) ⊎ (e.index ≡ i → ⊥) → ((e.index == i) && (e.generation == g)) ≡ false
    go (inl same) = absurd (h (sym same))
    go (inr apart) = ap (λ b. b && (e.generation == g)) (ne_eqb e.index i apart)

-- where an entity that was laid in a table has its row
abbrev pub held_where : Option ℕ → List Component → ℕ → Option (List Component)
held_where None row t = None
held_where (Some to) row t = cond (t == to) (Some row) None

-- its place
abbrev pub placed_where : Entity → Option ℕ → Option EntityLocation
placed_where e None = None
placed_where e (Some to) = Some (record { generation = e.generation; table = to })

-- its row
abbrev pub row_where : Option ℕ → List Component → List Component
row_where None row = []
row_where (Some to) row = row

-- the row of an entity is here and nowhere else, and all other rows are as they were
pub record IsMoved (tables tables' : List TableValue) (places places' : List (Option EntityLocation)) (e : Entity) (to : Option ℕ) (row : List Component) : Type 0 where
  pub others : (t : ℕ) (x : Entity) → is_same e x ≡ false → held_at tables' t x ≡ held_at tables t x
  pub here : (t : ℕ) → held_at tables' t e ≡ held_where to row t
  pub place : (i : ℕ) → place_of places' i ≡ with_at e.index (placed_where e to) (place_of places) i
  pub shapes : map shape_of tables' ≡ map shape_of tables
  pub kinds : (t : ℕ) → to ≡ Some t → map (λ (c : Component). c.kind) row ≡ kinds_at tables t
  pub there : (t : ℕ) → to ≡ Some t → is_there row ≡ true

-- ---- shapes

shaped_of : (ts : List TableValue) → AreShaped ts → AreShaped (map shape_of ts)
shaped_of [] h = tt
shaped_of (t ∷ ts) h = (h.0, shaped_of ts h.1)

shaped_from : (ts : List TableValue) → AreShaped (map shape_of ts) → AreShaped ts
shaped_from [] h = tt
shaped_from (t ∷ ts) h = (h.0, shaped_from ts h.1)

each_of : (ks : List ℕ) (ts : List TableValue) → AllByRecursion (λ u. ks ≢ u.kinds) ts → AllByRecursion (λ u. ks ≢ u.kinds) (map shape_of ts)
each_of ks [] h = tt
each_of ks (t ∷ ts) h = (h.0, each_of ks ts h.1)

each_from : (ks : List ℕ) (ts : List TableValue) → AllByRecursion (λ u. ks ≢ u.kinds) (map shape_of ts) → AllByRecursion (λ u. ks ≢ u.kinds) ts
each_from ks [] h = tt
each_from ks (t ∷ ts) h = (h.0, each_from ks ts h.1)

unlike_of : (ts : List TableValue) → AreUnlike ts → AreUnlike (map shape_of ts)
unlike_of [] h = tt
unlike_of (t ∷ ts) h = (each_of t.kinds ts h.0, unlike_of ts h.1)

unlike_from : (ts : List TableValue) → AreUnlike (map shape_of ts) → AreUnlike ts
unlike_from [] h = tt
unlike_from (t ∷ ts) h = (each_from t.kinds ts h.0, unlike_from ts h.1)

-- tables of the same shapes are as well shaped
pub shaped_kept : (ts us : List TableValue) → map shape_of us ≡ map shape_of ts → AreShaped ts → AreShaped us
shaped_kept ts us e h = shaped_from us (subst AreShaped (sym e) (shaped_of ts h))

pub unlike_kept : (ts us : List TableValue) → map shape_of us ≡ map shape_of ts → AreUnlike ts → AreUnlike us
unlike_kept ts us e h = unlike_from us (subst AreUnlike (sym e) (unlike_of ts h))

kinds_of_shapes : (ts : List TableValue) (t : ℕ) → kinds_at (map shape_of ts) t ≡ kinds_at ts t
kinds_of_shapes ts t = ap (λ (u : TableValue). u.kinds) (get_or-map shape_of ts t (empty_table []))

pub kinds_kept : (ts us : List TableValue) → map shape_of us ≡ map shape_of ts → (t : ℕ) → kinds_at us t ≡ kinds_at ts t
kinds_kept ts us e t = sym (kinds_of_shapes us t) ∙ ap (λ vs. kinds_at vs t) e ∙ kinds_of_shapes ts t

-- ---- a row that was moved

some_cond : (b : Bool) (row : List Component) → is_some (cond b (Some row) None) ≡ b
some_cond true row = refl
some_cond false row = refl

placed_test : (t u g : ℕ) → (t == u) ≡ ((g == g) && (u == t))
placed_test t u g = grind (arith, nat_tests)

module _ (T T' : List TableValue) (P P' : List (Option EntityLocation)) (e : Entity) (to : Option ℕ) (row : List Component) where
  place_here : IsMoved T T' P P' e to row → place_of P' e.index ≡ placed_where e to
  place_here m = m.place e.index ∙ with_at_same e.index (placed_where e to) (place_of P)

  place_other : IsMoved T T' P P' e to row → (i : ℕ) → (i ≡ e.index → ⊥) → place_of P' i ≡ place_of P i
  place_other m i apart = m.place i ∙ with_at_apart e.index i (placed_where e to) (place_of P) apart

  pub agree_here : (o : Option ℕ) (t : ℕ) → is_some (held_where o row t) ≡ is_place (placed_where e o) e.generation t
  agree_here None t = refl
  agree_here (Some u) t = some_cond (t == u) row ∙ placed_test t u e.generation

  pub not_placed : (o : Option EntityLocation) (x : Entity) (t : ℕ) → IsHolder e.generation (holder_in o) → x.index ≡ e.index → is_same e x ≡ false → is_place o x.generation t ≡ false
  not_placed None x t fits same apart = refl
  not_placed (Some p) x t fits same apart = ap (λ b. b && (p.table == t)) (generations_apart x.index p.generation x.generation e same apart fits)

  pub fits_where : (o : Option ℕ) → IsHolder e.generation (holder_in (placed_where e o))
  fits_where None = tt
  fits_where (Some u) = refl

  agree_moved : AreArchetypes T P → IsHolder e.generation (holder_in (place_of P e.index)) → IsMoved T T' P P' e to row →
      (t : ℕ) (x : Entity) → is_some (held_at T' t x) ≡ is_place (place_of P' x.index) x.generation t
  agree_moved h fits m t x = go (is_same e x) refl
    where
      other : is_same e x ≡ false → (x.index ≡ e.index) ⊎ (x.index ≡ e.index → ⊥) → is_some (held_at T' t x) ≡ is_place (place_of P' x.index) x.generation t
      other apart (inr index) = ap is_some (m.others t x apart) ∙ h.agree t x ∙ ap (λ o. is_place o x.generation t) (sym (place_other m x.index index))
      other apart (inl index) = ap is_some (m.others t x apart) ∙ h.agree t x
          ∙ ap (λ i. is_place (place_of P i) x.generation t) index ∙ not_placed (place_of P e.index) x t fits index apart
          ∙ sym (ap (λ i. is_place (place_of P' i) x.generation t) index ∙ ap (λ o. is_place o x.generation t) (place_here m)
          ∙ not_placed (placed_where e to) x t (fits_where to) index apart)

      go : (b : Bool) → is_same e x ≡ b → is_some (held_at T' t x) ≡ is_place (place_of P' x.index) x.generation t
      go true same = subst (λ (y : Entity). is_some (held_at T' t y) ≡ is_place (place_of P' y.index) y.generation t) (same_entity e x same)
          (ap is_some (m.here t) ∙ agree_here to t ∙ sym (ap (λ o. is_place o e.generation t) (place_here m)))
      go false apart = other apart (cases_eq x.index e.index)

  pub kinds_where : (o : Option ℕ) → ((t : ℕ) → o ≡ Some t → map (λ (c : Component). c.kind) row ≡ kinds_at T t) → (t : ℕ) → IsOfKinds (kinds_at T t) (held_where o row t)
  kinds_where None h t = tt
  kinds_where (Some u) h t = by (t == u) refl
    where
      by : (b : Bool) → (t == u) ≡ b → IsOfKinds (kinds_at T t) (cond b (Some row) None)
      by true same = h t (ap (λ n. Some n) (sym (eqb-true t u same)))
      by false apart = tt

  of_kinds_moved : AreArchetypes T P → IsMoved T T' P P' e to row → (t : ℕ) (x : Entity) → IsOfKinds (kinds_at T' t) (held_at T' t x)
  of_kinds_moved h m t x = subst (λ ks. IsOfKinds ks (held_at T' t x)) (sym (kinds_kept T T' m.shapes t)) (go (is_same e x) refl)
    where
      go : (b : Bool) → is_same e x ≡ b → IsOfKinds (kinds_at T t) (held_at T' t x)
      go true same = subst (λ y. IsOfKinds (kinds_at T t) (held_at T' t y)) (same_entity e x same) (subst (IsOfKinds (kinds_at T t)) (sym (m.here t)) (kinds_where to m.kinds t))
      go false apart = subst (IsOfKinds (kinds_at T t)) (sym (m.others t x apart)) (h.of_kinds t x)

  -- what holds of tables and places still does
  pub moved_whole : AreArchetypes T P → IsHolder e.generation (holder_in (place_of P e.index)) → IsMoved T T' P P' e to row → AreArchetypes T' P'
  moved_whole h fits m = record {
    agree = agree_moved h fits m;
    of_kinds = of_kinds_moved h m;
    shaped = shaped_kept T T' m.shapes h.shaped;
    unlike = unlike_kept T T' m.shapes h.unlike;
  }

  row_here : (o : Option ℕ) → ((t : ℕ) → held_at T' t e ≡ held_where o row t) → row_in T' e.index (placed_where e o) ≡ row_where o row
  row_here None h = refl
  row_here (Some u) h = ap row_or_none (h u) ∙ ap (λ b. row_or_none (cond b (Some row) None)) (eq-eqb u u refl)

  row_other : IsMoved T T' P P' e to row → (i : ℕ) → (i ≡ e.index → ⊥) → (o : Option EntityLocation) → row_in T' i o ≡ row_in T i o
  row_other m i apart None = refl
  row_other m i apart (Some p) = ap row_or_none (m.others p.table (record { index = i; generation = p.generation }) (index_apart e i p.generation apart))

  holder_here : (o : Option ℕ) → ((t : ℕ) → o ≡ Some t → is_there row ≡ true) → holder_in (placed_where e o) ≡ holder_if (row_where o row) e.generation
  holder_here None h = refl
  holder_here (Some u) h = sym (ap (λ b. cond b (Some e.generation) None) (h u refl))

  -- the entity has this row, and each other index what it had
  pub moved_row : IsMoved T T' P P' e to row → HasRow (archetypes_of T P) e (row_where to row) (archetypes_of T' P')
  moved_row m = record {
    rows = by_number e.index (row_where to row) (row_of (archetypes_of T P).rows) (row_of (archetypes_of T' P').rows)
        (row_seen T' P' e.index ∙ ap (row_in T' e.index) (place_here m) ∙ row_here to m.here)
        (λ i apart. row_seen T' P' i ∙ ap (row_in T' i) (place_other m i apart) ∙ row_other m i apart (place_of P i) ∙ sym (row_seen T P i));
    holders = by_number e.index (holder_if (row_where to row) e.generation) (holder_of (archetypes_of T P).holders) (holder_of (archetypes_of T' P').holders)
        (holder_seen T' P' e.index ∙ ap holder_in (place_here m) ∙ holder_here to m.there)
        (λ i apart. holder_seen T' P' i ∙ ap holder_in (place_other m i apart) ∙ sym (holder_seen T P i));
  }

-- ---- where a row is

absent_where : (o : Option (List Component)) → is_some o ≡ false → o ≡ None
absent_where None h = refl
absent_where (Some row) h = absurd (cc)

other_table : (t u : ℕ) (b : Bool) → (t == u) ≡ false → (b && (u == t)) ≡ false
other_table t u b h = grind (arith, nat_tests)

module _ (T : List TableValue) (P : List (Option EntityLocation)) (h : AreArchetypes T P) where
  -- an entity without a place has no row
  pub nowhere : (e : Entity) → place_of P e.index ≡ None → (t : ℕ) → held_at T t e ≡ None
  nowhere e none t = absent_where (held_at T t e) (h.agree t e ∙ ap (λ o. is_place o e.generation t) none)

  -- one with a place has none elsewhere
  pub not_elsewhere : (e : Entity) (p : EntityLocation) → place_of P e.index ≡ Some p → (t : ℕ) → (t == p.table) ≡ false → held_at T t e ≡ None
  not_elsewhere e p at t apart = absent_where (held_at T t e) (h.agree t e ∙ ap (λ o. is_place o e.generation t) at ∙ other_table t p.table (p.generation == e.generation) apart)

  placed : (g u : ℕ) → ((g == g) && (u == u)) ≡ true
  placed g u = grind (arith, nat_tests)

  -- one with a place has one there
  pub somewhere : (e : Entity) (p : EntityLocation) → place_of P e.index ≡ Some p → p.generation ≡ e.generation → is_some (held_at T p.table e) ≡ true
  somewhere e p at same = h.agree p.table e ∙ ap (λ o. is_place o e.generation p.table) at ∙ ap (λ g. (g == e.generation) && (p.table == p.table)) same ∙ placed e.generation p.table

  -- its kinds are those of its table
  pub kinds_there : (e : Entity) (t : ℕ) (row : List Component) → held_at T t e ≡ Some row → map (λ (c : Component). c.kind) row ≡ kinds_at T t
  kinds_there e t row at = subst (IsOfKinds (kinds_at T t)) at (h.of_kinds t e)

  some_row : (ks : List ℕ) (row : List Component) → ks ≢ [] → map (λ (c : Component). c.kind) row ≡ ks → is_there row ≡ true
  some_row ks [] some k = absurd (some (sym k))
  some_row ks (c ∷ cs) some k = refl

  -- it has a component
  pub row_there : (e : Entity) (t : ℕ) (row : List Component) → is_some (held_at T t e) ≡ true → map (λ (c : Component). c.kind) row ≡ kinds_at T t → is_there row ≡ true
  row_there e t row at k = some_row (kinds_at T t) row (shape_at T t (held_within T t e at) h.shaped).some k
