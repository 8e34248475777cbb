-- Columns of archetypes: which table has them, what they hold, and what is left where one leaves or comes home.
use Rattle.archetype_store.proofs.Common.{◌≡◌, ℕ, zero, suc, ◌<◌, ◌≤◌, Bool, true, false, cond, ◌==◌, ◌&&◌, ◌⊎◌, inl, inr, List, [], ◌∷◌, length, set, map, Option, Some, None, option_map, is_some, Result, Ok, Err, OnOk, OnErr, refl, sym, ap, ap₂, subst, ◌∙◌, arith, list_all, AllByRecursion, slice_get, map-set_same, cases_eq, and_parts, eq-eqb, ne_eqb, nat_tests, get_or-set_same, get_or-set_other, get_or_past, is_there, update_at, IsIn, Cell, Component, cell_at, Entity, map-same, ColumnCells, AreBelow, at_kind, update_kind, is_same, AreApart, components_in, components_of, Standing, TableRow, TableValue, is_home, standing_of, empty_table, with_cell_at, cell_of_kind, filled_rows, lent, homed, IsHome, Owned, Shared, Away, EntityLocation, Archetype, archetype_of, layout_of, archetype_at, column_home, with_column, with_home, table_at, kinds_at, held_in, held_at, row_or_none, is_unshared, cells_at, number_of, AreUnshared, IsTableOf, StorageValue, archetypes_of, row_of, row_in, holder_of, holder_in, place_of, is_place, row_cells, cell_for, cell_held, row_with, IsOfKinds, IsStored, IsFilled, AreArchetypes, eqb-true}
use Rattle.std.proofs.lemmas.Bool.{and_parts as both}
use Rattle.column_store.specs.Table.{row_of as row_in_table}
use Rattle.column_store.proofs.TheirComponents.{cells_are_theirs}
use Rattle.model.proofs.agreement.Agreement.{is_some-option_map as is_some-map}
use Rattle.column_store.proofs.Apart.{same_self, same_entity}
use Rattle.archetype_store.proofs.TablesAfterRowChange.{shape_at}
use Rattle.archetype_store.proofs.PlacesAfterRowChange.{row_seen, holder_seen, not_elsewhere}
use Rattle.archetype_store.proofs.ColumnStandings.{AreSame, same_whole, same_rows, shaped_kinds, unlike_kinds}
use Rattle.archetype_store.proofs.RowMoves.{index_flipped as other_than}

-- ---- the table of an archetype

at_step : (b : Bool) (u : TableValue) (us : List TableValue) (n : ℕ) (a : Archetype) → archetype_at (layout_of us) n ≡ a → archetype_at (cond b (archetype_of u ∷ layout_of us) (layout_of us)) (cond b (suc n) n) ≡ a
at_step true u us n a h = h
at_step false u us n a h = h

archetype_there : (T : List TableValue) (t : ℕ) → t < length T → is_there (table_at T t).rows ≡ true → archetype_at (layout_of T) (number_of T t) ≡ archetype_of (table_at T t)
archetype_there [] t l h = absurd (omega arith)
archetype_there (u ∷ us) zero l h = ap (λ b. archetype_at (cond b (archetype_of u ∷ layout_of us) (layout_of us)) 0) h
archetype_there (u ∷ us) (suc t) l h = at_step (is_there u.rows) u us (number_of us t) (archetype_of (table_at us t)) (archetype_there us t (omega arith) h)

-- the archetype of a number is that of its table
pub numbered : (T : List TableValue) (n t : ℕ) → IsTableOf T n t → archetype_at (layout_of T) n ≡ archetype_of (table_at T t)
numbered T n t h = ap (archetype_at (layout_of T)) (sym h.number) ∙ archetype_there T t h.within h.peopled

set_step : (b : Bool) (f : Archetype → Archetype) (u : TableValue) (us vs : List TableValue) (n : ℕ) → layout_of vs ≡ update_at n f (layout_of us) →
    cond b (archetype_of u ∷ layout_of vs) (layout_of vs) ≡ update_at (cond b (suc n) n) f (cond b (archetype_of u ∷ layout_of us) (layout_of us))
set_step true f u us vs n h = ap (λ xs. archetype_of u ∷ xs) h
set_step false f u us vs n h = h

layout_of_set : (f : Archetype → Archetype) (T : List TableValue) (t : ℕ) (new : TableValue) → t < length T → is_there (table_at T t).rows ≡ true → is_there new.rows ≡ true →
    archetype_of new ≡ f (archetype_of (table_at T t)) → layout_of (set T t new) ≡ update_at (number_of T t) f (layout_of T)
layout_of_set f [] t new l h k e = absurd (omega arith)
layout_of_set f (u ∷ us) zero new l h k e =
    ap (λ b. cond b (archetype_of new ∷ layout_of us) (layout_of us)) k ∙ ap (λ a. a ∷ layout_of us) e
    ∙ sym (ap (λ b. update_at 0 f (cond b (archetype_of u ∷ layout_of us) (layout_of us))) h)
layout_of_set f (u ∷ us) (suc t) new l h k e = set_step (is_there u.rows) f u us (set us t new) (number_of us t) (layout_of_set f us t new (omega arith) h k e)

-- another table in its place changes its archetype alone
pub layout_set : (f : Archetype → Archetype) (T : List TableValue) (n t : ℕ) (new : TableValue) → IsTableOf T n t → is_there new.rows ≡ true →
    archetype_of new ≡ f (archetype_of (table_at T t)) → layout_of (set T t new) ≡ update_at n f (layout_of T)
layout_set f T n t new at k e = layout_of_set f T t new at.within at.peopled k e ∙ ap (λ m. update_at m f (layout_of T)) at.number

-- ---- where its columns stand

at_kind-map : {A B : Type 0} (f : A → B) (ks : List ℕ) (k : ℕ) (xs : List A) → at_kind ks k (map f xs) ≡ option_map f (at_kind ks k xs)
at_kind-map f [] k xs = refl
at_kind-map f (n ∷ ks) k [] = refl
at_kind-map f (n ∷ ks) k (x ∷ xs) = go (n == k) (at_kind-map f ks k xs)
  where
    go : (b : Bool) → at_kind ks k (map f xs) ≡ option_map f (at_kind ks k xs) → cond b (Some (f x)) (at_kind ks k (map f xs)) ≡ option_map f (cond b (Some x) (at_kind ks k xs))
    go true h = refl
    go false h = h

map-update_kind : {A B : Type 0} (f : A → B) (y : A) (ks : List ℕ) (k : ℕ) (xs : List A) → map f (update_kind ks k (λ _. y) xs) ≡ update_kind ks k (λ _. f y) (map f xs)
map-update_kind f y [] k xs = refl
map-update_kind f y (n ∷ ks) k [] = refl
map-update_kind f y (n ∷ ks) k (x ∷ xs) = go (n == k) (map-update_kind f y ks k xs)
  where
    go : (b : Bool) → map f (update_kind ks k (λ _. y) xs) ≡ update_kind ks k (λ _. f y) (map f xs) →
        map f (cond b (y ∷ xs) (x ∷ update_kind ks k (λ _. y) xs)) ≡ cond b (f y ∷ map f xs) (f x ∷ update_kind ks k (λ _. f y) (map f xs))
    go true h = refl
    go false h = ap (λ ys. f x ∷ ys) h

pub length-update_kind : {A : Type 0} (ks : List ℕ) (k : ℕ) (y : A) (xs : List A) → length (update_kind ks k (λ _. y) xs) ≡ length xs
length-update_kind [] k y xs = refl
length-update_kind (n ∷ ks) k y [] = refl
length-update_kind (n ∷ ks) k y (x ∷ xs) = go (n == k) (length-update_kind ks k y xs)
  where
    go : (b : Bool) → length (update_kind ks k (λ _. y) xs) ≡ length xs → length (cond b (y ∷ xs) (x ∷ update_kind ks k (λ _. y) xs)) ≡ suc (length xs)
    go true h = refl
    go false h = ap suc h

module _ (T : List TableValue) (n t : ℕ) (at : IsTableOf T n t) where
  pub standing_seen : (k : ℕ) → column_home (archetype_at (layout_of T) n) k ≡ option_map is_home (standing_of (table_at T t) k)
  standing_seen k = ap (λ a. column_home a k) (numbered T n t at) ∙ at_kind-map is_home (table_at T t).kinds k (table_at T t).standings

  pub home_there : (k : ℕ) → column_home (archetype_at (layout_of T) n) k ≡ Some true → IsHome (standing_of (table_at T t) k)
  home_there k h = sym (standing_seen k) ∙ h

  is_away : (o : Option Standing) → option_map is_home o ≡ Some false → o ≡ Some Away
  is_away None h = absurd (cc)
  is_away (Some Owned) h = absurd (cc)
  is_away (Some Shared) h = absurd (cc)
  is_away (Some Away) h = refl

  pub away_there : (k : ℕ) → column_home (archetype_at (layout_of T) n) k ≡ Some false → standing_of (table_at T t) k ≡ Some Away
  away_there k h = is_away (standing_of (table_at T t) k) (sym (standing_seen k) ∙ h)

  pub entities_there : (archetype_at (layout_of T) n).entities ≡ map (λ (row : TableRow). row.entity) (table_at T t).rows
  entities_there = ap (λ (a : Archetype). a.entities) (numbered T n t at)

  pub kinds_there : (archetype_at (layout_of T) n).kinds ≡ (table_at T t).kinds
  kinds_there = ap (λ (a : Archetype). a.kinds) (numbered T n t at)

-- past the end no archetype has a column
pub no_column : (layout : List Archetype) (n k : ℕ) (b : Bool) → length layout ≤ n → column_home (archetype_at layout n) k ≡ Some b → ⊥
no_column layout n k b l h =
    let none : column_home (archetype_at layout n) k ≡ None = ap (λ a. column_home a k) (get_or_past layout n (record { kinds = []; entities = []; homes = [] }) l) in cc

-- ---- a table in the place of another

pub each_set : {A : Type 0} (P : A → Type 0) (xs : List A) (i : ℕ) (y : A) → P y → AllByRecursion P xs → AllByRecursion P (set xs i y)
each_set P [] zero y h k = tt
each_set P [] (suc i) y h k = tt
each_set P (x ∷ xs) zero y h k = (h, k.1)
each_set P (x ∷ xs) (suc i) y h k = (k.0, each_set P xs i y h k.1)

pub same_set : (T : List TableValue) (t : ℕ) (new : TableValue) → t < length T → new.kinds ≡ kinds_at T t → new.rows ≡ (table_at T t).rows → length new.standings ≡ length (table_at T t).standings → AreSame T (set T t new)
same_set T t new l kinds rows many = record {
  kinds = λ m. by m (λ (u : TableValue). u.kinds) kinds (cases_eq m t);
  rows = λ m. by m (λ (u : TableValue). u.rows) rows (cases_eq m t);
  all_kinds = map-set_same (λ (u : TableValue). u.kinds) T t new (empty_table []) kinds;
  many = map-set_same (λ (u : TableValue). length u.standings) T t new (empty_table []) many;
}
  where
    by : {B : Type 0} (m : ℕ) (f : TableValue → B) → f new ≡ f (table_at T t) → (m ≡ t) ⊎ (m ≡ t → ⊥) → f (table_at (set T t new) m) ≡ f (table_at T m)
    by m f h (inl same) = ap (λ i. f (table_at (set T t new) i)) same ∙ ap f (get_or-set_same T t new (empty_table []) l) ∙ h ∙ ap (λ i. f (table_at T i)) (sym same)
    by m f h (inr apart) = ap f (get_or-set_other T t m new (empty_table []) apart)

unshared_update : (ks : List ℕ) (k : ℕ) (s : Standing) (ss : List Standing) → is_unshared s ≡ true → list_all is_unshared ss ≡ true → list_all is_unshared (update_kind ks k (λ _. s) ss) ≡ true
unshared_update [] k s ss h a = a
unshared_update (n ∷ ks) k s [] h a = refl
unshared_update (n ∷ ks) k s (x ∷ xs) h a =
    let p = both (is_unshared x) (list_all is_unshared xs) a in go (n == k) p (unshared_update ks k s xs h p.1)
  where
    go : (b : Bool) → (is_unshared x ≡ true) × (list_all is_unshared xs ≡ true) → list_all is_unshared (update_kind ks k (λ _. s) xs) ≡ true →
        list_all is_unshared (cond b (s ∷ xs) (x ∷ update_kind ks k (λ _. s) xs)) ≡ true
    go true p more = ap₂ ◌&&◌ h p.1
    go false p more = ap₂ ◌&&◌ p.0 more

unshared_at : (T : List TableValue) (t : ℕ) → t < length T → AreUnshared T → list_all is_unshared (table_at T t).standings ≡ true
unshared_at [] t l h = absurd (omega arith)
unshared_at (u ∷ us) zero l h = h.0
unshared_at (u ∷ us) (suc t) l h = unshared_at us t (omega arith) h.1

-- ---- a column leaves

pub stored_lent : (T : List TableValue) (P : List (Option EntityLocation)) (s : Bool) (n t k : ℕ) → IsTableOf T n t → IsStored T P s → IsStored (set T t (lent (table_at T t) k)) P s
stored_lent T P s n t k at h =
    let new = lent (table_at T t) k in
    record {
      whole = same_whole T (set T t new) (same_set T t new at.within refl refl (length-update_kind (table_at T t).kinds k Away (table_at T t).standings)) P h.whole;
      empty = each_set (λ u. is_there u.rows ≡ false → list_all is_home u.standings ≡ true) T t new (λ none. absurd (let e : true ≡ false = sym at.peopled ∙ none in cc)) h.empty;
      unshared = λ e. each_set (λ u. list_all is_unshared u.standings ≡ true) T t new
          (unshared_update (table_at T t).kinds k Away (table_at T t).standings refl (unshared_at T t at.within (h.unshared e))) (h.unshared e);
    }

pub lent_stored : {A E : Type 0} (r : Result A E) (T T' : List TableValue) (P : List (Option EntityLocation)) (s : Bool) (n t k : ℕ) → IsTableOf T n t → IsStored T P s →
    OnOk r (T' ≡ set T t (lent (table_at T t) k)) → OnErr r (T' ≡ T) → IsStored T' P s
lent_stored (Ok a) T T' P s n t k at h ok err = subst (λ ts. IsStored ts P s) (sym ok) (stored_lent T P s n t k at h)
lent_stored (Err e) T T' P s n t k at h ok err = subst (λ ts. IsStored ts P s) (sym err) h

pub value_lent : (T : List TableValue) (P : List (Option EntityLocation)) (n t k : ℕ) → IsTableOf T n t →
    archetypes_of (set T t (lent (table_at T t) k)) P ≡ record (archetypes_of T P) { layout = with_home false n k (layout_of T) }
value_lent T P n t k at =
    let u = table_at T t in
    let new = lent u k in
    let seen : archetype_of new ≡ with_column false k (archetype_of u) =
    ap (λ homes. let a : Archetype = record { kinds = u.kinds; entities = map (λ (row : TableRow). row.entity) u.rows; homes = homes } in a) (map-update_kind is_home Away u.kinds k u.standings) in
    ap₂ (λ rows layout. let a : StorageValue = record { rows = rows; holders = map holder_in P; layout = layout } in a)
    (same_rows T (set T t new) (same_set T t new at.within refl refl (length-update_kind (table_at T t).kinds k Away (table_at T t).standings)) P) (layout_set (with_column false k) T n t new at at.peopled seen)

-- ---- what a column holds

in_get : (rows : List TableRow) (r : TableRow) → IsIn r rows → (i : ℕ) × (slice_get (map (λ (row : TableRow). row.entity) rows) i ≡ Some r.entity)
in_get [] r here = absurd here
in_get (x ∷ xs) r (inl same) = (0, ap (λ (y : TableRow). Some y.entity) (sym same))
in_get (x ∷ xs) r (inr later) = let p = in_get xs r later in (suc p.0, p.1)

row_found : (rows : List TableRow) → AreApart (map (λ (row : TableRow). row.entity) rows) → (r : TableRow) → IsIn r rows → row_in_table r.entity rows ≡ Some r
row_found [] apart r here = absurd here
row_found (x ∷ xs) apart r (inl same) =
    ap (λ b. cond b (Some x) (row_in_table r.entity xs)) (ap (λ (y : TableRow). is_same x.entity y.entity) same ∙ same_self x.entity) ∙ ap (λ y. Some y) (sym same)
row_found (x ∷ xs) apart r (inr later) =
    ap (λ b. cond b (Some x) (row_in_table r.entity xs)) (other (is_same x.entity r.entity) refl) ∙ row_found xs (λ p q y f g. suc_same p q (apart (suc p) (suc q) y f g)) r later
  where
    suc_same : (p q : ℕ) → suc p ≡ suc q → p ≡ q
    suc_same p q e = omega arith

    other : (b : Bool) → is_same x.entity r.entity ≡ b → is_same x.entity r.entity ≡ false
    other false k = k
    other true k = (let p = in_get xs r later in let none : zero ≡ suc p.0 = apart zero (suc p.0) r.entity (ap (λ y. Some y) (same_entity x.entity r.entity k)) p.1 in absurd (omega arith))

held_found : (t : TableValue) (e : Entity) (r : TableRow) → row_in_table e t.rows ≡ Some r → held_in t e ≡ Some (components_of t.kinds r)
held_found t e r h = ap (option_map (components_of t.kinds)) h

module _ (T : List TableValue) (P : List (Option EntityLocation)) (h : AreArchetypes T P) (t : ℕ) where
  place_step : (o : Option EntityLocation) (g : ℕ) → is_place o g t ≡ true → (p : EntityLocation) × (o ≡ Some p) × (p.generation ≡ g) × (p.table ≡ t)
  place_step None g k = absurd (cc)
  place_step (Some p) g k = let b = and_parts (p.generation == g) (p.table == t) k in (p, refl, eqb-true p.generation g b.0, eqb-true p.table t b.1)

  -- the row of an index whose entity is in the table
  pub row_in_there : (e : Entity) (row : List Component) → held_at T t e ≡ Some row → row_of (archetypes_of T P).rows e.index ≡ row
  row_in_there e row at =
      let p = place_step (place_of P e.index) e.generation (sym (h.agree t e) ∙ ap is_some at) in
      row_seen T P e.index ∙ ap (row_in T e.index) p.1
      ∙ ap₂ (λ g u. row_or_none (held_at T u (record { index = e.index; generation = g }))) p.2 p.3 ∙ ap row_or_none at

  -- the cells of a kind are those of the rows by index
  pub column_is : (k : ℕ) → t < length T → AreApart (map (λ (row : TableRow). row.entity) (table_at T t).rows) →
      cells_at T t k ≡ row_cells (archetypes_of T P).rows (map (λ (row : TableRow). row.entity) (table_at T t).rows) k
  column_is k within apart = map-same (cell_of_kind u.kinds k) (λ (r : TableRow). cell_at (row_of (archetypes_of T P).rows r.entity.index) k) u.rows one ∙ sym (entity_map u.rows)
    where
      u : TableValue
      u = table_at T t

      one : (r : TableRow) → IsIn r (table_at T t).rows → cell_of_kind (table_at T t).kinds k r ≡ cell_at (row_of (archetypes_of T P).rows r.entity.index) k
      one r here = sym (cells_are_theirs (table_at T t).kinds r k (shape_at T t within h.shaped).below)
          ∙ sym (ap (λ row. cell_at row k) (row_in_there r.entity (components_of (table_at T t).kinds r) (held_found (table_at T t) r.entity r (row_found (table_at T t).rows apart r here))))

      entity_map : (rows : List TableRow) → row_cells (archetypes_of T P).rows (map (λ (row : TableRow). row.entity) rows) k ≡ map (λ (r : TableRow). cell_at (row_of (archetypes_of T P).rows r.entity.index) k) rows
      entity_map [] = refl
      entity_map (r ∷ rs) = ap (λ cs. cell_at (row_of (archetypes_of T P).rows r.entity.index) k ∷ cs) (entity_map rs)

-- those of an archetype
pub column_seen : (T : List TableValue) (P : List (Option EntityLocation)) → AreArchetypes T P → (n t : ℕ) → IsTableOf T n t → (k : ℕ) → AreApart (map (λ (row : TableRow). row.entity) (table_at T t).rows) →
    cells_at T t k ≡ row_cells (archetypes_of T P).rows (archetype_at (layout_of T) n).entities k
column_seen T P h n t at k apart = column_is T P h t k at.within apart ∙ ap (λ es. row_cells (archetypes_of T P).rows es k) (sym (entities_there T n t at))

-- ---- a column comes home

kinds_short : (ks : List ℕ) (cells : List (Option Cell)) → length (components_in ks cells) ≤ length ks
kinds_short [] cells = omega arith
kinds_short (k ∷ ks) [] = omega arith
kinds_short (k ∷ ks) (None ∷ cells) = let l = kinds_short ks cells in omega arith
kinds_short (k ∷ ks) (Some cell ∷ cells) = let l = kinds_short ks cells in omega arith

length_kinds : (row : List Component) → length (map (λ (c : Component). c.kind) row) ≡ length row
length_kinds [] = refl
length_kinds (c ∷ cs) = ap suc (length_kinds cs)

pub not_head : (k n : ℕ) → k < n → (n == k) ≡ false
not_head k n l = grind (arith, nat_tests)

-- no component behind one of a kind is of the kind
row_with_above : (k : ℕ) (cell : Cell) (ks : List ℕ) (row : List Component) → map (λ (c : Component). c.kind) row ≡ ks → AllByRecursion (λ m. k < m) ks → row_with k (Some cell) row ≡ row
row_with_above k cell ks [] e h = refl
row_with_above k cell [] (c ∷ cs) e h = absurd (cc)
row_with_above k cell (n ∷ ks) (c ∷ cs) e h =
    let first : c.kind ≡ n = cc in
    let rest : map (λ (c : Component). c.kind) cs ≡ ks = cc in
    let above : k < n = h.0 in
    let l : k < c.kind = omega arith in
    ap₂ ◌∷◌ (ap (λ b. cond b (let d : Component = record { kind = c.kind; cell = cell } in d) c) (not_head k c.kind l)) (row_with_above k cell ks cs rest h.1)

-- a row that has all kinds, with another cell of one
with_cell_is : (ks : List ℕ) (k : ℕ) (cell : Cell) (cells : List (Option Cell)) → AreBelow ks → map (λ (c : Component). c.kind) (components_in ks cells) ≡ ks →
    components_in ks (update_kind ks k (λ _. Some cell) cells) ≡ row_with k (Some cell) (components_in ks cells)
with_cell_is [] k cell cells b h = refl
with_cell_is (n ∷ ks) k cell [] b h = refl
with_cell_is (n ∷ ks) k cell (None ∷ cells) b h =
    let l = kinds_short ks cells in let m = length_kinds (components_in ks cells) in let e : length (map (λ (c : Component). c.kind) (components_in ks cells)) ≡ suc (length ks) = ap length h in absurd (omega arith)
with_cell_is (n ∷ ks) k cell (Some c ∷ cells) b h = go (n == k) refl (with_cell_is ks k cell cells b.1 rest)
  where
    rest : map (λ (c : Component). c.kind) (components_in ks cells) ≡ ks
    rest = cc

    go : (e : Bool) → (n == k) ≡ e → components_in ks (update_kind ks k (λ _. Some cell) cells) ≡ row_with k (Some cell) (components_in ks cells) →
        components_in (n ∷ ks) (cond e (Some cell ∷ cells) (Some c ∷ update_kind ks k (λ _. Some cell) cells))
        ≡ cond e (let d : Component = record { kind = n; cell = cell } in d) (record { kind = n; cell = c }) ∷ row_with k (Some cell) (components_in ks cells)
    go true same more = ap (λ row. (let d : Component = record { kind = n; cell = cell } in d) ∷ row)
        (sym (row_with_above k cell ks (components_in ks cells) rest (subst (λ m. AllByRecursion (λ x. m < x) ks) (eqb-true n k same) b.0)))
    go false other more = ap (λ row. (let d : Component = record { kind = n; cell = c } in d) ∷ row) more

pub row_with_kinds : (k : ℕ) (o : Option Cell) (row : List Component) → map (λ (c : Component). c.kind) (row_with k o row) ≡ map (λ (c : Component). c.kind) row
row_with_kinds k None row = refl
row_with_kinds k (Some cell) [] = refl
row_with_kinds k (Some cell) (c ∷ cs) = ap₂ ◌∷◌ (go (c.kind == k)) (row_with_kinds k (Some cell) cs)
  where
    go : (b : Bool) → (cond b (let d : Component = record { kind = c.kind; cell = cell } in d) c).kind ≡ c.kind
    go true = refl
    go false = refl

option_map-none : (k : ℕ) (o : Option (List Component)) → o ≡ option_map (row_with k None) o
option_map-none k None = refl
option_map-none k (Some row) = refl

-- the row of an entity among rows that take the cells of a column
held_filled : (ks : List ℕ) (k : ℕ) (cells : List Cell) (rows : List TableRow) (e : Entity) → AreBelow ks → IsOfKinds ks (option_map (components_of ks) (row_in_table e rows)) →
    option_map (components_of ks) (row_in_table e (filled_rows ks k cells rows))
    ≡ option_map (row_with k (cell_for e (map (λ (row : TableRow). row.entity) rows) cells)) (option_map (components_of ks) (row_in_table e rows))
held_filled ks k cells [] e b h = refl
held_filled ks k [] (r ∷ rows) e b h = option_map-none k (option_map (components_of ks) (row_in_table e (r ∷ rows)))
held_filled ks k (cell ∷ cells) (r ∷ rows) e b h = go (is_same r.entity e) h (held_filled ks k cells rows e b)
  where
    go : (t : Bool) → IsOfKinds ks (option_map (components_of ks) (cond t (Some r) (row_in_table e rows))) →
        (IsOfKinds ks (option_map (components_of ks) (row_in_table e rows)) → option_map (components_of ks) (row_in_table e (filled_rows ks k cells rows))
        ≡ option_map (row_with k (cell_for e (map (λ (row : TableRow). row.entity) rows) cells)) (option_map (components_of ks) (row_in_table e rows))) →
        option_map (components_of ks) (cond t (Some (with_cell_at ks k (λ _. Some cell) r)) (row_in_table e (filled_rows ks k cells rows)))
        ≡ option_map (row_with k (cond t (Some cell) (cell_for e (map (λ (row : TableRow). row.entity) rows) cells))) (option_map (components_of ks) (cond t (Some r) (row_in_table e rows)))
    go true kinds more = ap (λ row. Some row) (with_cell_is ks k cell r.cells b kinds)
    go false kinds more = more kinds

absent_for : (rows : List TableRow) (cells : List Cell) (e : Entity) → row_in_table e rows ≡ None → cell_for e (map (λ (row : TableRow). row.entity) rows) cells ≡ None
absent_for [] cells e h = refl
absent_for (r ∷ rows) [] e h = refl
absent_for (r ∷ rows) (c ∷ cells) e h = go (is_same r.entity e) h (absent_for rows cells e)
  where
    go : (b : Bool) → cond b (Some r) (row_in_table e rows) ≡ None → (row_in_table e rows ≡ None → cell_for e (map (λ (row : TableRow). row.entity) rows) cells ≡ None) →
        cond b (Some c) (cell_for e (map (λ (row : TableRow). row.entity) rows) cells) ≡ None
    go true k more = absurd (cc)
    go false k more = more k

pub entities_filled : (ks : List ℕ) (k : ℕ) (cells : List Cell) (rows : List TableRow) → map (λ (row : TableRow). row.entity) (filled_rows ks k cells rows) ≡ map (λ (row : TableRow). row.entity) rows
entities_filled ks k cells [] = refl
entities_filled ks k [] (r ∷ rows) = refl
entities_filled ks k (c ∷ cells) (r ∷ rows) = ap (λ es. r.entity ∷ es) (entities_filled ks k cells rows)

pub there_filled : (ks : List ℕ) (k : ℕ) (cells : List Cell) (rows : List TableRow) → is_there (filled_rows ks k cells rows) ≡ is_there rows
there_filled ks k cells [] = refl
there_filled ks k [] (r ∷ rows) = refl
there_filled ks k (c ∷ cells) (r ∷ rows) = refl

kinds-map : (ks : List ℕ) (k : ℕ) (c : Option Cell) (o : Option (List Component)) → IsOfKinds ks o → IsOfKinds ks (option_map (row_with k c) o)
kinds-map ks k c None h = tt
kinds-map ks k c (Some row) h = row_with_kinds k c row ∙ h

or_none-map : (k : ℕ) (c : Option Cell) (o : Option (List Component)) → row_or_none (option_map (row_with k c) o) ≡ row_with k c (row_or_none o)
or_none-map k None None = refl
or_none-map k (Some cell) None = refl
or_none-map k c (Some row) = refl

pub some_map_none : {A B : Type 0} (f : A → B) (o : Option A) → option_map f o ≡ None → o ≡ None
some_map_none f None h = refl
some_map_none f (Some x) h = absurd (cc)

module _ (T : List TableValue) (P : List (Option EntityLocation)) (n t : ℕ) (at : IsTableOf T n t) (c : ColumnCells) (whole : AreArchetypes T P) where
  -- what is held after it: in its table the rows have its cells
  held_homed : (m : ℕ) (e : Entity) →
      held_at (set T t (homed (table_at T t) c)) m e
      ≡ option_map (row_with c.kind (cond (m == t) (cell_for e (map (λ (row : TableRow). row.entity) (table_at T t).rows) c.cells) None)) (held_at T m e)
  held_homed m e = go (cases_eq m t)
    where
      go : (m ≡ t) ⊎ (m ≡ t → ⊥) → held_at (set T t (homed (table_at T t) c)) m e
          ≡ option_map (row_with c.kind (cond (m == t) (cell_for e (map (λ (row : TableRow). row.entity) (table_at T t).rows) c.cells) None)) (held_at T m e)
      go (inl same) = ap (λ i. held_at (set T t (homed (table_at T t) c)) i e) same
          ∙ ap (λ x. held_in x e) (get_or-set_same T t (homed (table_at T t) c) (empty_table []) at.within)
          ∙ held_filled (kinds_at T t) c.kind c.cells (table_at T t).rows e (shape_at T t at.within whole.shaped).below (whole.of_kinds t e)
          ∙ ap₂ (λ b i. option_map (row_with c.kind (cond b (cell_for e (map (λ (row : TableRow). row.entity) (table_at T t).rows) c.cells) None)) (held_at T i e)) (sym (eq-eqb m t same)) (sym same)
      go (inr apart) = ap (λ x. held_in x e) (get_or-set_other T t m (homed (table_at T t) c) (empty_table []) apart)
          ∙ option_map-none c.kind (held_at T m e)
          ∙ ap (λ b. option_map (row_with c.kind (cond b (cell_for e (map (λ (row : TableRow). row.entity) (table_at T t).rows) c.cells) None)) (held_at T m e)) (sym (ne_eqb m t apart))

  kinds_homed : (m : ℕ) → kinds_at (set T t (homed (table_at T t) c)) m ≡ kinds_at T m
  kinds_homed m = go (cases_eq m t)
    where
      go : (m ≡ t) ⊎ (m ≡ t → ⊥) → kinds_at (set T t (homed (table_at T t) c)) m ≡ kinds_at T m
      go (inl same) = ap (kinds_at (set T t (homed (table_at T t) c))) same ∙ ap (λ (x : TableValue). x.kinds) (get_or-set_same T t (homed (table_at T t) c) (empty_table []) at.within) ∙ ap (kinds_at T) (sym same)
      go (inr apart) = ap (λ (x : TableValue). x.kinds) (get_or-set_other T t m (homed (table_at T t) c) (empty_table []) apart)

  whole_homed : AreArchetypes (set T t (homed (table_at T t) c)) P
  whole_homed = record {
    agree = λ m e. ap is_some (held_homed m e) ∙ is_some-map (row_with c.kind (cond (m == t) (cell_for e (map (λ (row : TableRow). row.entity) (table_at T t).rows) c.cells) None)) (held_at T m e) ∙ whole.agree m e;
    of_kinds = λ m e. subst (λ ks. IsOfKinds ks (held_at (set T t (homed (table_at T t) c)) m e)) (sym (kinds_homed m))
        (subst (IsOfKinds (kinds_at T m)) (sym (held_homed m e))
        (kinds-map (kinds_at T m) c.kind (cond (m == t) (cell_for e (map (λ (row : TableRow). row.entity) (table_at T t).rows) c.cells) None) (held_at T m e) (whole.of_kinds m e)));
    shaped = shaped_kinds T (set T t (homed (table_at T t) c)) (map-set_same (λ (x : TableValue). x.kinds) T t (homed (table_at T t) c) (empty_table []) refl)
        (map-set_same (λ (x : TableValue). length x.standings) T t (homed (table_at T t) c) (empty_table []) (length-update_kind (kinds_at T t) c.kind Owned (table_at T t).standings)) whole.shaped;
    unlike = unlike_kinds T (set T t (homed (table_at T t) c)) (map-set_same (λ (x : TableValue). x.kinds) T t (homed (table_at T t) c) (empty_table []) refl) whole.unlike;
  }

  pub stored_homed : (s : Bool) → IsStored T P s → IsStored (set T t (homed (table_at T t) c)) P s
  stored_homed s h = record {
    whole = whole_homed;
    empty = each_set (λ x. is_there x.rows ≡ false → list_all is_home x.standings ≡ true) T t (homed (table_at T t) c)
        (λ none. absurd (let e : true ≡ false = sym at.peopled ∙ sym (there_filled (kinds_at T t) c.kind c.cells (table_at T t).rows) ∙ none in cc)) h.empty;
    unshared = λ e. each_set (λ x. list_all is_unshared x.standings ≡ true) T t (homed (table_at T t) c)
        (unshared_update (kinds_at T t) c.kind Owned (table_at T t).standings refl (unshared_at T t at.within (h.unshared e))) (h.unshared e);
  }

  row_step : (i : ℕ) (o : Option EntityLocation) → place_of P i ≡ o →
      row_in (set T t (homed (table_at T t) c)) i o ≡ row_with c.kind (cell_held (map (λ (row : TableRow). row.entity) (table_at T t).rows) c.cells i (holder_in o)) (row_in T i o)
  row_step i None k = refl
  row_step i (Some p) k = ap row_or_none (held_homed p.table e) ∙ or_none-map c.kind (cond (p.table == t) there None) (held_at T p.table e) ∙ go (p.table == t) refl
    where
      e : Entity
      e = record { index = i; generation = p.generation }

      there : Option Cell
      there = cell_for (record { index = i; generation = p.generation }) (map (λ (row : TableRow). row.entity) (table_at T t).rows) c.cells

      go : (b : Bool) → (p.table == t) ≡ b →
          row_with c.kind (cond b (cell_for (record { index = i; generation = p.generation }) (map (λ (row : TableRow). row.entity) (table_at T t).rows) c.cells) None) (row_or_none (held_at T p.table (record { index = i; generation = p.generation })))
          ≡ row_with c.kind (cell_for (record { index = i; generation = p.generation }) (map (λ (row : TableRow). row.entity) (table_at T t).rows) c.cells) (row_or_none (held_at T p.table (record { index = i; generation = p.generation })))
      go true same = refl
      go false other =
          let x : Entity = record { index = i; generation = p.generation } in
          let none : held_at T t x ≡ None = not_elsewhere T P whole x p k t (other_than p.table t other) in
          ap (λ cell. row_with c.kind cell (row_or_none (held_at T p.table x)))
          (sym (absent_for (table_at T t).rows c.cells x (some_map_none (components_of (kinds_at T t)) (row_in_table x (table_at T t).rows) none)))

  pub value_homed : IsFilled (archetypes_of T P) n c.kind c.cells (archetypes_of (set T t (homed (table_at T t) c)) P)
  value_homed = record {
    rows = λ i. row_seen (set T t (homed (table_at T t) c)) P i ∙ row_step i (place_of P i) refl
        ∙ ap₂ (λ xs o. row_with c.kind (cell_held xs c.cells i o) (row_in T i (place_of P i))) (sym (entities_there T n t at)) (sym (holder_seen T P i))
        ∙ ap (row_with c.kind (cell_held (archetype_at (layout_of T) n).entities c.cells i (holder_of (archetypes_of T P).holders i))) (sym (row_seen T P i));
    holders = refl;
    layout = layout_set (with_column true c.kind) T n t (homed (table_at T t) c) at (there_filled (kinds_at T t) c.kind c.cells (table_at T t).rows ∙ at.peopled)
        (ap₂ (λ xs homes. let a : Archetype = record { kinds = kinds_at T t; entities = xs; homes = homes } in a)
        (entities_filled (kinds_at T t) c.kind c.cells (table_at T t).rows) (map-update_kind is_home Owned (kinds_at T t) c.kind (table_at T t).standings));
  }
