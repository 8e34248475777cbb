-- The layout of tables is that of the rows that they hold.
use Rattle.archetype_store.proofs.Common.{◌≡◌, ◌≢◌, ℕ, zero, suc, ◌+◌, ◌<◌, Bool, true, false, cond, ◌==◌, ◌||◌, List, [], ◌∷◌, ◌++◌, length, take, get_or, map, Option, Some, None, option_map, is_some, refl, sym, ap, ap₂, ◌∙◌, arith, length-map, take_more, append-nil, map-append, and_parts, list_any, AllByRecursion, is_there, Component, Slot, Entity, is_same, TableRow, TableValue, is_home, with_rows, EntityLocation, Archetype, archetype_of, layout_of, archetype_at, is_in_archetype, IsShape, IsArchetype, AreOfOtherKinds, IsLayoutOf, table_at, kinds_at, held_at, AreShaped, AreUnlike, StorageValue, archetypes_of, row_of, holder_of, place_of, row_in, holder_in, is_place, IsHolder, AreArchetypes, IsLaidOut, HasRows, eqb-true}
use Rattle.column_store.specs.Table.{row_of as row_in_table}
use Rattle.entity_table.proofs.WithRows.{is_alive-with_rows}
use Rattle.archetype_store.proofs.PlacesAfterRowChange.{row_seen, holder_seen, somewhere}
use Rattle.archetype_store.proofs.RowSteps.{kinds_at_place}
use Rattle.archetype_store.proofs.SlotRows.{holder_lives, row_at_slots}

-- ---- one table

held_step : {A B : Type 0} (f : A → B) (b rest : Bool) (x : A) (o : Option A) → is_some (option_map f o) ≡ rest → is_some (option_map f (cond b (Some x) o)) ≡ (b || rest)
held_step f true rest x o h = refl
held_step f false rest x o h = h

held_among : {B : Type 0} (f : TableRow → B) (rows : List TableRow) (e : Entity) →
    is_some (option_map f (row_in_table e rows)) ≡ list_any (λ x. is_same x e) (map (λ (row : TableRow). row.entity) rows)
held_among f [] e = refl
held_among f (row ∷ rows) e = held_step f (is_same row.entity e) (list_any (λ x. is_same x e) (map (λ (r : TableRow). r.entity) rows)) row (row_in_table e rows) (held_among f rows e)

rows_there : (rows : List TableRow) (e : Entity) → list_any (λ x. is_same x e) (map (λ (row : TableRow). row.entity) rows) ≡ true → is_there rows ≡ true
rows_there [] e h = absurd (cc)
rows_there (row ∷ rows) e h = refl

-- ---- archetypes and their tables

table_step : (b : Bool) (u : TableValue) (us : List TableValue) (n : ℕ) → ((m : ℕ) → (t : ℕ) × (archetype_at (layout_of us) m ≡ archetype_of (table_at us t))) →
    (t : ℕ) × (archetype_at (cond b (archetype_of u ∷ layout_of us) (layout_of us)) n ≡ archetype_of (table_at (u ∷ us) t))
table_step true u us zero h = (0, refl)
table_step true u us (suc n) h = (let k = h n in (suc k.0, k.1))
table_step false u us n h = (let k = h n in (suc k.0, k.1))

-- each archetype is that of a table
table_of : (tables : List TableValue) (n : ℕ) → (t : ℕ) × (archetype_at (layout_of tables) n ≡ archetype_of (table_at tables t))
table_of [] n = (0, refl)
table_of (u ∷ us) n = table_step (is_there u.rows) u us n (table_of us)

later_step : (b : Bool) (u : TableValue) (us : List TableValue) (t : ℕ) → (n : ℕ) × (archetype_at (layout_of us) n ≡ archetype_of (table_at us t)) →
    (n : ℕ) × (archetype_at (cond b (archetype_of u ∷ layout_of us) (layout_of us)) n ≡ archetype_of (table_at us t))
later_step true u us t h = (suc h.0, h.1)
later_step false u us t h = h

-- a table with rows has its archetype
archetype_for : (tables : List TableValue) (t : ℕ) → is_there (table_at tables t).rows ≡ true → (n : ℕ) × (archetype_at (layout_of tables) n ≡ archetype_of (table_at tables t))
archetype_for [] t h = absurd (cc)
archetype_for (u ∷ us) zero h = (0, ap (λ b. archetype_at (cond b (archetype_of u ∷ layout_of us) (layout_of us)) 0) h)
archetype_for (u ∷ us) (suc t) h = later_step (is_there u.rows) u us t (archetype_for us t h)

-- ---- each archetype, and any two

there_map : {A B : Type 0} (f : A → B) (xs : List A) → is_there xs ≡ true → is_there (map f xs) ≡ true
there_map f [] h = absurd (cc)
there_map f (x ∷ xs) h = refl

each_step : (b : Bool) (u : TableValue) (others : List Archetype) → IsShape u.kinds u.standings → (b ≡ true → is_there (archetype_of u).entities ≡ true) → AllByRecursion IsArchetype others →
    AllByRecursion IsArchetype (cond b (archetype_of u ∷ others) others)
each_step true u others shape there rest = (record { shape = record { below = shape.below; some = shape.some; each = length-map u.standings is_home ∙ shape.each }; peopled = there refl }, rest)
each_step false u others shape there rest = rest

-- each has a shape and an entity
each_of : (tables : List TableValue) → AreShaped tables → AllByRecursion IsArchetype (layout_of tables)
each_of [] h = h
each_of (u ∷ us) h = each_step (is_there u.rows) u (layout_of us) h.0 (there_map (λ (row : TableRow). row.entity) u.rows) (each_of us h.1)

kept_step : (P : List ℕ → Type 0) (b : Bool) (u : TableValue) (others : List Archetype) → P u.kinds → AllByRecursion (λ a. P a.kinds) others →
    AllByRecursion (λ (a : Archetype). P a.kinds) (cond b (archetype_of u ∷ others) others)
kept_step P true u others h rest = (h, rest)
kept_step P false u others h rest = rest

-- what holds of the kinds of all tables holds of those of the layout
kept : (P : List ℕ → Type 0) (tables : List TableValue) → AllByRecursion (λ u. P u.kinds) tables → AllByRecursion (λ (a : Archetype). P a.kinds) (layout_of tables)
kept P [] h = h
kept P (u ∷ us) h = kept_step P (is_there u.rows) u (layout_of us) h.0 (kept P us h.1)

unlike_step : (b : Bool) (u : TableValue) (others : List Archetype) → AllByRecursion (λ (a : Archetype). u.kinds ≢ a.kinds) others → AreOfOtherKinds others →
    AreOfOtherKinds (cond b (archetype_of u ∷ others) others)
unlike_step true u others h rest = (h, rest)
unlike_step false u others h rest = rest

-- no two have the same kinds
unlike_of : (tables : List TableValue) → AreUnlike tables → AreOfOtherKinds (layout_of tables)
unlike_of [] h = h
unlike_of (u ∷ us) h = unlike_step (is_there u.rows) u (layout_of us) (kept (λ kinds. u.kinds ≢ kinds) us h.0) (unlike_of us h.1)

-- ---- one more table

append_step : (b : Bool) (t : TableValue) (ts us : List TableValue) → layout_of (ts ++ us) ≡ layout_of ts ++ layout_of us →
    cond b (archetype_of t ∷ layout_of (ts ++ us)) (layout_of (ts ++ us)) ≡ cond b (archetype_of t ∷ layout_of ts) (layout_of ts) ++ layout_of us
append_step true t ts us h = ap (λ xs. archetype_of t ∷ xs) h
append_step false t ts us h = h

layout-append : (ts us : List TableValue) → layout_of (ts ++ us) ≡ layout_of ts ++ layout_of us
layout-append [] us = refl
layout-append (t ∷ ts) us = append_step (is_there t.rows) t ts us (layout-append ts us)

pub no_rows : {A : Type 0} (f : TableRow → A) (rows : List TableRow) → (length (map f rows) == 0) ≡ true → is_there rows ≡ false
no_rows f [] h = refl
no_rows f (row ∷ rows) h = absurd (let e = eqb-true (length (map f (row ∷ rows))) 0 h in omega arith)

pub some_rows : {A : Type 0} (f : TableRow → A) (rows : List TableRow) → (length (map f rows) == 0) ≡ false → is_there rows ≡ true
some_rows f [] h = absurd (let e : true ≡ false = h in cc)
some_rows f (row ∷ rows) h = refl

module _ {A B : Type 0} (f : Archetype → A) (g : B → A) (entities : List Entity) (tables : List TableValue) (i : ℕ) (t : TableValue) (views : List B) (below : i < length tables)
    (is : t ≡ get_or tables i t) (theirs : entities ≡ map (λ (row : TableRow). row.entity) t.rows) (so_far : map g views ≡ map f (layout_of (take i tables))) where
  next_layout : layout_of (take (i + 1) tables) ≡ layout_of (take i tables) ++ cond (is_there t.rows) (archetype_of t ∷ []) []
  next_layout = ap layout_of (take_more tables i t below) ∙ ap (λ u. layout_of (take i tables ++ u ∷ [])) (sym is) ∙ layout-append (take i tables) (t ∷ [])

  -- one without rows is passed over
  pub view_passed : (length entities == 0) ≡ true → map g views ≡ map f (layout_of (take (i + 1) tables))
  view_passed none =
      let empty = no_rows (λ (row : TableRow). row.entity) t.rows (ap (λ es. length es == 0) (sym theirs) ∙ none) in
      so_far ∙ ap (map f) (sym (next_layout ∙ ap (λ b. layout_of (take i tables) ++ cond b (archetype_of t ∷ []) []) empty ∙ append-nil (layout_of (take i tables))))

  -- one with rows is seen
  pub view_added : (view : B) (next : List B) → (length entities == 0) ≡ false → g view ≡ f (archetype_of t) → next ≡ views ++ view ∷ [] → map g next ≡ map f (layout_of (take (i + 1) tables))
  view_added view next some same pushed =
      let there = some_rows (λ (row : TableRow). row.entity) t.rows (ap (λ es. length es == 0) (sym theirs) ∙ some) in
      ap (map g) pushed ∙ map-append g views (view ∷ []) ∙ ap₂ (λ xs x. xs ++ x ∷ []) so_far same
      ∙ sym (ap (map f) (next_layout ∙ ap (λ b. layout_of (take i tables) ++ cond b (archetype_of t ∷ []) []) there) ∙ map-append f (layout_of (take i tables)) (archetype_of t ∷ []))

-- ---- all of them

module _ (T : List TableValue) (P : List (Option EntityLocation)) (h : AreArchetypes T P) where
  placed_there : (t : ℕ) (e : Entity) (o : Option EntityLocation) → place_of P e.index ≡ o → is_place o e.generation t ≡ true →
      (holder_in o ≡ Some e.generation) × (map (λ (c : Component). c.kind) (row_in T e.index o) ≡ kinds_at T t)
  placed_there t e None at there = absurd (cc)
  placed_there t e (Some p) at there =
      let both = and_parts (p.generation == e.generation) (p.table == t) there in (
        ap (λ g. Some g) (eqb-true p.generation e.generation both.0),
        ap (λ (o : Option EntityLocation). map (λ (c : Component). c.kind) (row_in T e.index o)) (sym at) ∙ kinds_at_place T P h e.index p at ∙ ap (kinds_at T) (eqb-true p.table t both.1),
      )

  held_placed : (e : Entity) (o : Option EntityLocation) → place_of P e.index ≡ o → holder_in o ≡ Some e.generation → (t : ℕ) × (is_some (held_at T t e) ≡ true)
  held_placed e None at holds = absurd (cc)
  held_placed e (Some p) at holds = (p.table, somewhere T P h e p at (let same : Some p.generation ≡ Some e.generation = holds in cc))

  -- their layout
  pub laid_out : IsLaidOut (archetypes_of T P)
  laid_out = record {
    theirs = λ n e among.
        let t = table_of T n in
        let held = held_among _ (table_at T t.0).rows e ∙ sym (ap (is_in_archetype e) t.1) ∙ among in
        let there = placed_there t.0 e (place_of P e.index) refl (sym (h.agree t.0 e) ∙ held) in
        (holder_seen T P e.index ∙ there.0, ap (map (λ (c : Component). c.kind)) (row_seen T P e.index) ∙ there.1 ∙ sym (ap (λ (a : Archetype). a.kinds) t.1));
    every = λ e holds.
        let t = held_placed e (place_of P e.index) refl (sym (holder_seen T P e.index) ∙ holds) in
        let among = sym (held_among _ (table_at T t.0).rows e) ∙ t.1 in
        let n = archetype_for T t.0 (rows_there (table_at T t.0).rows e among) in
        (n.0, ap (is_in_archetype e) n.1 ∙ among);
    each = each_of T h.shaped;
    unlike = unlike_of T h.unlike;
  }

module _ (book : List Slot) (a : StorageValue) (h : HasRows book a) (laid : IsLaidOut a) where
  holder_some : (e : Entity) (o : Option ℕ) → holder_of a.holders e.index ≡ o → IsHolder e.generation o → is_there (row_of a.rows e.index) ≡ true → o ≡ Some e.generation
  holder_some e None at fits there = absurd (let none : is_there (row_of a.rows e.index) ≡ false = ap is_there (h.empty e.index at) in cc)
  holder_some e (Some g) at fits there = ap (λ k. Some k) fits

  -- the layout of slots
  pub slots_laid : IsLayoutOf (with_rows (row_of a.rows) book) a.layout
  slots_laid = record {
    theirs = λ n e among.
        let t = laid.theirs n e among in
        (is_alive-with_rows (row_of a.rows) book e ∙ h.live e.index e.generation t.0, ap (map (λ (c : Component). c.kind)) (row_at_slots book a h e.index) ∙ t.1);
    every = λ e alive there.
        let lives = sym (is_alive-with_rows (row_of a.rows) book e) ∙ alive in
        let has = sym (ap is_there (row_at_slots book a h e.index)) ∙ there in
        laid.every e (holder_some e (holder_of a.holders e.index) refl (holder_lives book a h e lives) has);
    each = laid.each;
    unlike = laid.unlike;
  }
