-- What the systems that run hold of a world, as more of them start and as they end.
use Rattle.std.proofs.Common.{◌≡◌, ℕ, zero, suc, ◌+◌, ℤ, ◌<◌, Bool, true, false, cond, ◌==◌, ◌&&◌, ◌||◌, ◌⊎◌, inl, inr, List, [], ◌∷◌, ◌++◌, length, get_or, map, Option, Some, None, refl, sym, ap, ap₂, ◌∙◌, subst, arith}
use mathlib.Core.Path.{fun_ext}
use Rattle.std.specs.List.{AllByRecursion, list_any, list_all}
use Rattle.std.proofs.lemmas.Bool.{eqb-true, eq-eqb, ne_eqb, and_parts, and_from, or_left}
use Rattle.model.specs.Lists.{has, is_there, IsIn}
use Rattle.model.specs.declared.entities.Entity.{Entity}
use Rattle.model.specs.state.State.{Slot, Cell, World, fresh_slot, is_living}
use Rattle.model.specs.state.Rows.{cell_at, row_at, kinds_of}
use Rattle.model.specs.state.Commands.{is_alive}
use Rattle.model.specs.access.Access.{Params}
use Rattle.model.specs.access.Conflict.Datum.{OfKind}
use Rattle.model.specs.access.Meeting.{IsAmong}
use Rattle.model.specs.access.Query.{Term, matches, touches, writes}
use Rattle.model.specs.shown.Overlay.{slot_after, slots_after}
use Rattle.model.proofs.lists.Each.{each-weaker, each-append}
use Rattle.model.proofs.lists.Lists.{map-same, IsIn-append, IsIn_left, IsIn_right, IsIn_from_any, list_any-IsIn, get_or-map_index-view, ==-same}
use Rattle.model.proofs.agreement.Stamps.{cell_at-slots_after}
use Rattle.model.proofs.serial.Within.{AllAmong}
use Rattle.model.proofs.serial.Writes.{lookup_after, lookup_after-None}
use Rattle.column_store.specs.Kinds.{AreBelow, at_kind, update_kind}
use Rattle.column_store.specs.Order.{is_same}
use Rattle.archetype_store.specs.declared.columns.TakenColumn.{TakenColumn}
use Rattle.archetype_store.specs.Layout.{Archetype, archetype_at, column_home, with_home, has_index, AreAllHome, IsArchetype, IsLayoutOf}
use Rattle.archetype_store.specs.Overlays.{AreReached}
use Rattle.archetype_store.specs.Slot.{cell_of, column_cells}
use Rattle.archetype_store.specs.Store.{StoreValue}
use Rattle.archetype_store.proofs.ColumnOverlays.{entities_home}
use Rattle.archetype_store.proofs.RowEdits.{kinds-among}
use Rattle.archetype_store.proofs.ColumnLoans.{kinds_home}
use Rattle.query_plan.specs.Picks.{Picked, picks_of}
use Rattle.query_plan.specs.Standing.{ArePickedHome}
use Rattle.query_plan.proofs.PickedHome.{from_picked}
use Rattle.model.proofs.serial.Conflicts.{touches_from_writes as writes-touches}
use Rattle.column_store.proofs.Apart.{same_self}
use Rattle.body.specs.Columns.{Column}
use Rattle.body.specs.Laid.{with_slots}
use Rattle.body.specs.Lent.{lent_in, with_away, with_back, AreOfOtherPlaces, IsLent, IsOfEntities, AreLent}
use Rattle.body.specs.Out.{IsWrittenBy, IsPlaceOf, AreOut, IsApartFrom}
use Rattle.body.proofs.Gets.{each-in, each-split}
use Rattle.body.proofs.Lendings.{IsAt, IsOther, home_other, entities_away, away_later, lent_in-append, apart-append, not_both}
use Rattle.body.proofs.Pickings.{IsPickIn, picks-are}
use Rattle.body.proofs.Plannings.{archetype-fact, same-archetype}
use Rattle.body.proofs.QueryOpens.{kinds-at-away}
use Rattle.body.proofs.Openings.{kinds-within as has-within}
use Rattle.model.proofs.lists.Places.{each-where}

-- ---- flags

-- a column that is away once others left is one of them, or was away
away-from : (cs : List TakenColumn) (layout : List Archetype) (n k : ℕ) → column_home (archetype_at (with_away cs layout) n) k ≡ Some false →
    IsPlaceOf cs n k ⊎ (column_home (archetype_at layout n) k ≡ Some false)
away-from [] layout n k h = inr h
away-from (c ∷ cs) layout n k h = go (away-from cs (with_home false c.archetype c.column.kind layout) n k h)
  where
    here : (a b : Bool) → (c.archetype == n) ≡ a → (c.column.kind == k) ≡ b → column_home (archetype_at (with_home false c.archetype c.column.kind layout) n) k ≡ Some false →
        IsPlaceOf (c ∷ cs) n k ⊎ (column_home (archetype_at layout n) k ≡ Some false)
    here true true e f away = inl (record { column = c; among = inl refl; archetype_is = eqb-true c.archetype n e; kind_is = eqb-true c.column.kind k f })
    here true false e f away = inr (sym (home_other false c.archetype c.column.kind n k layout (λ x same. not-same c.column.kind k f same)) ∙ away)
      where
        not-same : (x y : ℕ) → (x == y) ≡ false → x ≡ y → ⊥
        not-same x y other same = absurd (let f : true ≡ false = sym (eq-eqb x y same) ∙ other in cc)
    here false b e f away = inr (sym (home_other false c.archetype c.column.kind n k layout (λ same x. not-same c.archetype n e same)) ∙ away)
      where
        not-same : (x y : ℕ) → (x == y) ≡ false → x ≡ y → ⊥
        not-same x y other same = absurd (let f : true ≡ false = sym (eq-eqb x y same) ∙ other in cc)

    go : IsPlaceOf cs n k ⊎ (column_home (archetype_at (with_home false c.archetype c.column.kind layout) n) k ≡ Some false) → IsPlaceOf (c ∷ cs) n k ⊎ (column_home (archetype_at layout n) k ≡ Some false)
    go (inl found) = inl (record { column = found.column; among = inr found.among; archetype_is = found.archetype_is; kind_is = found.kind_is })
    go (inr away) = here (c.archetype == n) (c.column.kind == k) refl refl away

back-other : (cs : List TakenColumn) (layout : List Archetype) (n k : ℕ) → AllByRecursion (λ (c : TakenColumn). c.archetype ≡ n → c.column.kind ≡ k → ⊥) cs →
    column_home (archetype_at (with_back cs layout) n) k ≡ column_home (archetype_at layout n) k
back-other [] layout n k h = refl
back-other (c ∷ cs) layout n k h = home_other true c.archetype c.column.kind n k (with_back cs layout) h.0 ∙ back-other cs layout n k h.1

-- what has come home isn't away
flag-home : (ks : List ℕ) (k : ℕ) (xs : List Bool) → at_kind ks k (update_kind ks k (λ _. true) xs) ≡ Some false → ⊥
flag-home [] k xs h = absurd (cc)
flag-home (n ∷ ks) k [] h = absurd (cc)
flag-home (n ∷ ks) k (x ∷ xs) h = go (n == k) refl h (flag-home ks k xs)
  where
    go : (b : Bool) → (n == k) ≡ b → at_kind (n ∷ ks) k (cond b (true ∷ xs) (x ∷ update_kind ks k (λ _. true) xs)) ≡ Some false → (at_kind ks k (update_kind ks k (λ _. true) xs) ≡ Some false → ⊥) → ⊥
    go true e h more = let clash : Some true ≡ Some false = sym (ap (λ b. cond b (Some true) (at_kind ks k xs)) e) ∙ h in absurd (cc)
    go false e h more = more (sym (ap (λ b. cond b (Some x) (at_kind ks k (update_kind ks k (λ _. true) xs))) e) ∙ h)

home-now : (n k : ℕ) (layout : List Archetype) → column_home (archetype_at (with_home true n k layout) n) k ≡ Some false → ⊥
home-now n k [] h = absurd (cc)
home-now zero k (a ∷ rest) h = flag-home a.kinds k a.homes h
home-now (suc n) k (a ∷ rest) h = home-now n k rest h

-- what is away once columns have come home was away, and is none of them
back-from : (cs : List TakenColumn) (layout : List Archetype) (n k : ℕ) → column_home (archetype_at (with_back cs layout) n) k ≡ Some false →
    (column_home (archetype_at layout n) k ≡ Some false) × AllByRecursion (λ (c : TakenColumn). c.archetype ≡ n → c.column.kind ≡ k → ⊥) cs
back-from [] layout n k h = (h, tt)
back-from (c ∷ cs) layout n k h =
    let other : c.archetype ≡ n → c.column.kind ≡ k → ⊥ =
    λ e f. home-now n k (with_back cs layout) (sym (ap₂ (λ m j. column_home (archetype_at (with_home true m j (with_back cs layout)) n) k) e f) ∙ h) in
    let more = back-from cs layout n k (sym (home_other true c.archetype c.column.kind n k (with_back cs layout) other) ∙ h) in
    (more.0, (other, more.1))

entities-back : (cs : List TakenColumn) (layout : List Archetype) (m : ℕ) → (archetype_at (with_back cs layout) m).entities ≡ (archetype_at layout m).entities
entities-back [] layout m = refl
entities-back (c ∷ cs) layout m = entities_home true c.archetype c.column.kind m (with_back cs layout) ∙ entities-back cs layout m

kinds-at-back : (cs : List TakenColumn) (layout : List Archetype) (m : ℕ) → (archetype_at (with_back cs layout) m).kinds ≡ (archetype_at layout m).kinds
kinds-at-back [] layout m = refl
kinds-at-back (c ∷ cs) layout m = kinds_home true c.archetype c.column.kind m (with_back cs layout) ∙ kinds-at-back cs layout m

-- ---- columns that queries write

written-same : (queries : List (List Term)) (was now : List Archetype) (c : TakenColumn) → ((m : ℕ) → (archetype_at now m).kinds ≡ (archetype_at was m).kinds) → IsWrittenBy queries was c → IsWrittenBy queries now c
written-same queries was now c same h = record {
  query = h.query;
  declared = h.declared;
  matched = subst (λ ks. matches h.query (λ kind. has kind ks) ≡ true) (sym (same c.archetype)) h.matched;
  held = subst (λ ks. has c.column.kind ks ≡ true) (sym (same c.archetype)) h.held;
  writing = h.writing;
}

-- they are so wherever columns are
pub written-away : (queries : List (List Term)) (cs : List TakenColumn) (layout : List Archetype) (c : TakenColumn) → IsWrittenBy queries layout c → IsWrittenBy queries (with_away cs layout) c
written-away queries cs layout c h = written-same queries layout (with_away cs layout) c (kinds-at-away cs layout) h

pub written-back : (queries : List (List Term)) (cs : List TakenColumn) (layout : List Archetype) (c : TakenColumn) → IsWrittenBy queries layout c → IsWrittenBy queries (with_back cs layout) c
written-back queries cs layout c h = written-same queries layout (with_back cs layout) c (kinds-at-back cs layout) h

-- and are at home where all that the queries pick is
pub written-home : (queries : List (List Term)) (layout : List Archetype) → AllByRecursion (λ query. ArePickedHome query layout) queries → (c : TakenColumn) → IsWrittenBy queries layout c → IsAt true layout c
written-home queries layout home c h =
    subst (λ n. column_home (archetype_at layout n) c.column.kind ≡ Some true) (let z : 0 + c.archetype ≡ c.archetype = omega arith in z)
    (from_picked h.query (λ n k. column_home (archetype_at layout n) k ≡ Some true) c.column.kind (writes-touches h.query c.column.kind h.writing) 0 c.archetype layout
    (each-in (λ query. ArePickedHome query layout) queries home h.query h.declared) h.matched h.held)

-- ---- a system starts

module _ (state : World) (layout : List Archetype) (others taken : List (List Column)) (held : AreOut (record { state = state; layout = layout }) others)
    (lent : AreLent (record { state = state; layout = with_away (lent_in taken) layout }) taken) (home : AllByRecursion (IsAt true layout) (lent_in taken)) where
  abbrev before : StoreValue
  before = record { state = state; layout = layout }

  abbrev after : StoreValue
  after = record { state = state; layout = with_away (lent_in taken) layout }

  still-lent : (c : TakenColumn) → IsLent before c → IsLent after c
  still-lent c h = record {
    away = away_later (lent_in taken) layout c.archetype c.column.kind h.away;
    cells_are = h.cells_are ∙ ap (λ es. column_cells state.slots es c.column.kind) (sym (entities_away (lent_in taken) layout c.archetype));
  }

  still-of : (c : Column) → IsOfEntities before c → IsOfEntities after c
  still-of c h = h ∙ sym (entities_away (lent_in taken) layout c.archetype)

  where-away : (n k : ℕ) → IsPlaceOf (lent_in taken) n k ⊎ (column_home (archetype_at layout n) k ≡ Some false) → IsPlaceOf (lent_in others ++ lent_in taken) n k
  where-away n k (inl found) = record { column = found.column; among = IsIn_right found.column (lent_in others) (lent_in taken) found.among; archetype_is = found.archetype_is; kind_is = found.kind_is }
  where-away n k (inr away) =
      let found = held.only n k away in
      record { column = found.column; among = IsIn_left found.column (lent_in others) (lent_in taken) found.among; archetype_is = found.archetype_is; kind_is = found.kind_is }

  -- what it takes is out beside what was
  pub out-opened : AreOut after (others ++ taken)
  out-opened = record {
    lent = record {
      each = subst (AllByRecursion (IsLent after)) (sym (lent_in-append others taken)) (each-append (IsLent after) (lent_in others) (lent_in taken) (each-weaker (IsLent before) (IsLent after) still-lent (lent_in others) held.lent.each) lent.each);
      once = subst AreOfOtherPlaces (sym (lent_in-append others taken))
          (apart-append (lent_in others) (lent_in taken) held.lent.once lent.once
          (each-weaker (IsLent before) (λ (x : TakenColumn). AllByRecursion (IsOther x) (lent_in taken))
          (λ x h. each-weaker (IsAt true layout) (IsOther x) (λ d at. not_both layout x d h.away at) (lent_in taken) home) (lent_in others) held.lent.each));
      entities_are = each-append (λ (cs : List Column). AllByRecursion (IsOfEntities after) cs) others taken
          (each-weaker (λ (cs : List Column). AllByRecursion (IsOfEntities before) cs) (λ (cs : List Column). AllByRecursion (IsOfEntities after) cs)
          (λ cs h. each-weaker (IsOfEntities before) (IsOfEntities after) still-of cs h) others held.lent.entities_are) lent.entities_are;
    };
    only = λ n k away. subst (λ cs. IsPlaceOf cs n k) (sym (lent_in-append others taken)) (where-away n k (away-from (lent_in taken) layout n k away));
  }

-- ---- a system ends

-- columns of two lists of which no two are of one place
record AreSplit (xs ys : List TakenColumn) : Type 0 where
  pub first : AreOfOtherPlaces xs
  pub second : AreOfOtherPlaces ys
  pub cross : (x y : TakenColumn) → IsIn x xs → IsIn y ys → IsOther x y

apart-split : (xs ys : List TakenColumn) → AreOfOtherPlaces (xs ++ ys) → AreSplit xs ys
apart-split [] ys h = record { first = tt; second = h; cross = λ x y i. absurd i }
apart-split (z ∷ xs) ys h =
    let more = apart-split xs ys h.1 in
    let parts = each-split (IsOther z) xs ys h.0 in
    record {
      first = (parts.0, more.first);
      second = more.second;
      cross = λ x y i j. go x y parts.1 more.cross j i;
    }
  where
    go : (x y : TakenColumn) → AllByRecursion (IsOther z) ys → ((a b : TakenColumn) → IsIn a xs → IsIn b ys → IsOther a b) → IsIn y ys → (x ≡ z) ⊎ IsIn x xs → IsOther x y
    go x y others cross j (inl same) = subst (λ a. IsOther a y) (sym same) (each-in (IsOther z) ys others y j)
    go x y others cross j (inr i) = cross x y i j

apart-join : (xs ys : List TakenColumn) → AreOfOtherPlaces xs → AreOfOtherPlaces ys → ((x y : TakenColumn) → IsIn x xs → IsIn y ys → IsOther x y) → AreOfOtherPlaces (xs ++ ys)
apart-join xs ys h k cross = apart-append xs ys h k (each-where (λ (x : TakenColumn). AllByRecursion (IsOther x) ys) xs (λ x i. each-where (IsOther x) ys (λ y j. cross x y i j)))

archetype-of : (layout : List Archetype) (n : ℕ) (e : Entity) → IsIn e (archetype_at layout n).entities → n < length layout
archetype-of [] n e h = absurd h
archetype-of (a ∷ layout) zero e h = omega arith
archetype-of (a ∷ layout) (suc n) e h = let l = archetype-of layout n e h in omega arith

generation-after : (tick : ℕ) (words : ℕ → ℕ → Option (List ℤ)) (slots : List Slot) (index : ℕ) → (get_or (slots_after tick words slots) index fresh_slot).generation ≡ (get_or slots index fresh_slot).generation
unfolding slots_after
generation-after tick words slots index = get_or-map_index-view (λ (slot : Slot). slot.generation) (λ i. slot_after tick (words i)) slots index fresh_slot (λ j slot. refl)

status-after : (tick : ℕ) (words : ℕ → ℕ → Option (List ℤ)) (slots : List Slot) (index : ℕ) → is_living (get_or (slots_after tick words slots) index fresh_slot).status ≡ is_living (get_or slots index fresh_slot).status
unfolding slots_after
status-after tick words slots index = get_or-map_index-view (λ (slot : Slot). is_living slot.status) (λ i. slot_after tick (words i)) slots index fresh_slot (λ j slot. refl)

alive-after : (tick : ℕ) (words : ℕ → ℕ → Option (List ℤ)) (slots : List Slot) (e : Entity) → is_alive (slots_after tick words slots) e ≡ is_alive slots e
alive-after tick words slots e = ap₂ (λ s g. s && (g == e.generation)) (status-after tick words slots e.index) (generation-after tick words slots e.index)

-- a cell at which nothing was written
cell-unwritten : (tick : ℕ) (words : ℕ → ℕ → Option (List ℤ)) (slots : List Slot) (e : Entity) (kind : ℕ) → words e.index kind ≡ None → cell_of (slots_after tick words slots) e kind ≡ cell_of slots e kind
cell-unwritten tick words slots e kind none =
    ap₂ (λ b (o : Option Cell). cond b o None) (alive-after tick words slots e)
    (cell_at-slots_after tick words slots e.index kind ∙ ap (λ (o : Option (List ℤ)). lookup_after tick o (cell_at (row_at slots e.index) kind)) none ∙ lookup_after-None tick (cell_at (row_at slots e.index) kind))

module _ (w : StoreValue) (tick : ℕ) (words : ℕ → ℕ → Option (List ℤ)) (front taken rest : List (List Column)) (laid : IsLayoutOf w.state.slots w.layout) (reach : AreReached w.layout (lent_in taken) words)
    (held : AreOut w (front ++ (taken ++ rest))) where
  abbrev once-more : StoreValue
  once-more = record { state = with_slots w.state (slots_after tick words w.state.slots); layout = with_back (lent_in taken) w.layout }

  -- nothing is written at a column of another place
  unwritten-at : (c : TakenColumn) (e : Entity) → ((d : TakenColumn) → IsIn d (lent_in taken) → IsOther d c) → IsIn e (archetype_at w.layout c.archetype).entities → words e.index c.column.kind ≡ None
  unwritten-at c e other i = go (words e.index c.column.kind) refl
    where
      there-in : (n : ℕ) (x : Entity) → IsIn x (archetype_at w.layout n).entities → list_any (λ y. is_same y x) (archetype_at w.layout n).entities ≡ true
      there-in n x j = list_any-IsIn (λ (y : Entity). is_same y x) x (archetype_at w.layout n).entities j (same_self x)

      go : (o : Option (List ℤ)) → words e.index c.column.kind ≡ o → words e.index c.column.kind ≡ None
      go None h = h
      go (Some written) h =
          let found = IsIn_from_any (λ (d : TakenColumn). has_index e.index (archetype_at w.layout d.archetype).entities && (c.column.kind == d.column.kind)) (lent_in taken) (reach e.index c.column.kind written h) in
          let d = found.0 in
          let parts = and_parts (has_index e.index (archetype_at w.layout d.archetype).entities) (c.column.kind == d.column.kind) found.2 in
          let holder = IsIn_from_any (λ (y : Entity). y.index == e.index) (archetype_at w.layout d.archetype).entities parts.0 in
          let mine = (laid.theirs c.archetype e (there-in c.archetype e i)).1 in
          let theirs = (laid.theirs d.archetype holder.0 (there-in d.archetype holder.0 holder.1)).1 in
          let kinds = sym theirs ∙ ap (λ n. map (λ x. x.kind) (row_at w.state.slots n)) (eqb-true holder.0.index e.index holder.2) ∙ mine in
          absurd (other d found.1
          (same-archetype w.layout d.archetype c.archetype laid.unlike (archetype-of w.layout d.archetype holder.0 holder.1) (archetype-of w.layout c.archetype e i) kinds)
          (sym (eqb-true c.column.kind d.column.kind parts.1)))

  still-away : (c : TakenColumn) → ((d : TakenColumn) → IsIn d (lent_in taken) → IsOther d c) → IsLent w c → IsLent once-more c
  still-away c other h = record {
    away = back-other (lent_in taken) w.layout c.archetype c.column.kind (each-where (λ (d : TakenColumn). d.archetype ≡ c.archetype → d.column.kind ≡ c.column.kind → ⊥) (lent_in taken) other) ∙ h.away;
    cells_are = h.cells_are
        ∙ sym (map-same (λ e. cell_of (slots_after tick words w.state.slots) e c.column.kind) (λ e. cell_of w.state.slots e c.column.kind) (archetype_at w.layout c.archetype).entities
        (λ e i. cell-unwritten tick words w.state.slots e c.column.kind (unwritten-at c e other i)))
        ∙ ap (λ es. column_cells (slots_after tick words w.state.slots) es c.column.kind) (sym (entities-back (lent_in taken) w.layout c.archetype));
  }

  all-of : lent_in (front ++ (taken ++ rest)) ≡ lent_in front ++ (lent_in taken ++ lent_in rest)
  all-of = lent_in-append front (taken ++ rest) ∙ ap (λ cs. lent_in front ++ cs) (lent_in-append taken rest)

  each-of-all : AllByRecursion (IsLent w) (lent_in front ++ (lent_in taken ++ lent_in rest))
  each-of-all = subst (AllByRecursion (IsLent w)) all-of held.lent.each

  outer : AreSplit (lent_in front) (lent_in taken ++ lent_in rest)
  outer = apart-split (lent_in front) (lent_in taken ++ lent_in rest) (subst AreOfOtherPlaces all-of held.lent.once)

  inner : AreSplit (lent_in taken) (lent_in rest)
  inner = apart-split (lent_in taken) (lent_in rest) outer.second

  still-front : (c : TakenColumn) → IsIn c (lent_in front) → IsLent once-more c
  still-front c i =
      still-away c (λ d j e f. outer.cross c d i (IsIn_left d (lent_in taken) (lent_in rest) j) (sym e) (sym f))
      (each-in (IsLent w) (lent_in front) (each-split (IsLent w) (lent_in front) (lent_in taken ++ lent_in rest) each-of-all).0 c i)

  still-rest : (c : TakenColumn) → IsIn c (lent_in rest) → IsLent once-more c
  still-rest c i =
      still-away c (λ d j. inner.cross d c j i)
      (each-in (IsLent w) (lent_in rest) (each-split (IsLent w) (lent_in taken) (lent_in rest) (each-split (IsLent w) (lent_in front) (lent_in taken ++ lent_in rest) each-of-all).1).1 c i)

  entities-still : (columns : List (List Column)) → AllByRecursion (λ (cs : List Column). AllByRecursion (IsOfEntities w) cs) columns → AllByRecursion (λ (cs : List Column). AllByRecursion (IsOfEntities once-more) cs) columns
  entities-still columns h = each-weaker (λ (cs : List Column). AllByRecursion (IsOfEntities w) cs) (λ (cs : List Column). AllByRecursion (IsOfEntities once-more) cs)
      (λ cs of_them. each-weaker (IsOfEntities w) (IsOfEntities once-more) (λ c e. e ∙ sym (entities-back (lent_in taken) w.layout c.archetype)) cs of_them) columns h

  still-only : (n k : ℕ) → AllByRecursion (λ (c : TakenColumn). c.archetype ≡ n → c.column.kind ≡ k → ⊥) (lent_in taken) → IsPlaceOf (lent_in front ++ (lent_in taken ++ lent_in rest)) n k → IsPlaceOf (lent_in front ++ lent_in rest) n k
  still-only n k other found = record {
    column = found.column;
    among = go (IsIn-append found.column (lent_in front) (lent_in taken ++ lent_in rest) found.among);
    archetype_is = found.archetype_is;
    kind_is = found.kind_is;
  }
    where
      further : IsIn found.column (lent_in taken) ⊎ IsIn found.column (lent_in rest) → IsIn found.column (lent_in front ++ lent_in rest)
      further (inl i) = absurd (each-in (λ (c : TakenColumn). c.archetype ≡ n → c.column.kind ≡ k → ⊥) (lent_in taken) other found.column i found.archetype_is found.kind_is)
      further (inr i) = IsIn_right found.column (lent_in front) (lent_in rest) i

      go : IsIn found.column (lent_in front) ⊎ IsIn found.column (lent_in taken ++ lent_in rest) → IsIn found.column (lent_in front ++ lent_in rest)
      go (inl i) = IsIn_left found.column (lent_in front) (lent_in rest) i
      go (inr i) = further (IsIn-append found.column (lent_in taken) (lent_in rest) i)

  -- what the others hold stays out
  pub out-closed : AreOut once-more (front ++ rest)
  out-closed =
      let entities = each-split (λ (cs : List Column). AllByRecursion (IsOfEntities w) cs) front (taken ++ rest) held.lent.entities_are in
      let later = each-split (λ (cs : List Column). AllByRecursion (IsOfEntities w) cs) taken rest entities.1 in
      record {
        lent = record {
          each = subst (AllByRecursion (IsLent once-more)) (sym (lent_in-append front rest))
              (each-append (IsLent once-more) (lent_in front) (lent_in rest) (each-where (IsLent once-more) (lent_in front) still-front) (each-where (IsLent once-more) (lent_in rest) still-rest));
          once = subst AreOfOtherPlaces (sym (lent_in-append front rest))
              (apart-join (lent_in front) (lent_in rest) outer.first inner.second (λ x y i j. outer.cross x y i (IsIn_right y (lent_in taken) (lent_in rest) j)));
          entities_are = each-append (λ (cs : List Column). AllByRecursion (IsOfEntities once-more) cs) front rest (entities-still front entities.0) (entities-still rest later.1);
        };
        only = λ n k away.
            let from = back-from (lent_in taken) w.layout n k away in
            subst (λ cs. IsPlaceOf cs n k) (sym (lent_in-append front rest)) (still-only n k from.1 (subst (λ cs. IsPlaceOf cs n k) all-of (held.only n k from.0)));
      }

-- ---- what is at home

flag-there : (ks : List ℕ) (k : ℕ) (homes : List Bool) → has k ks ≡ true → length homes ≡ length ks → (b : Bool) × (at_kind ks k homes ≡ Some b)
flag-there [] k homes h e = absurd (cc)
flag-there (n ∷ ks) k [] h e = absurd (cc)
flag-there (n ∷ ks) k (x ∷ homes) h e = go (n == k) refl h (λ there. flag-there ks k homes there (let l : suc (length homes) ≡ suc (length ks) = e in omega arith))
  where
    go : (b : Bool) → (n == k) ≡ b → b || has k ks ≡ true → (has k ks ≡ true → (c : Bool) × (at_kind ks k homes ≡ Some c)) → (c : Bool) × (at_kind (n ∷ ks) k (x ∷ homes) ≡ Some c)
    go true s there more = (x, ap (λ b. cond b (Some x) (at_kind ks k homes)) s)
    go false s there more = let c = more there in (c.0, ap (λ b. cond b (Some x) (at_kind ks k homes)) s ∙ c.1)

-- the column of a kind of an archetype is at home or away
column-there : (slots : List Slot) (layout : List Archetype) (n k : ℕ) → IsLayoutOf slots layout → has k (archetype_at layout n).kinds ≡ true → (b : Bool) × (column_home (archetype_at layout n) k ≡ Some b)
column-there slots layout n k laid there =
    flag-there (archetype_at layout n).kinds k (archetype_at layout n).homes there (archetype-fact IsArchetype layout n laid.each (has-within layout n k there)).shape.each

-- the kinds of an archetype may be there where those of each living entity may: the archetype has an entity, which lives with just them
laid-among : (there : Option (List ℕ)) (slots : List Slot) (layout : List Archetype) (n : ℕ) → IsLayoutOf slots layout → n < length layout → AllAmong there slots →
    IsAmong there (λ kind. has kind (archetype_at layout n).kinds)
laid-among there slots layout n laid within among = go (archetype_at layout n).entities refl (archetype-fact IsArchetype layout n laid.each within).peopled
  where
    go : (es : List Entity) → (archetype_at layout n).entities ≡ es → is_there es ≡ true → IsAmong there (λ kind. has kind (archetype_at layout n).kinds)
    go [] same h = absurd (cc)
    go (e ∷ es) same h =
        let first : list_any (λ x. is_same x e) (e ∷ es) ≡ true = or_left (is_same e e) (list_any (λ x. is_same x e) es) (same_self e) in
        let theirs = laid.theirs n e (ap (λ xs. list_any (λ x. is_same x e) xs) same ∙ first) in
        let slot = get_or slots e.index fresh_slot in
        let lives = (and_parts (is_living slot.status) (slot.generation == e.generation) theirs.0).0 in
        let kinds : kinds_of (row_at slots e.index) ≡ (λ kind. has kind (archetype_at layout n).kinds) =
        fun_ext (λ kind. sym (kinds-among (row_at slots e.index) kind) ∙ ap (has kind) theirs.1) in
        subst (IsAmong there) kinds (among e.index lives)

-- what a query picks is at home where no system that holds a column meets it, as far as the kinds of the living entities tell
pub home-apart : (there : Option (List ℕ)) (w : StoreValue) (held : List (List Column)) (params : Params) → IsLayoutOf w.state.slots w.layout → AllAmong there w.state.slots → AreOut w held →
    AllByRecursion (IsApartFrom there params w.layout) (lent_in held) → AllByRecursion (λ query. ArePickedHome query w.layout) params.queries
home-apart there w held params laid among are apart =
    each-where (λ query. ArePickedHome query w.layout) params.queries (λ query i.
    each-weaker (IsPickIn query w.layout) (λ (p : Picked). column_home (archetype_at w.layout p.archetype) p.kind ≡ Some true) (λ p here. one query i p here) (picks_of query w.layout) (picks-are query w.layout))
  where
    one : (query : List Term) → IsIn query params.queries → (p : Picked) → IsPickIn query w.layout p → column_home (archetype_at w.layout p.archetype) p.kind ≡ Some true
    one query i p here = go (column-there w.state.slots w.layout p.archetype p.kind laid here.held)
      where
        go : (b : Bool) × (column_home (archetype_at w.layout p.archetype) p.kind ≡ Some b) → column_home (archetype_at w.layout p.archetype) p.kind ≡ Some true
        go (true, h) = h
        go (false, h) =
            let found = are.only p.archetype p.kind h in
            let by = each-in (IsApartFrom there params w.layout) (lent_in held) apart found.column found.among in
            absurd (by.apart (
              OfKind p.kind,
              (
                by.written.query,
                query,
                by.written.declared,
                i,
                record {
                  kinds = λ kind. has kind (archetype_at w.layout p.archetype).kinds;
                  first_matches = subst (λ n. matches by.written.query (λ kind. has kind (archetype_at w.layout n).kinds) ≡ true) found.archetype_is by.written.matched;
                  second_matches = here.matched;
                  holds = here.held;
                  first_touches = ap (touches by.written.query) (sym found.kind_is) ∙ writes-touches by.written.query found.column.column.kind by.written.writing;
                  second_touches = here.touched;
                  one_writes = or_left (writes by.written.query p.kind) (writes query p.kind) (ap (writes by.written.query) (sym found.kind_is) ∙ by.written.writing);
                },
                laid-among there w.state.slots w.layout p.archetype laid (has-within w.layout p.archetype p.kind here.held) among,
              ),
            ))

-- where all columns are at home nothing is out, and the other way round
pub none-out : (w : StoreValue) → AreAllHome w.layout → AreOut w []
none-out w home = record {
  lent = record { each = tt; once = tt; entities_are = tt };
  only = λ n k away. absurd (not-away w.layout n k home away);
}
  where
    not-flag : (ks : List ℕ) (k : ℕ) (homes : List Bool) → list_all (λ home. home) homes ≡ true → at_kind ks k homes ≡ Some false → ⊥
    not-flag [] k homes h away = absurd (cc)
    not-flag (n ∷ ks) k [] h away = absurd (cc)
    not-flag (n ∷ ks) k (true ∷ homes) h away = go (n == k) away (not-flag ks k homes h)
      where
        go : (b : Bool) → cond b (Some true) (at_kind ks k homes) ≡ Some false → (at_kind ks k homes ≡ Some false → ⊥) → ⊥
        go true e more = absurd (cc)
        go false e more = more e
    not-flag (n ∷ ks) k (false ∷ homes) h away = absurd (cc)

    not-away : (layout : List Archetype) (n k : ℕ) → AreAllHome layout → column_home (archetype_at layout n) k ≡ Some false → ⊥
    not-away [] n k h away = absurd (cc)
    not-away (a ∷ layout) zero k h away = not-flag a.kinds k a.homes h.0 away
    not-away (a ∷ layout) (suc n) k h away = not-away layout n k h.1 away

above : (n k : ℕ) (ks : List ℕ) (homes : List Bool) → AllByRecursion (λ m. n < m) ks → at_kind ks k homes ≡ Some false → n < k
above n k [] homes h away = absurd (cc)
above n k (m ∷ ks) [] h away = absurd (cc)
above n k (m ∷ ks) (x ∷ homes) h away = go (m == k) refl away (above n k ks homes h.1)
  where
    go : (b : Bool) → (m == k) ≡ b → cond b (Some x) (at_kind ks k homes) ≡ Some false → (at_kind ks k homes ≡ Some false → n < k) → n < k
    go true e away more = subst (λ j. n < j) (eqb-true m k e) h.0
    go false e away more = more away

flags-home : (ks : List ℕ) (homes : List Bool) → AreBelow ks → length homes ≡ length ks → ((k : ℕ) → at_kind ks k homes ≡ Some false → ⊥) → list_all (λ home. home) homes ≡ true
flags-home ks [] below e none = refl
flags-home [] (x ∷ homes) below e none = absurd (omega (arith, e))
flags-home (n ∷ ks) (x ∷ homes) below e none =
    and_from x (list_all (λ home. home) homes) (first x (none n))
    (flags-home ks homes below.1 (let l : suc (length homes) ≡ suc (length ks) = e in omega arith)
    (λ k away. none k (ap (λ b. cond b (Some x) (at_kind ks k homes)) (apart-number k (above n k ks homes below.0 away)) ∙ away)))
  where
    apart-number : (k : ℕ) → n < k → (n == k) ≡ false
    apart-number k l = ne_eqb n k (λ same. omega arith)

    first : (b : Bool) → (cond (n == n) (Some b) (at_kind ks n homes) ≡ Some false → ⊥) → b ≡ true
    first true h = refl
    first false h = absurd (h (ap (λ c. cond c (Some false) (at_kind ks n homes)) (==-same n)))

pub all-home : (w : StoreValue) → IsLayoutOf w.state.slots w.layout → AreOut w [] → AreAllHome w.layout
all-home w laid are = each-home w.layout laid.each (λ n k away. (are.only n k away).among)
  where
    each-home : (layout : List Archetype) → AllByRecursion IsArchetype layout → ((n k : ℕ) → column_home (archetype_at layout n) k ≡ Some false → ⊥) → AreAllHome layout
    each-home [] h none = tt
    each-home (a ∷ layout) h none = (flags-home a.kinds a.homes h.0.shape.below h.0.shape.each (λ k. none zero k), each-home layout h.1 (λ n k. none (suc n) k))

-- ---- one of those that are out

-- what is out of one of them
pub lent-part : (w : StoreValue) (front taken rest : List (List Column)) → AreOut w (front ++ (taken ++ rest)) → AreLent w taken
lent-part w front taken rest held =
    let parts : lent_in (front ++ (taken ++ rest)) ≡ lent_in front ++ (lent_in taken ++ lent_in rest) = lent_in-append front (taken ++ rest) ∙ ap (λ cs. lent_in front ++ cs) (lent_in-append taken rest) in
    let each = (each-split (IsLent w) (lent_in front) (lent_in taken ++ lent_in rest) (subst (AllByRecursion (IsLent w)) parts held.lent.each)).1 in
    let apart = apart-split (lent_in front) (lent_in taken ++ lent_in rest) (subst AreOfOtherPlaces parts held.lent.once) in
    record {
      each = (each-split (IsLent w) (lent_in taken) (lent_in rest) each).0;
      once = (apart-split (lent_in taken) (lent_in rest) apart.second).first;
      entities_are = (each-split (λ (cs : List Column). AllByRecursion (IsOfEntities w) cs) taken rest (each-split (λ (cs : List Column). AllByRecursion (IsOfEntities w) cs) front (taken ++ rest) held.lent.entities_are).1).0;
    }

-- what is out stays out at another clock
pub out-same : (w v : StoreValue) (columns : List (List Column)) → v.state.slots ≡ w.state.slots → v.layout ≡ w.layout → AreOut w columns → AreOut v columns
out-same w v columns slots layout held = record {
  lent = record {
    each = each-weaker (IsLent w) (IsLent v) (λ c h. record {
      away = ap (λ l. column_home (archetype_at l c.archetype) c.column.kind) layout ∙ h.away;
      cells_are = h.cells_are ∙ ap₂ (λ xs l. column_cells xs (archetype_at l c.archetype).entities c.column.kind) (sym slots) (sym layout);
    }) (lent_in columns) held.lent.each;
    once = held.lent.once;
    entities_are = each-weaker (λ (cs : List Column). AllByRecursion (IsOfEntities w) cs) (λ (cs : List Column). AllByRecursion (IsOfEntities v) cs)
        (λ cs of_them. each-weaker (IsOfEntities w) (IsOfEntities v) (λ c e. e ∙ ap (λ l. (archetype_at l c.archetype).entities) (sym layout)) cs of_them) columns held.lent.entities_are;
  };
  only = λ n k away. held.only n k (ap (λ l. column_home (archetype_at l n) k) (sym layout) ∙ away);
}
