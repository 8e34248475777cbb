-- Columns that a world lends to the queries of a view come home.
use Rattle.std.proofs.Common.{◌≡◌, ℕ, zero, suc, ℤ, ◌≤◌, Bool, true, false, cond, ◌==◌, List, [], ◌∷◌, ◌++◌, length, map, Option, Some, None, refl, sym, ap, ap₂, subst, ◌∙◌, append_assoc, append-nil}
use Rattle.std.specs.List.{AllByRecursion}
use Rattle.std.proofs.lemmas.Bool.{eqb-true}
use Rattle.std.proofs.lemmas.List.{length-map, map-append}
use Rattle.model.specs.state.State.{Cell, World}
use Rattle.model.specs.state.Shape.{IsWorld}
use Rattle.model.specs.shown.Overlay.{cell_after}
use Rattle.model.specs.declared.entities.Entity.{Entity}
use Rattle.model.proofs.lists.Each.{each-weaker, each-append, each-map}
use Rattle.kinds.specs.Components.{widths}
use Rattle.column_store.specs.Kinds.{at_kind, update_kind}
use Rattle.archetype_store.specs.declared.columns.TakenColumn.{TakenColumn}
use Rattle.archetype_store.specs.Layout.{Archetype, archetype_at, column_home, with_home}
use Rattle.archetype_store.specs.Slot.{cell_of, column_cells}
use Rattle.archetype_store.specs.Store.{StoreValue, homed_in, IsPast}
use Rattle.archetype_store.specs.Lending.{all_home, IsAway, CanComeHome}
use Rattle.archetype_store.proofs.ColumnOverlays.{entities_home, entities_all_home}
use Rattle.archetype_store.proofs.ColumnLoans.{home_again, away_now, cells_past}
use Rattle.body.specs.Columns.{Column, cells_after, column_after}
use Rattle.body.specs.Sheet.{Sheet}
use Rattle.body.specs.Together.{words_of_sheet}
use Rattle.body.proofs.Gets.{each-split}
use Rattle.body.specs.Lent.{taken_of, lent_of, lent_in, columns_written, lent_after, with_away, with_back, AreOfOtherPlaces, IsLent, IsOfEntities, AreLent}

-- whether the place of a column is at home
abbrev pub IsAt : Bool → List Archetype → TakenColumn → Type 0
IsAt home layout c = column_home (archetype_at layout c.archetype) c.column.kind ≡ Some home

-- a column is of another place than this one
abbrev pub IsOther : TakenColumn → TakenColumn → Type 0
IsOther c d = c.archetype ≡ d.archetype → c.column.kind ≡ d.column.kind → ⊥

-- ---- flags of other places

at_other : (ks : List ℕ) (k j : ℕ) (b : Bool) (xs : List Bool) → (k ≡ j → ⊥) → at_kind ks j (update_kind ks k (λ _. b) xs) ≡ at_kind ks j xs
at_other [] k j b xs d = refl
at_other (n ∷ ks) k j b [] d = refl
at_other (n ∷ ks) k j b (x ∷ xs) d = go (n == k) (n == j) refl refl (at_other ks k j b xs d)
  where
    go : (s t : Bool) → (n == k) ≡ s → (n == j) ≡ t → at_kind ks j (update_kind ks k (λ _. b) xs) ≡ at_kind ks j xs →
        at_kind (n ∷ ks) j (cond s (b ∷ xs) (x ∷ update_kind ks k (λ _. b) xs)) ≡ cond t (Some x) (at_kind ks j xs)
    go true true e f more = absurd (d (sym (eqb-true n k e) ∙ eqb-true n j f))
    go true false e f more = ap (λ t. cond t (Some b) (at_kind ks j xs)) f
    go false true e f more = ap (λ t. cond t (Some x) (at_kind ks j (update_kind ks k (λ _. b) xs))) f
    go false false e f more = ap (λ t. cond t (Some x) (at_kind ks j (update_kind ks k (λ _. b) xs))) f ∙ more

pub home_other : (b : Bool) (n k m j : ℕ) (layout : List Archetype) → (n ≡ m → k ≡ j → ⊥) → column_home (archetype_at (with_home b n k layout) m) j ≡ column_home (archetype_at layout m) j
home_other b n k m j [] d = refl
home_other b zero k zero j (a ∷ rest) d = at_other a.kinds k j b a.homes (d refl)
home_other b zero k (suc m) j (a ∷ rest) d = refl
home_other b (suc n) k zero j (a ∷ rest) d = refl
home_other b (suc n) k (suc m) j (a ∷ rest) d = home_other b n k m j rest (λ e. d (ap suc e))

each_still : (home b : Bool) (n k : ℕ) (layout : List Archetype) (cs : List TakenColumn) → AllByRecursion (λ (d : TakenColumn). n ≡ d.archetype → k ≡ d.column.kind → ⊥) cs → AllByRecursion (IsAt home layout) cs →
    AllByRecursion (IsAt home (with_home b n k layout)) cs
each_still home b n k layout [] others h = tt
each_still home b n k layout (c ∷ cs) others h = (home_other b n k c.archetype c.column.kind layout others.0 ∙ h.0, each_still home b n k layout cs others.1 h.1)

-- what is away stays so where more goes away
still_away : (ks : List ℕ) (k j : ℕ) (xs : List Bool) → at_kind ks j xs ≡ Some false → at_kind ks j (update_kind ks k (λ _. false) xs) ≡ Some false
still_away [] k j xs h = h
still_away (n ∷ ks) k j [] h = h
still_away (n ∷ ks) k j (x ∷ xs) h = go (n == k) (n == j) refl h (still_away ks k j xs)
  where
    go : (s t : Bool) → (n == j) ≡ t → cond t (Some x) (at_kind ks j xs) ≡ Some false → (at_kind ks j xs ≡ Some false → at_kind ks j (update_kind ks k (λ _. false) xs) ≡ Some false) →
        at_kind (n ∷ ks) j (cond s (false ∷ xs) (x ∷ update_kind ks k (λ _. false) xs)) ≡ Some false
    go true true f h more = ap (λ t. cond t (Some false) (at_kind ks j xs)) f
    go true false f h more = ap (λ t. cond t (Some false) (at_kind ks j xs)) f ∙ h
    go false true f h more = ap (λ t. cond t (Some x) (at_kind ks j (update_kind ks k (λ _. false) xs))) f ∙ h
    go false false f h more = ap (λ t. cond t (Some x) (at_kind ks j (update_kind ks k (λ _. false) xs))) f ∙ more h

away_still : (n k m j : ℕ) (layout : List Archetype) → column_home (archetype_at layout m) j ≡ Some false → column_home (archetype_at (with_home false n k layout) m) j ≡ Some false
away_still n k m j [] h = h
away_still zero k zero j (a ∷ rest) h = still_away a.kinds k j a.homes h
away_still zero k (suc m) j (a ∷ rest) h = h
away_still (suc n) k zero j (a ∷ rest) h = h
away_still (suc n) k (suc m) j (a ∷ rest) h = away_still n k m j rest h

-- ---- layouts

-- columns that left come home
pub homes_back : (cs : List TakenColumn) (layout : List Archetype) → AllByRecursion (IsAt true layout) cs → AreOfOtherPlaces cs → with_back cs (with_away cs layout) ≡ layout
homes_back [] layout home others = refl
homes_back (c ∷ cs) layout home others =
    ap (with_home true c.archetype c.column.kind)
    (homes_back cs (with_home false c.archetype c.column.kind layout) (each_still true false c.archetype c.column.kind layout cs others.0 home.1) others.1)
    ∙ home_again c.archetype c.column.kind layout home.0

pub with_away-append : (xs ys : List TakenColumn) (layout : List Archetype) → with_away (xs ++ ys) layout ≡ with_away ys (with_away xs layout)
with_away-append [] ys layout = refl
with_away-append (x ∷ xs) ys layout = with_away-append xs ys (with_home false x.archetype x.column.kind layout)

pub entities_away : (cs : List TakenColumn) (layout : List Archetype) (m : ℕ) → (archetype_at (with_away cs layout) m).entities ≡ (archetype_at layout m).entities
entities_away [] layout m = refl
entities_away (c ∷ cs) layout m = entities_away cs (with_home false c.archetype c.column.kind layout) m ∙ entities_home false c.archetype c.column.kind m layout

pub away_later : (cs : List TakenColumn) (layout : List Archetype) (m j : ℕ) → column_home (archetype_at layout m) j ≡ Some false → column_home (archetype_at (with_away cs layout) m) j ≡ Some false
away_later [] layout m j h = h
away_later (c ∷ cs) layout m j h = away_later cs (with_home false c.archetype c.column.kind layout) m j (away_still c.archetype c.column.kind m j layout h)

-- columns that left are away
each_away : (cs : List TakenColumn) (layout : List Archetype) → AllByRecursion (IsAt true layout) cs → AreOfOtherPlaces cs → AllByRecursion (IsAt false (with_away cs layout)) cs
each_away [] layout home others = tt
each_away (c ∷ cs) layout home others = (
  away_later cs (with_home false c.archetype c.column.kind layout) c.archetype c.column.kind (away_now c.archetype c.column.kind layout home.0),
  each_away cs (with_home false c.archetype c.column.kind layout) (each_still true false c.archetype c.column.kind layout cs others.0 home.1) others.1,
)

-- ---- one after the other

-- the layout of a world once columns have come home
pub homes_layout : (cs : List TakenColumn) (w : StoreValue) → (all_home cs w).layout ≡ with_back cs w.layout
homes_layout [] w = refl
homes_layout (c ∷ cs) w = ap (with_home true c.archetype c.column.kind) (homes_layout cs w)

pub all_home-join : (xs ys : List TakenColumn) (w : StoreValue) → all_home (xs ++ ys) w ≡ all_home xs (all_home ys w)
all_home-join [] ys w = refl
all_home-join (x ∷ xs) ys w = ap (λ v. homed_in v x.archetype x.column.kind x.column.cells) (all_home-join xs ys w)

pub can_come-join : (xs ys : List TakenColumn) (w : StoreValue) → CanComeHome (xs ++ ys) w → CanComeHome ys w × CanComeHome xs (all_home ys w)
can_come-join [] ys w h = (h, tt)
can_come-join (x ∷ xs) ys w h = let more = can_come-join xs ys w h.0 in (more.0, (more.1, subst (λ v. IsAway v x) (all_home-join xs ys w) h.1))

-- ---- places

abbrev pub place_of : TakenColumn → TakenColumn
place_of c = record { archetype = c.archetype; column = record { kind = c.column.kind; cells = []; room = 0 } }

back_places : (cs : List TakenColumn) (layout : List Archetype) → with_back (map place_of cs) layout ≡ with_back cs layout
back_places [] layout = refl
back_places (c ∷ cs) layout = ap (with_home true c.archetype c.column.kind) (back_places cs layout)

others_from : (c : TakenColumn) (cs : List TakenColumn) → AllByRecursion (IsOther (place_of c)) (map place_of cs) → AllByRecursion (IsOther c) cs
others_from c [] h = tt
others_from c (d ∷ ds) h = (h.0, others_from c ds h.1)

places_apart : (cs : List TakenColumn) → AreOfOtherPlaces cs → AreOfOtherPlaces (map place_of cs)
places_apart [] h = tt
places_apart (c ∷ cs) h = (each-map (IsOther c) (IsOther (place_of c)) place_of (λ d other. other) cs h.0, places_apart cs h.1)

apart_places : (cs : List TakenColumn) → AreOfOtherPlaces (map place_of cs) → AreOfOtherPlaces cs
apart_places [] h = tt
apart_places (c ∷ cs) h = (others_from c cs h.0, apart_places cs h.1)

places_after : (tick : ℕ) (words : ℕ → ℕ → Option (List ℤ)) (cs : List Column) → map place_of (lent_of (map (column_after tick words) cs)) ≡ map place_of (lent_of cs)
places_after tick words [] = refl
places_after tick words (c ∷ cs) = go c.is_written (places_after tick words cs)
  where
    go : (b : Bool) → map place_of (lent_of (map (column_after tick words) cs)) ≡ map place_of (lent_of cs) →
        map place_of (cond b (taken_of (column_after tick words c) ∷ lent_of (map (column_after tick words) cs)) (lent_of (map (column_after tick words) cs)))
        ≡ map place_of (cond b (taken_of c ∷ lent_of cs) (lent_of cs))
    go true more = ap (λ xs. place_of (taken_of c) ∷ xs) more
    go false more = more

-- what was written moves no column
pub places_lent : (sheets : List Sheet) → map place_of (lent_after sheets) ≡ map place_of (lent_in (map (λ (s : Sheet). s.taken) sheets))
places_lent [] = refl
places_lent (s ∷ ss) =
    map-append place_of (lent_of (columns_written s)) (lent_after ss)
    ∙ ap₂ ◌++◌ (places_after s.tick (words_of_sheet s) s.taken) (places_lent ss)
    ∙ sym (map-append place_of (lent_of s.taken) (lent_in (map (λ (t : Sheet). t.taken) ss)))

-- the layout with columns home is the same after writes
pub back_after : (sheets : List Sheet) (layout : List Archetype) → with_back (lent_after sheets) layout ≡ with_back (lent_in (map (λ (s : Sheet). s.taken) sheets)) layout
back_after sheets layout =
    sym (back_places (lent_after sheets) layout)
    ∙ ap (λ xs. with_back xs layout) (places_lent sheets)
    ∙ back_places (lent_in (map (λ (s : Sheet). s.taken) sheets)) layout

after_apart : (sheets : List Sheet) → AreOfOtherPlaces (lent_in (map (λ (s : Sheet). s.taken) sheets)) → AreOfOtherPlaces (lent_after sheets)
after_apart sheets h = apart_places (lent_after sheets) (subst AreOfOtherPlaces (sym (places_lent sheets)) (places_apart (lent_in (map (λ (s : Sheet). s.taken) sheets)) h))

-- ---- what holds of each column after writes

module _ (P Q : TakenColumn → Type 0) (E : Column → Type 0) where
  each_of : (tick : ℕ) (words : ℕ → ℕ → Option (List ℤ)) → ((c : Column) → E c → P (taken_of c) → Q (taken_of (column_after tick words c))) → (cs : List Column) → AllByRecursion E cs → AllByRecursion P (lent_of cs) →
      AllByRecursion Q (lent_of (map (column_after tick words) cs))
  each_of tick words step [] e h = tt
  each_of tick words step (c ∷ cs) e h = go c.is_written h (step c e.0) (each_of tick words step cs e.1)
    where
      go : (b : Bool) → AllByRecursion P (cond b (taken_of c ∷ lent_of cs) (lent_of cs)) → (P (taken_of c) → Q (taken_of (column_after tick words c))) →
          (AllByRecursion P (lent_of cs) → AllByRecursion Q (lent_of (map (column_after tick words) cs))) →
          AllByRecursion Q (cond b (taken_of (column_after tick words c) ∷ lent_of (map (column_after tick words) cs)) (lent_of (map (column_after tick words) cs)))
      go true h one more = (one h.0, more h.1)
      go false h one more = more h

  -- where the ticks and the words are those of each query
  pub each_lent : (F : Sheet → Type 0) (ticks : Sheet → ℕ) (words : Sheet → ℕ → ℕ → Option (List ℤ)) → ((s : Sheet) (c : Column) → F s → E c → P (taken_of c) → Q (taken_of (column_after (ticks s) (words s) c))) →
      (sheets : List Sheet) → AllByRecursion F sheets → AllByRecursion (λ (cs : List Column). AllByRecursion E cs) (map (λ (s : Sheet). s.taken) sheets) → AllByRecursion P (lent_in (map (λ (s : Sheet). s.taken) sheets)) →
      AllByRecursion Q (lent_in (map (λ (s : Sheet). map (column_after (ticks s) (words s)) s.taken) sheets))
  each_lent F ticks words step [] f e h = tt
  each_lent F ticks words step (s ∷ ss) f e h =
      let parts = each-split P (lent_of s.taken) (lent_in (map (λ (t : Sheet). t.taken) ss)) h in
      each-append Q (lent_of (map (column_after (ticks s) (words s)) s.taken)) (lent_in (map (λ (t : Sheet). map (column_after (ticks t) (words t)) t.taken) ss))
      (each_of (ticks s) (words s) (λ c. step s c f.0) s.taken e.0 parts.0)
      (each_lent F ticks words step ss f.1 e.1 parts.1)

-- ---- they can come home

pub clock_kept : (cs : List TakenColumn) (w : StoreValue) → (all_home cs w).state.clock ≡ w.state.clock
clock_kept [] w = refl
clock_kept (c ∷ cs) w = clock_kept cs w

home_apart : (cs : List TakenColumn) (w : StoreValue) (c : TakenColumn) → AllByRecursion (IsOther c) cs → column_home (archetype_at (all_home cs w).layout c.archetype) c.column.kind ≡ column_home (archetype_at w.layout c.archetype) c.column.kind
home_apart [] w c others = refl
home_apart (d ∷ ds) w c others =
    home_other true d.archetype d.column.kind c.archetype c.column.kind (all_home ds w).layout (λ e f. others.0 (sym e) (sym f)) ∙ home_apart ds w c others.1

pub can_come-each : (cs : List TakenColumn) (w : StoreValue) → AllByRecursion (IsAway w) cs → AreOfOtherPlaces cs → CanComeHome cs w
can_come-each [] w h others = tt
can_come-each (c ∷ cs) w h others = (
  can_come-each cs w h.1 others.1,
  record {
    away = home_apart cs w c others.0 ∙ h.0.away;
    same_length = h.0.same_length ∙ ap length (sym (entities_all_home w cs c.archetype));
    past = subst (λ n. AllByRecursion (IsPast n) c.column.cells) (sym (clock_kept cs w)) h.0.past;
  },
)

length-cells_after : (tick : ℕ) (words : ℕ → ℕ → Option (List ℤ)) (kind : ℕ) (entities : List Entity) (cells : List Cell) → length (cells_after tick words kind entities cells) ≡ length cells
length-cells_after tick words kind entities [] = refl
length-cells_after tick words kind [] (c ∷ cs) = refl
length-cells_after tick words kind (e ∷ es) (c ∷ cs) = ap suc (length-cells_after tick words kind es cs)

cell_past : (clock tick : ℕ) (o : Option (List ℤ)) (c : Cell) → tick ≤ clock → IsPast clock c → IsPast clock (cell_after tick o c)
cell_past clock tick None c l h = h
cell_past clock tick (Some w) c l h = record { added = h.added; changed = l }

after_past : (clock tick : ℕ) (words : ℕ → ℕ → Option (List ℤ)) (kind : ℕ) (entities : List Entity) (cells : List Cell) → tick ≤ clock → AllByRecursion (IsPast clock) cells →
    AllByRecursion (IsPast clock) (cells_after tick words kind entities cells)
after_past clock tick words kind entities [] l h = tt
after_past clock tick words kind [] (c ∷ cs) l h = h
after_past clock tick words kind (e ∷ es) (c ∷ cs) l h = (cell_past clock tick (words e.index kind) c l h.0, after_past clock tick words kind es cs l h.1)

lent_away : (w : StoreValue) (tick : ℕ) (words : ℕ → ℕ → Option (List ℤ)) (c : Column) → IsWorld widths w.state → tick ≤ w.state.clock → IsLent w (taken_of c) → IsAway w (taken_of (column_after tick words c))
lent_away w tick words c world l h = record {
  away = h.away;
  same_length =
      length-cells_after tick words c.kind c.entities c.cells ∙ sym (length-map c.cells (λ cell. Some cell)) ∙ ap length h.cells_are
      ∙ length-map (archetype_at w.layout c.archetype).entities (λ e. cell_of w.state.slots e c.kind);
  past = after_past w.state.clock tick words c.kind c.entities c.cells l (cells_past w.state.clock w.state.slots c.kind (archetype_at w.layout c.archetype).entities c.cells world.slots h.cells_are);
}

pub can_come : (w : StoreValue) (tick : ℕ) (sheets : List Sheet) → IsWorld widths w.state → tick ≤ w.state.clock → AllByRecursion (λ (s : Sheet). s.tick ≡ tick) sheets →
    AreLent w (map (λ (s : Sheet). s.taken) sheets) → CanComeHome (lent_after sheets) w
can_come w tick sheets world l ticks lent =
    can_come-each (lent_after sheets) w
    (each_lent (IsLent w) (IsAway w) (IsOfEntities w) (λ (s : Sheet). s.tick ≡ tick) (λ s. s.tick) words_of_sheet
    (λ s c at of_it one. lent_away w s.tick (words_of_sheet s) c world (subst (λ t. t ≤ w.state.clock) (sym at) l) one)
    sheets ticks lent.entities_are lent.each)
    (after_apart sheets lent.once)

-- ---- one more query

pub lent_in-append : (xs ys : List (List Column)) → lent_in (xs ++ ys) ≡ lent_in xs ++ lent_in ys
lent_in-append [] ys = refl
lent_in-append (x ∷ xs) ys = ap (λ zs. lent_of x ++ zs) (lent_in-append xs ys) ∙ sym (append_assoc (lent_of x) (lent_in xs) (lent_in ys))

lent_in-more : (xs : List (List Column)) (columns : List Column) → lent_in (xs ++ columns ∷ []) ≡ lent_in xs ++ lent_of columns
lent_in-more xs columns = lent_in-append xs (columns ∷ []) ∙ ap (λ zs. lent_in xs ++ zs) (append-nil (lent_of columns))

pub apart-append : (xs ys : List TakenColumn) → AreOfOtherPlaces xs → AreOfOtherPlaces ys → AllByRecursion (λ (x : TakenColumn). AllByRecursion (IsOther x) ys) xs → AreOfOtherPlaces (xs ++ ys)
apart-append [] ys h k cross = k
apart-append (x ∷ xs) ys h k cross = (each-append (IsOther x) xs ys h.0 cross.0, apart-append xs ys h.1 k cross.1)

-- a place that is away is none that is at home
pub not_both : (layout : List Archetype) (c d : TakenColumn) → IsAt false layout c → IsAt true layout d → IsOther c d
not_both layout c d away home e f = let same = sym away ∙ ap₂ (λ m j. column_home (archetype_at layout m) j) e f ∙ home in (let clash : ⊥ = cc in clash)

module _ (state : World) (layout : List Archetype) (columns : List Column)
    (fit : AllByRecursion (λ (c : TakenColumn). (column_home (archetype_at layout c.archetype) c.column.kind ≡ Some true) × (map (λ cell. Some cell) c.column.cells ≡ column_cells state.slots (archetype_at layout c.archetype).entities c.column.kind)) (lent_of columns))
    (others : AreOfOtherPlaces (lent_of columns)) where
  abbrev before : StoreValue
  before = record { state = state; layout = layout }

  abbrev after : StoreValue
  after = record { state = state; layout = with_away (lent_of columns) layout }

  at_home : AllByRecursion (IsAt true layout) (lent_of columns)
  at_home = each-weaker (λ (c : TakenColumn). (column_home (archetype_at layout c.archetype) c.column.kind ≡ Some true) × (map (λ cell. Some cell) c.column.cells ≡ column_cells state.slots (archetype_at layout c.archetype).entities c.column.kind)) (IsAt true layout) (λ c h. h.0) (lent_of columns) fit

  cells_still : (c : TakenColumn) → map (λ cell. Some cell) c.column.cells ≡ column_cells state.slots (archetype_at layout c.archetype).entities c.column.kind →
      map (λ cell. Some cell) c.column.cells ≡ column_cells state.slots (archetype_at (with_away (lent_of columns) layout) c.archetype).entities c.column.kind
  cells_still c h = h ∙ ap (λ es. column_cells state.slots es c.column.kind) (sym (entities_away (lent_of columns) layout c.archetype))

  new_lent : (cs : List TakenColumn) → AllByRecursion (λ (c : TakenColumn). (column_home (archetype_at layout c.archetype) c.column.kind ≡ Some true) × (map (λ cell. Some cell) c.column.cells ≡ column_cells state.slots (archetype_at layout c.archetype).entities c.column.kind)) cs →
      AllByRecursion (IsAt false (with_away (lent_of columns) layout)) cs → AllByRecursion (IsLent after) cs
  new_lent [] h away = tt
  new_lent (c ∷ cs) h away = (record { away = away.0; cells_are = cells_still c h.0.1 }, new_lent cs h.1 away.1)

  old_lent : (c : TakenColumn) → IsLent before c → IsLent after c
  old_lent c h = record { away = away_later (lent_of columns) layout c.archetype c.column.kind h.away; cells_are = cells_still c h.cells_are }

  entities_still : (c : Column) → IsOfEntities before c → IsOfEntities after c
  entities_still c h = h ∙ sym (entities_away (lent_of columns) layout c.archetype)

  pub lent_more : (taken : List (List Column)) → AreLent before taken → AllByRecursion (IsOfEntities before) columns → AreLent after (taken ++ columns ∷ [])
  lent_more taken lent of_them = record {
    each = subst (AllByRecursion (IsLent after)) (sym (lent_in-more taken columns))
        (each-append (IsLent after) (lent_in taken) (lent_of columns)
        (each-weaker (IsLent before) (IsLent after) old_lent (lent_in taken) lent.each)
        (new_lent (lent_of columns) fit (each_away (lent_of columns) layout at_home others)));
    once = subst AreOfOtherPlaces (sym (lent_in-more taken columns))
        (apart-append (lent_in taken) (lent_of columns) lent.once others
        (each-weaker (IsLent before) (λ (x : TakenColumn). AllByRecursion (IsOther x) (lent_of columns))
        (λ x h. each-weaker (IsAt true layout) (IsOther x) (λ d home. not_both layout x d h.away home) (lent_of columns) at_home) (lent_in taken) lent.each));
    entities_are = each-append (λ (cs : List Column). AllByRecursion (IsOfEntities after) cs) taken (columns ∷ [])
        (each-weaker (λ (cs : List Column). AllByRecursion (IsOfEntities before) cs) (λ (cs : List Column). AllByRecursion (IsOfEntities after) cs)
        (λ cs h. each-weaker (IsOfEntities before) (IsOfEntities after) entities_still cs h) taken lent.entities_are)
        (each-weaker (IsOfEntities before) (IsOfEntities after) entities_still columns of_them, tt);
  }

-- one more query's columns go away
pub lent_next : (state : World) (layout : List Archetype) (taken : List (List Column)) (columns : List Column) → AreLent (record { state = state; layout = layout }) taken →
    AllByRecursion (λ (c : TakenColumn). (column_home (archetype_at layout c.archetype) c.column.kind ≡ Some true) × (map (λ cell. Some cell) c.column.cells ≡ column_cells state.slots (archetype_at layout c.archetype).entities c.column.kind)) (lent_of columns) →
    AreOfOtherPlaces (lent_of columns) → AllByRecursion (IsOfEntities (record { state = state; layout = layout })) columns →
    AreLent (record { state = state; layout = with_away (lent_of columns) layout }) (taken ++ columns ∷ [])
lent_next state layout taken columns lent fit others of_them = lent_more state layout columns fit others taken lent of_them
