-- The columns of the picks of a query, held one by one.
use Rattle.std.proofs.Common.{◌≡◌, ℕ, ◌+◌, ◌<◌, Bool, false, true, cond, List, [], ◌∷◌, ◌++◌, length, get_or, map, take, Some, refl, sym, ap, ap₂, ◌∙◌, subst, append_assoc, append-nil}
use Rattle.std.specs.List.{AllByRecursion}
use Rattle.std.specs.Arc.{arc_value}
use Rattle.std.proofs.lemmas.List.{map-append}
use Rattle.kinds.specs.Kind.{kind_number}
use Rattle.kinds.specs.Components.{widths}
use Rattle.model.specs.state.State.{Slot, World}
use Rattle.model.specs.state.Shape.{IsWorld}
use Rattle.model.proofs.lists.Each.{each-weaker}
use Rattle.archetype_store.specs.declared.columns.ColumnAt.{ColumnAt}
use Rattle.archetype_store.specs.declared.columns.TakenColumn.{TakenColumn}
use Rattle.archetype_store.specs.declared.columns.SharedColumn.{SharedColumn}
use Rattle.archetype_store.specs.Layout.{Archetype, archetype_at, column_home, with_home, IsLayoutOf}
use Rattle.archetype_store.specs.Lending.{CanTake, CanShare, CanComeHome, AreShared, all_away, all_home}
use Rattle.archetype_store.specs.Slot.{column_cells}
use Rattle.archetype_store.specs.Store.{StoreValue}
use Rattle.archetype_store.proofs.ColumnLoans.{back_again, taken_next, shared_next}
use Rattle.archetype_store.proofs.ColumnOverlays.{entities_home}
use Rattle.query_plan.specs.Picks.{Picked}
use Rattle.body.specs.Columns.{Column}
use Rattle.body.specs.Lent.{taken_of, lent_of, with_away}
use Rattle.body.specs.Picked.{Spot, spot_of, spot_seen, picked_own, picked_read, own_column, read_column, IsOtherSpot, AreOtherSpots, AreSpotsHome, AreOwnOf, AreReadOf, AreHeldOf}
use Rattle.body.proofs.Lendings.{home_other}
use Rattle.body.proofs.Pickings.{lent-held, can_share_read, own-than-read, away-taken, all-held}

-- ---- what is away

-- entities stay where columns leave
pub spot-entities : (ps : List ColumnAt) (layout : List Archetype) (m : ℕ) → (archetype_at (all_away ps layout) m).entities ≡ (archetype_at layout m).entities
spot-entities [] layout m = refl
spot-entities (p ∷ ps) layout m = spot-entities ps (with_home false p.archetype (kind_number p.kind) layout) m ∙ entities_home false p.archetype (kind_number p.kind) m layout

-- the own columns, without shared ones
pub lent-own : (w : StoreValue) (cs : List TakenColumn) → lent_of (map (own_column w) cs) ≡ cs
lent-own w cs = ap lent_of (sym (append-nil (map (own_column w) cs))) ∙ lent-held w cs []

lent-join : (cs ds : List Column) → lent_of (cs ++ ds) ≡ lent_of cs ++ lent_of ds
lent-join [] ds = refl
lent-join (c ∷ cs) ds = go c.is_written (lent-join cs ds)
  where
    go : (b : Bool) → lent_of (cs ++ ds) ≡ lent_of cs ++ lent_of ds → cond b (taken_of c ∷ lent_of (cs ++ ds)) (lent_of (cs ++ ds)) ≡ cond b (taken_of c ∷ lent_of cs) (lent_of cs) ++ lent_of ds
    go true e = ap (λ xs. taken_of c ∷ xs) e
    go false e = e

-- shared columns are not lent
pub lent-before : (w : StoreValue) (cs : List Column) (ds : List SharedColumn) → lent_of (cs ++ map (read_column w) ds) ≡ lent_of cs
lent-before w cs ds = lent-join cs (map (read_column w) ds) ∙ ap (λ xs. lent_of cs ++ xs) (lent-held w [] ds) ∙ append-nil (lent_of cs)

-- ---- own columns, one by one

pub own-none : (w : StoreValue) (columns : List Column) → columns ≡ [] → AreOwnOf w [] columns
own-none w columns e = record { taken = []; are = tt; held = e }

pub own-next : (w now : StoreValue) (ps : List ColumnAt) (i : ℕ) (p : ColumnAt) (columns : List Column) (c : TakenColumn) → i < length ps → p ≡ get_or ps i p → AreOwnOf w (take i ps) columns →
    now ≡ record { state = w.state; layout = all_away (take (i + 1) ps) w.layout } → c.archetype ≡ p.archetype → c.column.kind ≡ kind_number p.kind →
    map (λ cell. Some cell) c.column.cells ≡ column_cells w.state.slots (archetype_at (all_away (take i ps) w.layout) p.archetype).entities (kind_number p.kind) →
    AreOwnOf w (take (i + 1) ps) (columns ++ own_column now c ∷ [])
own-next w now ps i p columns c l is held away a k cells = record {
  taken = held.taken ++ c ∷ [];
  are = taken_next w.state.slots w.layout ps i p l is held.taken c held.are a k cells;
  held = ap₂ (λ xs es. xs ++ (let x : Column = record { archetype = c.archetype; entities = es; is_written = true; kind = c.column.kind; cells = c.column.cells; room = c.column.room } in x) ∷ []) held.held
      (ap (λ (v : StoreValue). (archetype_at v.layout c.archetype).entities) away ∙ spot-entities (take (i + 1) ps) w.layout c.archetype)
      ∙ sym (map-append (own_column w) held.taken (c ∷ []));
}

-- own columns come home, and the world is as it was
module _ (w now : StoreValue) (ps : List ColumnAt) (columns : List Column) (laid : IsLayoutOf w.state.slots w.layout) (world : IsWorld widths w.state) (can : CanTake w.layout ps) (held : AreOwnOf w ps columns)
    (away : now ≡ record { state = w.state; layout = all_away ps w.layout }) where
  pub own-can : CanComeHome (lent_of columns) now
  own-can =
      subst (CanComeHome (lent_of columns)) (sym away) (subst (λ cs. CanComeHome cs (record { state = w.state; layout = all_away ps w.layout })) (sym (ap lent_of held.held ∙ lent-own w held.taken))
      (back_again w.state world w.layout ps held.taken laid can held.are).1)

  pub own-back : all_home (lent_of columns) now ≡ w
  own-back =
      ap₂ all_home (ap lent_of held.held ∙ lent-own w held.taken) away ∙ (back_again w.state world w.layout ps held.taken laid can held.are).0

-- ---- shared columns, one by one

pub read-none : (w : StoreValue) (before columns : List Column) → columns ≡ before → AreReadOf w [] before columns
read-none w before columns e = record { shared = []; are = tt; held = e ∙ sym (append-nil before) }

pub read-next : (w now : StoreValue) (ps : List ColumnAt) (i : ℕ) (p : ColumnAt) (before columns : List Column) (c : SharedColumn) → i < length ps → p ≡ get_or ps i p → AreReadOf w (take i ps) before columns →
    now ≡ w → c.archetype ≡ p.archetype → (arc_value c.column).kind ≡ kind_number p.kind →
    map (λ cell. Some cell) (arc_value c.column).cells ≡ column_cells w.state.slots (archetype_at w.layout p.archetype).entities (kind_number p.kind) →
    AreReadOf w (take (i + 1) ps) before (columns ++ read_column now c ∷ [])
read-next w now ps i p before columns c l is held same a k cells = record {
  shared = held.shared ++ c ∷ [];
  are = shared_next w.state.slots w.layout ps i p l is held.shared c held.are a k cells;
  held = ap₂ (λ xs v. xs ++ read_column v c ∷ []) held.held same ∙ append_assoc before (map (read_column w) held.shared) (read_column w c ∷ []) ∙ ap (λ xs. before ++ xs) (sym (map-append (read_column w) held.shared (c ∷ [])));
}

pub read-lent : (w : StoreValue) (ps : List ColumnAt) (before columns : List Column) → AreReadOf w ps before columns → lent_of columns ≡ lent_of before
read-lent w ps before columns held = ap lent_of held.held ∙ lent-before w before held.shared

-- ---- what is read stays at home where what is written leaves

still-there : (ps : List ColumnAt) (layout : List Archetype) (n k : ℕ) → AllByRecursion (λ (p : ColumnAt). p.archetype ≡ n → kind_number p.kind ≡ k → ⊥) ps → column_home (archetype_at (all_away ps layout) n) k ≡ column_home (archetype_at layout n) k
still-there [] layout n k d = refl
still-there (p ∷ ps) layout n k d = still-there ps (with_home false p.archetype (kind_number p.kind) layout) n k d.1 ∙ home_other false p.archetype (kind_number p.kind) n k layout d.0

others-at : (own : List ColumnAt) (ps : List Picked) (r : ColumnAt) (q : Picked) → map spot_seen own ≡ map spot_of ps → spot_seen r ≡ spot_of q → AllByRecursion (λ p. IsOtherSpot p q) ps → AllByRecursion (λ (p : ColumnAt). p.archetype ≡ r.archetype → kind_number p.kind ≡ kind_number r.kind → ⊥) own
others-at [] ps r q e f d = tt
others-at (o ∷ own) [] r q e f d = absurd (cc)
others-at (o ∷ own) (p ∷ ps) r q e f d =
    let one : spot_seen o ≡ spot_of p = cc in
    let rest : map spot_seen own ≡ map spot_of ps = cc in (
      λ a k. d.0 (sym (ap (λ (s : Spot). s.archetype) one) ∙ a ∙ ap (λ (s : Spot). s.archetype) f) (sym (ap (λ (s : Spot). s.kind) one) ∙ k ∙ ap (λ (s : Spot). s.kind) f),
      others-at own ps r q rest f d.1,
    )

share-after : (layout : List Archetype) (own read : List ColumnAt) (ps qs : List Picked) → map spot_seen own ≡ map spot_of ps → map spot_seen read ≡ map spot_of qs → AllByRecursion (λ p. AllByRecursion (IsOtherSpot p) qs) ps → CanShare layout read → CanShare (all_away own layout) read
share-after layout own [] ps qs e f d h = tt
share-after layout own (r ∷ read) ps [] e f d h = absurd (cc)
share-after layout own (r ∷ read) ps (q ∷ qs) e f d h =
    let one : spot_seen r ≡ spot_of q = cc in
    let rest : map spot_seen read ≡ map spot_of qs = cc in (
      still-there own layout r.archetype (kind_number r.kind) (others-at own ps r q e one (each-weaker (λ p. AllByRecursion (IsOtherSpot p) (q ∷ qs)) (λ p. IsOtherSpot p q) (λ p x. x.0) ps d)) ∙ h.0,
      share-after layout own read ps qs e rest (each-weaker (λ p. AllByRecursion (IsOtherSpot p) (q ∷ qs)) (λ p. AllByRecursion (IsOtherSpot p) qs) (λ p x. x.1) ps d) h.1,
    )

pub can-share-after : (layout : List Archetype) (own read : List ColumnAt) (picks : List Picked) → map spot_seen own ≡ map spot_of (picked_own picks) → map spot_seen read ≡ map spot_of (picked_read picks) → AreSpotsHome layout picks → AreOtherSpots picks →
    CanShare (all_away own layout) read
can-share-after layout own read picks e f home others = share-after layout own read (picked_own picks) (picked_read picks) e f (own-than-read picks others) (can_share_read layout read picks f home)

-- ---- over another store with the same entities

shared-over : (slots : List Slot) (L M : List Archetype) → ((m : ℕ) → (archetype_at L m).entities ≡ (archetype_at M m).entities) → (ps : List ColumnAt) (ds : List SharedColumn) → AreShared slots L ps ds → AreShared slots M ps ds
shared-over slots L M same [] [] h = tt
shared-over slots L M same [] (d ∷ ds) h = absurd h
shared-over slots L M same (p ∷ ps) [] h = absurd h
shared-over slots L M same (p ∷ ps) (d ∷ ds) h = (
  record { archetype_is = h.0.archetype_is; kind_is = h.0.kind_is; cells_are = h.0.cells_are ∙ ap (λ es. column_cells slots es (kind_number p.kind)) (same p.archetype) },
  shared-over slots L M same ps ds h.1,
)

read-over : (w v : StoreValue) → ((m : ℕ) → (archetype_at v.layout m).entities ≡ (archetype_at w.layout m).entities) → (ds : List SharedColumn) → map (read_column v) ds ≡ map (read_column w) ds
read-over w v same [] = refl
read-over w v same (d ∷ ds) =
    ap₂ (λ es xs. (let x : Column = record { archetype = d.archetype; entities = es; is_written = false; kind = (arc_value d.column).kind; cells = (arc_value d.column).cells; room = (arc_value d.column).room } in x) ∷ xs) (same d.archetype) (read-over w v same ds)

-- both of a store: the own ones are away where the others are shared
pub held-both : (w now : StoreValue) (own read : List ColumnAt) (before columns : List Column) → AreOwnOf w own before → now ≡ record { state = w.state; layout = all_away own w.layout } → AreReadOf now read before columns → AreReadOf w read before columns
held-both w now own read before columns first away held =
    let same : (m : ℕ) → (archetype_at now.layout m).entities ≡ (archetype_at w.layout m).entities = λ m. ap (λ (v : StoreValue). (archetype_at v.layout m).entities) away ∙ spot-entities own w.layout m in
    record {
      shared = held.shared;
      are = shared-over w.state.slots now.layout w.layout same read held.shared (subst (λ (s : World). AreShared s.slots now.layout read held.shared) (ap (λ (v : StoreValue). v.state) away) held.are);
      held = held.held ∙ ap (λ xs. before ++ xs) (read-over w now same held.shared);
    }

-- so they are the columns of the picks
pub held-of : (w now : StoreValue) (own read : List ColumnAt) (picks : List Picked) (before columns : List Column) → map spot_seen own ≡ map spot_of (picked_own picks) → map spot_seen read ≡ map spot_of (picked_read picks) → AreOwnOf w own before →
    now ≡ record { state = w.state; layout = all_away own w.layout } → AreReadOf now read before columns → AreHeldOf w (picked_own picks ++ picked_read picks) columns
held-of w now own read picks before columns o r first away second =
    let both = held-both w now own read before columns first away second in
    let is : columns ≡ map (own_column w) first.taken ++ map (read_column w) both.shared = both.held ∙ ap (λ xs. xs ++ map (read_column w) both.shared) first.held in
    subst (AreHeldOf w (picked_own picks ++ picked_read picks)) (sym is) (all-held w w (λ m. refl) own read picks first.taken both.shared o r first.are both.are)

-- and what is away is what they lend
pub away-of : (w now : StoreValue) (own read : List ColumnAt) (before columns : List Column) → AreOwnOf w own before → AreReadOf now read before columns → all_away own w.layout ≡ with_away (lent_of columns) w.layout
away-of w now own read before columns first second =
    away-taken w.state.slots w.layout w.layout own first.taken first.are
    ∙ ap (λ xs. with_away xs w.layout) (sym (read-lent now read before columns second ∙ ap lent_of first.held ∙ lent-own w first.taken))
