-- The columns that a query picks, as they are taken of a world and shared by it.
use Rattle.std.proofs.Common.{◌≡◌, ℕ, zero, suc, ◌+◌, ◌<◌, Bool, true, false, cond, ◌==◌, List, [], ◌∷◌, ◌++◌, length, get_or, map, take, slice_get, Some, refl, sym, ap, ap₂, ◌∙◌, subst, arith}
use Rattle.std.specs.List.{AllByRecursion}
use Rattle.std.proofs.lemmas.List.{append-nil, map-append, take_more}
use Rattle.std.proofs.lemmas.Bool.{or_left, or_right}
use Rattle.kinds.specs.Kind.{kind_number}
use Rattle.model.specs.Lists.{has}
use Rattle.model.specs.state.State.{Slot}
use Rattle.model.specs.access.Query.{Term, matches, touches, writes}
use Rattle.model.proofs.lists.Each.{each-append, each-weaker}
use Rattle.column_store.specs.Kinds.{AreBelow}
use Rattle.archetype_store.specs.declared.columns.ColumnAt.{ColumnAt}
use Rattle.archetype_store.specs.declared.columns.TakenColumn.{TakenColumn}
use Rattle.archetype_store.specs.declared.columns.SharedColumn.{SharedColumn}
use Rattle.archetype_store.specs.Layout.{Archetype, archetype_at, column_home, with_home, IsArchetype, IsLayoutOf}
use Rattle.archetype_store.specs.Lending.{CanTake, CanShare, AreTaken, AreShared, all_away}
use Rattle.archetype_store.specs.Slot.{column_cells}
use Rattle.archetype_store.specs.Store.{StoreValue}
use Rattle.query_plan.specs.declared.picks.Pick.{Pick}
use Rattle.query_plan.specs.Picks.{Picked, pick_seen, picked_in, picked_of, picked_from, picks_of}
use Rattle.query_plan.proofs.PickedHome.{from_picked}
use Rattle.model.proofs.lists.Lists.{==-same as same-number}
use Rattle.body.specs.Columns.{Column}
use Rattle.body.specs.Lent.{lent_of, with_away}
use Rattle.body.specs.Opened.{IsPickedOf, ArePickedOf}
use Rattle.body.specs.Picked.{Spot, spot_of, spot_seen, picked_own, picked_read, IsOtherSpot, AreOtherSpots, AreSpotsHome, own_column, read_column, IsHeldOf, AreHeldOf}
use Rattle.body.specs.Planned.{IsAmong}
use Rattle.body.proofs.Gets.{same-some}
use Rattle.body.proofs.Lendings.{home_other}

-- ---- picks that are written, and others

each-own : (P : Picked → Type 0) (ps : List Picked) → AllByRecursion P ps → AllByRecursion P (picked_own ps)
each-own P [] h = tt
each-own P (p ∷ ps) h = go p.is_written (each-own P ps h.1)
  where
    go : (b : Bool) → AllByRecursion P (picked_own ps) → AllByRecursion P (cond b (p ∷ picked_own ps) (picked_own ps))
    go true more = (h.0, more)
    go false more = more

each-read : (P : Picked → Type 0) (ps : List Picked) → AllByRecursion P ps → AllByRecursion P (picked_read ps)
each-read P [] h = tt
each-read P (p ∷ ps) h = go p.is_written (each-read P ps h.1)
  where
    go : (b : Bool) → AllByRecursion P (picked_read ps) → AllByRecursion P (cond b (picked_read ps) (p ∷ picked_read ps))
    go true more = more
    go false more = (h.0, more)

own-written : (ps : List Picked) → AllByRecursion (λ (p : Picked). p.is_written ≡ true) (picked_own ps)
own-written [] = tt
own-written (p ∷ ps) = go p.is_written refl (own-written ps)
  where
    go : (b : Bool) → p.is_written ≡ b → AllByRecursion (λ (q : Picked). q.is_written ≡ true) (picked_own ps) → AllByRecursion (λ (q : Picked). q.is_written ≡ true) (cond b (p ∷ picked_own ps) (picked_own ps))
    go true e more = (e, more)
    go false e more = more

read-unwritten : (ps : List Picked) → AllByRecursion (λ (p : Picked). p.is_written ≡ false) (picked_read ps)
read-unwritten [] = tt
read-unwritten (p ∷ ps) = go p.is_written refl (read-unwritten ps)
  where
    go : (b : Bool) → p.is_written ≡ b → AllByRecursion (λ (q : Picked). q.is_written ≡ false) (picked_read ps) → AllByRecursion (λ (q : Picked). q.is_written ≡ false) (cond b (picked_read ps) (p ∷ picked_read ps))
    go true e more = more
    go false e more = (e, more)

-- what holds of both holds of all
each-back : (P : Picked → Type 0) (ps : List Picked) → AllByRecursion P (picked_own ps) → AllByRecursion P (picked_read ps) → AllByRecursion P ps
each-back P [] own read = tt
each-back P (p ∷ ps) own read = go p.is_written own read (each-back P ps)
  where
    go : (b : Bool) → AllByRecursion P (cond b (p ∷ picked_own ps) (picked_own ps)) → AllByRecursion P (cond b (picked_read ps) (p ∷ picked_read ps)) →
        (AllByRecursion P (picked_own ps) → AllByRecursion P (picked_read ps) → AllByRecursion P ps) → AllByRecursion P (p ∷ ps)
    go true own read more = (own.0, more own.1 read)
    go false own read more = (read.0, more own read.1)

others-own : (ps : List Picked) → AreOtherSpots ps → AreOtherSpots (picked_own ps)
others-own [] h = tt
others-own (p ∷ ps) h = go p.is_written (others-own ps h.1)
  where
    go : (b : Bool) → AreOtherSpots (picked_own ps) → AreOtherSpots (cond b (p ∷ picked_own ps) (picked_own ps))
    go true more = (each-own (IsOtherSpot p) ps h.0, more)
    go false more = more

others-read : (ps : List Picked) → AreOtherSpots ps → AreOtherSpots (picked_read ps)
others-read [] h = tt
others-read (p ∷ ps) h = go p.is_written (others-read ps h.1)
  where
    go : (b : Bool) → AreOtherSpots (picked_read ps) → AreOtherSpots (cond b (picked_read ps) (p ∷ picked_read ps))
    go true more = more
    go false more = (each-read (IsOtherSpot p) ps h.0, more)

own-append : (ps qs : List Picked) → picked_own (ps ++ qs) ≡ picked_own ps ++ picked_own qs
own-append [] qs = refl
own-append (p ∷ ps) qs = go p.is_written (own-append ps qs)
  where
    go : (b : Bool) → picked_own (ps ++ qs) ≡ picked_own ps ++ picked_own qs → cond b (p ∷ picked_own (ps ++ qs)) (picked_own (ps ++ qs)) ≡ cond b (p ∷ picked_own ps) (picked_own ps) ++ picked_own qs
    go true e = ap (λ xs. p ∷ xs) e
    go false e = e

read-append : (ps qs : List Picked) → picked_read (ps ++ qs) ≡ picked_read ps ++ picked_read qs
read-append [] qs = refl
read-append (p ∷ ps) qs = go p.is_written (read-append ps qs)
  where
    go : (b : Bool) → picked_read (ps ++ qs) ≡ picked_read ps ++ picked_read qs → cond b (picked_read (ps ++ qs)) (p ∷ picked_read (ps ++ qs)) ≡ cond b (picked_read ps) (p ∷ picked_read ps) ++ picked_read qs
    go true e = e
    go false e = ap (λ xs. p ∷ xs) e

-- one more pick
module _ (picks : List Pick) (i : ℕ) (p : Pick) (l : i < length picks) (is : p ≡ get_or picks i p) where
  so-far : map pick_seen (take (i + 1) picks) ≡ map pick_seen (take i picks) ++ pick_seen p ∷ []
  so-far = ap (map pick_seen) (take_more picks i p l ∙ ap (λ x. take i picks ++ x ∷ []) (sym is)) ∙ map-append pick_seen (take i picks) (p ∷ [])

  one-own : (b : Bool) → p.is_written ≡ b → picked_own (pick_seen p ∷ []) ≡ cond b (pick_seen p ∷ []) []
  one-own b e = ap (λ t. cond t (pick_seen p ∷ []) []) e

  one-read : (b : Bool) → p.is_written ≡ b → picked_read (pick_seen p ∷ []) ≡ cond b [] (pick_seen p ∷ [])
  one-read b e = ap (λ t. cond t [] (pick_seen p ∷ [])) e

  own-next : (b : Bool) (xs ys : List Spot) → p.is_written ≡ b → xs ≡ map spot_of (picked_own (map pick_seen (take i picks))) → ys ≡ xs ++ cond b (spot_of (pick_seen p) ∷ []) [] → ys ≡ map spot_of (picked_own (map pick_seen (take (i + 1) picks)))
  own-next b xs ys e h y =
      y ∙ ap₂ ◌++◌ h (spots b)
      ∙ sym (ap (λ ps. map spot_of (picked_own ps)) so-far ∙ ap (map spot_of) (own-append (map pick_seen (take i picks)) (pick_seen p ∷ [])) ∙ map-append spot_of (picked_own (map pick_seen (take i picks))) (picked_own (pick_seen p ∷ []))
      ∙ ap (λ ps. map spot_of (picked_own (map pick_seen (take i picks))) ++ map spot_of ps) (one-own b e))
    where
      spots : (t : Bool) → cond t (spot_of (pick_seen p) ∷ []) [] ≡ map spot_of (cond t (pick_seen p ∷ []) [])
      spots true = refl
      spots false = refl

  read-next : (b : Bool) (xs ys : List Spot) → p.is_written ≡ b → xs ≡ map spot_of (picked_read (map pick_seen (take i picks))) → ys ≡ xs ++ cond b [] (spot_of (pick_seen p) ∷ []) → ys ≡ map spot_of (picked_read (map pick_seen (take (i + 1) picks)))
  read-next b xs ys e h y =
      y ∙ ap₂ ◌++◌ h (spots b)
      ∙ sym (ap (λ ps. map spot_of (picked_read ps)) so-far ∙ ap (map spot_of) (read-append (map pick_seen (take i picks)) (pick_seen p ∷ [])) ∙ map-append spot_of (picked_read (map pick_seen (take i picks))) (picked_read (pick_seen p ∷ []))
      ∙ ap (λ ps. map spot_of (picked_read (map pick_seen (take i picks))) ++ map spot_of ps) (one-read b e))
    where
      spots : (t : Bool) → cond t [] (spot_of (pick_seen p) ∷ []) ≡ map spot_of (cond t [] (pick_seen p ∷ []))
      spots true = refl
      spots false = refl

  pub own-pushed : (own new : List ColumnAt) → p.is_written ≡ true → map spot_seen own ≡ map spot_of (picked_own (map pick_seen (take i picks))) → new ≡ own ++ record { archetype = p.archetype; kind = p.kind } ∷ [] →
      map spot_seen new ≡ map spot_of (picked_own (map pick_seen (take (i + 1) picks)))
  own-pushed own new e h n = own-next true (map spot_seen own) (map spot_seen new) e h (ap (map spot_seen) n ∙ map-append spot_seen own _)

  pub own-passed : (own : List ColumnAt) → p.is_written ≡ false → map spot_seen own ≡ map spot_of (picked_own (map pick_seen (take i picks))) → map spot_seen own ≡ map spot_of (picked_own (map pick_seen (take (i + 1) picks)))
  own-passed own e h = own-next false (map spot_seen own) (map spot_seen own) e h (sym (append-nil (map spot_seen own)))

  pub read-pushed : (read new : List ColumnAt) → p.is_written ≡ false → map spot_seen read ≡ map spot_of (picked_read (map pick_seen (take i picks))) → new ≡ read ++ record { archetype = p.archetype; kind = p.kind } ∷ [] →
      map spot_seen new ≡ map spot_of (picked_read (map pick_seen (take (i + 1) picks)))
  read-pushed read new e h n = read-next false (map spot_seen read) (map spot_seen new) e h (ap (map spot_seen) n ∙ map-append spot_seen read _)

  pub read-passed : (read : List ColumnAt) → p.is_written ≡ true → map spot_seen read ≡ map spot_of (picked_read (map pick_seen (take i picks))) → map spot_seen read ≡ map spot_of (picked_read (map pick_seen (take (i + 1) picks)))
  read-passed read e h = read-next true (map spot_seen read) (map spot_seen read) e h (sym (append-nil (map spot_seen read)))

-- each of some is another than each of others
abbrev AreOthersThan : List Picked → List Picked → Type 0
AreOthersThan ps qs = AllByRecursion (λ p. AllByRecursion (IsOtherSpot p) qs) ps

others-append : (ps qs : List Picked) → AreOtherSpots ps → AreOtherSpots qs → AreOthersThan ps qs → AreOtherSpots (ps ++ qs)
others-append [] qs h k c = k
others-append (p ∷ ps) qs h k c = (each-append (IsOtherSpot p) ps qs h.0 c.0, others-append ps qs h.1 k c.1)

turned : (p : Picked) (qs : List Picked) → AllByRecursion (IsOtherSpot p) qs → AllByRecursion (λ q. IsOtherSpot q p) qs
turned p qs h = each-weaker (IsOtherSpot p) (λ q. IsOtherSpot q p) (λ q d a k. d (sym a) (sym k)) qs h

one-more : (p : Picked) (ps qs : List Picked) → AllByRecursion (λ q. IsOtherSpot q p) ps → AreOthersThan ps qs → AreOthersThan ps (p ∷ qs)
one-more p [] qs h k = tt
one-more p (x ∷ ps) qs h k = ((h.0, k.0), one-more p ps qs h.1 k.1)

pub own-than-read : (ps : List Picked) → AreOtherSpots ps → AreOthersThan (picked_own ps) (picked_read ps)
own-than-read [] h = tt
own-than-read (p ∷ ps) h = go p.is_written (own-than-read ps h.1)
  where
    go : (b : Bool) → AreOthersThan (picked_own ps) (picked_read ps) → AreOthersThan (cond b (p ∷ picked_own ps) (picked_own ps)) (cond b (picked_read ps) (p ∷ picked_read ps))
    go true more = (each-read (IsOtherSpot p) ps h.0, more)
    go false more = one-more p (picked_own ps) (picked_read ps) (turned p (picked_own ps) (each-own (IsOtherSpot p) ps h.0)) more

others-split : (ps : List Picked) → AreOtherSpots ps → AreOtherSpots (picked_own ps ++ picked_read ps)
others-split ps h = others-append (picked_own ps) (picked_read ps) (others-own ps h) (others-read ps h) (own-than-read ps h)

-- ---- what may be taken and shared

spots-away : (n k : ℕ) (layout : List Archetype) (ps : List Picked) → AllByRecursion (λ (q : Picked). n ≡ q.archetype → k ≡ q.kind → ⊥) ps → AreSpotsHome layout ps → AreSpotsHome (with_home false n k layout) ps
spots-away n k layout [] d h = tt
spots-away n k layout (p ∷ ps) d h = (home_other false n k p.archetype p.kind layout d.0 ∙ h.0, spots-away n k layout ps d.1 h.1)

can_take_spots : (layout : List Archetype) (ps : List ColumnAt) (picks : List Picked) → map spot_seen ps ≡ map spot_of picks → AreSpotsHome layout picks → AreOtherSpots picks → CanTake layout ps
can_take_spots layout [] picks e h d = tt
can_take_spots layout (p ∷ ps) [] e h d = absurd (cc)
can_take_spots layout (p ∷ ps) (q ∷ picks) e h d =
    let one : spot_seen p ≡ spot_of q = cc in
    let rest : map spot_seen ps ≡ map spot_of picks = cc in
    let a = ap (λ (s : Spot). s.archetype) one in
    let k = ap (λ (s : Spot). s.kind) one in (
      ap₂ (λ n j. column_home (archetype_at layout n) j) a k ∙ h.0,
      can_take_spots (with_home false p.archetype (kind_number p.kind) layout) ps picks rest
          (spots-away p.archetype (kind_number p.kind) layout picks (each-weaker (IsOtherSpot q) (λ (r : Picked). p.archetype ≡ r.archetype → kind_number p.kind ≡ r.kind → ⊥) (λ r f x y. f (sym a ∙ x) (sym k ∙ y)) picks d.0) h.1) d.1,
    )

pub can_take_own : (layout : List Archetype) (ps : List ColumnAt) (picks : List Picked) → map spot_seen ps ≡ map spot_of (picked_own picks) → AreSpotsHome layout picks → AreOtherSpots picks → CanTake layout ps
can_take_own layout ps picks e h d =
    can_take_spots layout ps (picked_own picks) e (each-own (λ (p : Picked). column_home (archetype_at layout p.archetype) p.kind ≡ Some true) picks h) (others-own picks d)

can_share_spots : (layout : List Archetype) (ps : List ColumnAt) (picks : List Picked) → map spot_seen ps ≡ map spot_of picks → AreSpotsHome layout picks → CanShare layout ps
can_share_spots layout [] picks e h = tt
can_share_spots layout (p ∷ ps) [] e h = absurd (cc)
can_share_spots layout (p ∷ ps) (q ∷ picks) e h =
    let one : spot_seen p ≡ spot_of q = cc in
    let rest : map spot_seen ps ≡ map spot_of picks = cc in
    (ap (λ (s : Spot). column_home (archetype_at layout s.archetype) s.kind) one ∙ h.0, can_share_spots layout ps picks rest h.1)

pub can_share_read : (layout : List Archetype) (ps : List ColumnAt) (picks : List Picked) → map spot_seen ps ≡ map spot_of (picked_read picks) → AreSpotsHome layout picks → CanShare layout ps
can_share_read layout ps picks e h = can_share_spots layout ps (picked_read picks) e (each-read (λ (p : Picked). column_home (archetype_at layout p.archetype) p.kind ≡ Some true) picks h)

-- ---- what was taken and shared

pub taken-many : (slots : List Slot) (layout : List Archetype) (ps : List ColumnAt) (cs : List TakenColumn) → AreTaken slots layout ps cs → length cs ≡ length ps
taken-many slots layout [] [] h = refl
taken-many slots layout [] (c ∷ cs) h = absurd h
taken-many slots layout (p ∷ ps) [] h = absurd h
taken-many slots layout (p ∷ ps) (c ∷ cs) h = ap suc (taken-many slots layout ps cs h.1)

pub shared-many : (slots : List Slot) (layout : List Archetype) (ps : List ColumnAt) (cs : List SharedColumn) → AreShared slots layout ps cs → length cs ≡ length ps
shared-many slots layout [] [] h = refl
shared-many slots layout [] (c ∷ cs) h = absurd h
shared-many slots layout (p ∷ ps) [] h = absurd h
shared-many slots layout (p ∷ ps) (c ∷ cs) h = ap suc (shared-many slots layout ps cs h.1)

-- the layout with them away
pub away-taken : (slots : List Slot) (before layout : List Archetype) (ps : List ColumnAt) (cs : List TakenColumn) → AreTaken slots before ps cs → all_away ps layout ≡ with_away cs layout
away-taken slots before layout [] [] h = refl
away-taken slots before layout [] (c ∷ cs) h = absurd h
away-taken slots before layout (p ∷ ps) [] h = absurd h
away-taken slots before layout (p ∷ ps) (c ∷ cs) h =
    away-taken slots before (with_home false p.archetype (kind_number p.kind) layout) ps cs h.1 ∙ ap₂ (λ n k. with_away cs (with_home false n k layout)) (sym h.0.archetype_is) (sym h.0.kind_is)

module _ (w v : StoreValue) (same : (m : ℕ) → (archetype_at v.layout m).entities ≡ (archetype_at w.layout m).entities) where
  own-held : (ps : List ColumnAt) (picks : List Picked) (cs : List TakenColumn) → AreTaken w.state.slots w.layout ps cs → map spot_seen ps ≡ map spot_of picks → AllByRecursion (λ (p : Picked). p.is_written ≡ true) picks →
      AreHeldOf w picks (map (own_column v) cs)
  own-held [] [] [] h e t = tt
  own-held [] (q ∷ picks) cs h e t = absurd (cc)
  own-held [] [] (c ∷ cs) h e t = absurd h
  own-held (p ∷ ps) picks [] h e t = absurd h
  own-held (p ∷ ps) [] (c ∷ cs) h e t = absurd (cc)
  own-held (p ∷ ps) (q ∷ picks) (c ∷ cs) h e t =
      let one : spot_seen p ≡ spot_of q = cc in
      let rest : map spot_seen ps ≡ map spot_of picks = cc in
      let a = h.0.archetype_is ∙ ap (λ (s : Spot). s.archetype) one in
      let k = ap (λ (s : Spot). s.kind) one in
      let entities = same c.archetype ∙ ap (λ n. (archetype_at w.layout n).entities) a in (
        record {
          archetype_is = a;
          kind_is = h.0.kind_is ∙ k;
          own = sym t.0;
          entities_are = entities;
          cells_are = h.0.cells_are ∙ ap (λ n. column_cells w.state.slots (archetype_at w.layout n).entities (kind_number p.kind)) (ap (λ (s : Spot). s.archetype) one)
              ∙ ap₂ (λ es j. column_cells w.state.slots es j) (sym entities) k;
        },
        own-held ps picks cs h.1 rest t.1,
      )

  read-held : (ps : List ColumnAt) (picks : List Picked) (cs : List SharedColumn) → AreShared w.state.slots w.layout ps cs → map spot_seen ps ≡ map spot_of picks → AllByRecursion (λ (p : Picked). p.is_written ≡ false) picks →
      AreHeldOf w picks (map (read_column v) cs)
  read-held [] [] [] h e t = tt
  read-held [] (q ∷ picks) cs h e t = absurd (cc)
  read-held [] [] (c ∷ cs) h e t = absurd h
  read-held (p ∷ ps) picks [] h e t = absurd h
  read-held (p ∷ ps) [] (c ∷ cs) h e t = absurd (cc)
  read-held (p ∷ ps) (q ∷ picks) (c ∷ cs) h e t =
      let one : spot_seen p ≡ spot_of q = cc in
      let rest : map spot_seen ps ≡ map spot_of picks = cc in
      let a = h.0.archetype_is ∙ ap (λ (s : Spot). s.archetype) one in
      let k = ap (λ (s : Spot). s.kind) one in
      let entities = same c.archetype ∙ ap (λ n. (archetype_at w.layout n).entities) a in (
        record {
          archetype_is = a;
          kind_is = h.0.kind_is ∙ k;
          own = sym t.0;
          entities_are = entities;
          cells_are = h.0.cells_are ∙ ap (λ n. column_cells w.state.slots (archetype_at w.layout n).entities (kind_number p.kind)) (ap (λ (s : Spot). s.archetype) one)
              ∙ ap₂ (λ es j. column_cells w.state.slots es j) (sym entities) k;
        },
        read-held ps picks cs h.1 rest t.1,
      )

  held-append : (ps qs : List Picked) (cs ds : List Column) → AreHeldOf w ps cs → AreHeldOf w qs ds → AreHeldOf w (ps ++ qs) (cs ++ ds)
  held-append [] qs [] ds h k = k
  held-append [] qs (c ∷ cs) ds h k = absurd h
  held-append (p ∷ ps) qs [] ds h k = absurd h
  held-append (p ∷ ps) qs (c ∷ cs) ds h k = (h.0, held-append ps qs cs ds h.1 k)

  -- the columns of picks, as they are held
  pub all-held : (own read : List ColumnAt) (picks : List Picked) (cs : List TakenColumn) (ds : List SharedColumn) → map spot_seen own ≡ map spot_of (picked_own picks) → map spot_seen read ≡ map spot_of (picked_read picks) →
      AreTaken w.state.slots w.layout own cs → AreShared w.state.slots w.layout read ds → AreHeldOf w (picked_own picks ++ picked_read picks) (map (own_column v) cs ++ map (read_column v) ds)
  all-held own read picks cs ds o r h k =
      held-append (picked_own picks) (picked_read picks) (map (own_column v) cs) (map (read_column v) ds) (own-held own (picked_own picks) cs h o (own-written picks)) (read-held read (picked_read picks) ds k r (read-unwritten picks))

-- the own columns of them
lent-read : (v : StoreValue) (ds : List SharedColumn) → lent_of (map (read_column v) ds) ≡ []
lent-read v [] = refl
lent-read v (d ∷ ds) = lent-read v ds

pub lent-held : (v : StoreValue) (cs : List TakenColumn) (ds : List SharedColumn) → lent_of (map (own_column v) cs ++ map (read_column v) ds) ≡ cs
lent-held v [] ds = lent-read v ds
lent-held v (c ∷ cs) ds = ap (λ xs. c ∷ xs) (lent-held v cs ds)

-- ---- what is held of the picks of a query

picks-held : (w : StoreValue) (P : Column → Type 0) (Q : Picked → Type 0) → ((p : Picked) (c : Column) → Q p → IsHeldOf w p c → P c) → (ps : List Picked) (cs : List Column) → AreHeldOf w ps cs → AllByRecursion Q ps → AllByRecursion P cs
picks-held w P Q step [] [] h k = tt
picks-held w P Q step [] (c ∷ cs) h k = absurd h
picks-held w P Q step (p ∷ ps) [] h k = absurd h
picks-held w P Q step (p ∷ ps) (c ∷ cs) h k = (step p c k.0 h.0, picks-held w P Q step ps cs h.1 k.1)

later-among : (c : Column) (cs : List Column) (n k : ℕ) → IsAmong cs n k → IsAmong (c ∷ cs) n k
later-among c cs n k h = record { at = suc h.at; column = h.column; there = h.there; archetype_is = h.archetype_is; kind_is = h.kind_is }

among : (w : StoreValue) (ps : List Picked) (cs : List Column) → AreHeldOf w ps cs → AllByRecursion (λ (p : Picked). IsAmong cs p.archetype p.kind) ps
among w [] cs h = tt
among w (p ∷ ps) [] h = absurd h
among w (p ∷ ps) (c ∷ cs) h = (
  record { at = zero; column = c; there = refl; archetype_is = h.0.archetype_is; kind_is = h.0.kind_is },
  each-weaker (λ (q : Picked). IsAmong cs q.archetype q.kind) (λ (q : Picked). IsAmong (c ∷ cs) q.archetype q.kind) (λ q i. later-among c cs q.archetype q.kind i) ps (among w ps cs h.1),
)

no-other : (w : StoreValue) (p : Picked) (one other : Column) (ps : List Picked) (cs : List Column) (j : ℕ) → AreHeldOf w ps cs → AllByRecursion (IsOtherSpot p) ps → IsHeldOf w p one → slice_get cs j ≡ Some other →
    one.archetype ≡ other.archetype → one.kind ≡ other.kind → ⊥
no-other w p one other [] [] j h d is e a k = cc
no-other w p one other [] (c ∷ cs) j h d is e a k = h
no-other w p one other (q ∷ ps) [] j h d is e a k = h
no-other w p one other (q ∷ ps) (c ∷ cs) zero h d is e a k =
    let s = same-some c other e in
    d.0 (sym is.archetype_is ∙ a ∙ ap (λ (x : Column). x.archetype) (sym s) ∙ h.0.archetype_is) (sym is.kind_is ∙ k ∙ ap (λ (x : Column). x.kind) (sym s) ∙ h.0.kind_is)
no-other w p one other (q ∷ ps) (c ∷ cs) (suc j) h d is e a k = no-other w p one other ps cs j h.1 d.1 is e a k

unlike-held : (w : StoreValue) (ps : List Picked) (cs : List Column) → AreHeldOf w ps cs → AreOtherSpots ps → (i j : ℕ) (one other : Column) → slice_get cs i ≡ Some one → slice_get cs j ≡ Some other →
    one.archetype ≡ other.archetype → one.kind ≡ other.kind → i ≡ j
unlike-held w [] [] h d i j one other e f a k = absurd (cc)
unlike-held w [] (c ∷ cs) h d i j one other e f a k = absurd h
unlike-held w (p ∷ ps) [] h d i j one other e f a k = absurd h
unlike-held w (p ∷ ps) (c ∷ cs) h d zero zero one other e f a k = refl
unlike-held w (p ∷ ps) (c ∷ cs) h d zero (suc j) one other e f a k = absurd (no-other w p one other ps cs j h.1 d.0 (subst (IsHeldOf w p) (same-some c one e) h.0) f a k)
unlike-held w (p ∷ ps) (c ∷ cs) h d (suc i) zero one other e f a k = absurd (no-other w p other one ps cs i h.1 d.0 (subst (IsHeldOf w p) (same-some c other f) h.0) e (sym a) (sym k))
unlike-held w (p ∷ ps) (c ∷ cs) h d (suc i) (suc j) one other e f a k = ap suc (unlike-held w ps cs h.1 d.1 i j one other e f a k)

-- ---- the picks of a query

-- what holds of a pick: the query matches its archetype, which has its kind, which the query touches
pub record IsPickIn (query : List Term) (layout : List Archetype) (p : Picked) : Type 0 where
  pub matched : matches query (λ kind. has kind (archetype_at layout p.archetype).kinds) ≡ true
  pub held : has p.kind (archetype_at layout p.archetype).kinds ≡ true
  pub touched : touches query p.kind ≡ true
  pub own : p.is_written ≡ writes query p.kind

module _ (query : List Term) (P : Picked → Type 0) where
  in-kinds : (n : ℕ) (kinds : List ℕ) → ((k : ℕ) → has k kinds ≡ true → touches query k ≡ true → P (record { archetype = n; kind = k; is_written = writes query k })) → AllByRecursion P (picked_in query n kinds)
  in-kinds n [] h = tt
  in-kinds n (m ∷ ms) h = go (touches query m) refl (in-kinds n ms (λ k there. h k (or_right (m == k) (has k ms) there)))
    where
      go : (b : Bool) → touches query m ≡ b → AllByRecursion P (picked_in query n ms) → AllByRecursion P (cond b (record { archetype = n; kind = m; is_written = writes query m } ∷ picked_in query n ms) (picked_in query n ms))
      go true e more = (h m (or_left (m == m) (has m ms) (same-number m)) e, more)
      go false e more = more

  in-archetype : (n : ℕ) (kinds : List ℕ) → (matches query (λ kind. has kind kinds) ≡ true → (k : ℕ) → has k kinds ≡ true → touches query k ≡ true → P (record { archetype = n; kind = k; is_written = writes query k })) →
      AllByRecursion P (picked_of query n kinds)
  in-archetype n kinds h = go (matches query (λ kind. has kind kinds)) refl
    where
      go : (b : Bool) → matches query (λ kind. has kind kinds) ≡ b → AllByRecursion P (cond b (picked_in query n kinds) [])
      go true e = in-kinds n kinds (h e)
      go false e = tt

  in-archetypes : (m : ℕ) (layout : List Archetype) →
      ((n : ℕ) → matches query (λ kind. has kind (archetype_at layout n).kinds) ≡ true → (k : ℕ) → has k (archetype_at layout n).kinds ≡ true → touches query k ≡ true → P (record { archetype = m + n; kind = k; is_written = writes query k })) →
      AllByRecursion P (picked_from query m (map (λ (a : Archetype). a.kinds) layout))
  in-archetypes m [] h = tt
  in-archetypes m (a ∷ others) h =
      each-append P (picked_of query m a.kinds) (picked_from query (suc m) (map (λ (b : Archetype). b.kinds) others))
      (in-archetype m a.kinds (λ e k there t. subst (λ j. P (record { archetype = j; kind = k; is_written = writes query k })) (let z : m + zero ≡ m = omega arith in z) (h zero e k there t)))
      (in-archetypes (suc m) others (λ n e k there t. subst (λ j. P (record { archetype = j; kind = k; is_written = writes query k })) (let z : m + suc n ≡ suc m + n = omega arith in z) (h (suc n) e k there t)))

pub picks-are : (query : List Term) (layout : List Archetype) → AllByRecursion (IsPickIn query layout) (picks_of query layout)
picks-are query layout = in-archetypes query (IsPickIn query layout) 0 layout (λ n e k there t.
    subst (λ j. IsPickIn query layout (record { archetype = j; kind = k; is_written = writes query k })) (let z : n ≡ 0 + n = omega arith in z) (record { matched = e; held = there; touched = t; own = refl }))

-- picks of rising kinds, and of rising archetypes
kinds-apart : (query : List Term) (n m : ℕ) (kinds : List ℕ) → AllByRecursion (λ k. m < k) kinds → AllByRecursion (IsOtherSpot (record { archetype = n; kind = m; is_written = writes query m })) (picked_in query n kinds)
kinds-apart query n m [] h = tt
kinds-apart query n m (k ∷ ks) h = go (touches query k) (kinds-apart query n m ks h.1)
  where
    go : (b : Bool) → AllByRecursion (IsOtherSpot (record { archetype = n; kind = m; is_written = writes query m })) (picked_in query n ks) →
        AllByRecursion (IsOtherSpot (record { archetype = n; kind = m; is_written = writes query m })) (cond b (record { archetype = n; kind = k; is_written = writes query k } ∷ picked_in query n ks) (picked_in query n ks))
    go true more = ((λ a e. (let l : m < k = h.0 in omega arith)), more)
    go false more = more

in-others : (query : List Term) (n : ℕ) (kinds : List ℕ) → AreBelow kinds → AreOtherSpots (picked_in query n kinds)
in-others query n [] h = tt
in-others query n (k ∷ ks) h = go (touches query k) (in-others query n ks h.1)
  where
    go : (b : Bool) → AreOtherSpots (picked_in query n ks) → AreOtherSpots (cond b (record { archetype = n; kind = k; is_written = writes query k } ∷ picked_in query n ks) (picked_in query n ks))
    go true more = (kinds-apart query n k ks h.0, more)
    go false more = more

of-others : (query : List Term) (n : ℕ) (kinds : List ℕ) → AreBelow kinds → AreOtherSpots (picked_of query n kinds)
of-others query n kinds h = go (matches query (λ kind. has kind kinds))
  where
    go : (b : Bool) → AreOtherSpots (cond b (picked_in query n kinds) [])
    go true = in-others query n kinds h
    go false = tt

lower : (n m : ℕ) (ps qs : List Picked) → AllByRecursion (λ (p : Picked). p.archetype ≡ n) ps → AllByRecursion (λ (q : Picked). n < q.archetype) qs → AreOthersThan ps qs
lower n m [] qs h k = tt
lower n m (p ∷ ps) qs h k = (each-weaker (λ (q : Picked). n < q.archetype) (IsOtherSpot p) (λ q l a e. (let same : p.archetype ≡ n = h.0 in omega arith)) qs k, lower n m ps qs h.1 k)

from-others : (query : List Term) (m : ℕ) (layout : List Archetype) → AllByRecursion IsArchetype layout → AreOtherSpots (picked_from query m (map (λ (a : Archetype). a.kinds) layout))
from-others query m [] h = tt
from-others query m (a ∷ others) h =
    others-append (picked_of query m a.kinds) (picked_from query (suc m) (map (λ (b : Archetype). b.kinds) others)) (of-others query m a.kinds h.0.shape.below) (from-others query (suc m) others h.1)
    (lower m m (picked_of query m a.kinds) (picked_from query (suc m) (map (λ (b : Archetype). b.kinds) others))
    (in-archetype query (λ (p : Picked). p.archetype ≡ m) m a.kinds (λ e k there t. refl))
    (in-archetypes query (λ (q : Picked). m < q.archetype) (suc m) others (λ n e k there t. omega arith)))

pub picks-others : (slots : List Slot) (query : List Term) (layout : List Archetype) → IsLayoutOf slots layout → AreOtherSpots (picks_of query layout)
picks-others slots query layout laid = from-others query 0 layout laid.each

-- the columns of a query are those that it picks
pub picked-of : (query : List Term) (w : StoreValue) (columns : List Column) → IsLayoutOf w.state.slots w.layout → AreHeldOf w (picked_own (picks_of query w.layout) ++ picked_read (picks_of query w.layout)) columns → ArePickedOf query w columns
picked-of query w columns laid held =
    let picks = picks_of query w.layout in
    let both = picked_own picks ++ picked_read picks in
    let are = picks-are query w.layout in
    record {
      each = picks-held w (IsPickedOf query w) (IsPickIn query w.layout)
          (λ p c q h. record {
            picked = record {
              entities_are = h.entities_are ∙ ap (λ n. (archetype_at w.layout n).entities) (sym h.archetype_is);
              matched = subst (λ n. matches query (λ kind. has kind (archetype_at w.layout n).kinds) ≡ true) (sym h.archetype_is) q.matched;
              held = ap₂ (λ n k. has k (archetype_at w.layout n).kinds) h.archetype_is h.kind_is ∙ q.held;
              touched = ap (touches query) h.kind_is ∙ q.touched;
            };
            own = h.own ∙ q.own ∙ ap (writes query) (sym h.kind_is);
            cells_are = h.cells_are ∙ ap (column_cells w.state.slots c.entities) (sym h.kind_is);
          }) both columns held
          (each-append (IsPickIn query w.layout) (picked_own picks) (picked_read picks) (each-own (IsPickIn query w.layout) picks are) (each-read (IsPickIn query w.layout) picks are));
      unlike = unlike-held w both columns held (others-split picks (picks-others w.state.slots query w.layout laid));
      all = λ n k e there t.
          subst (λ m. IsAmong columns m k) (let z : 0 + n ≡ n = omega arith in z)
          (from_picked query (λ m j. IsAmong columns m j) k t 0 n w.layout (each-picked picks (among w both columns held)) e there);
    }
  where
    left : (P : Picked → Type 0) (ps qs : List Picked) → AllByRecursion P (ps ++ qs) → AllByRecursion P ps
    left P [] qs h = tt
    left P (p ∷ ps) qs h = (h.0, left P ps qs h.1)

    right : (P : Picked → Type 0) (ps qs : List Picked) → AllByRecursion P (ps ++ qs) → AllByRecursion P qs
    right P [] qs h = h
    right P (p ∷ ps) qs h = right P ps qs h.1

    each-picked : (picks : List Picked) → AllByRecursion (λ (p : Picked). IsAmong columns p.archetype p.kind) (picked_own picks ++ picked_read picks) → AllByRecursion (λ (p : Picked). IsAmong columns p.archetype p.kind) picks
    each-picked picks h = each-back (λ (p : Picked). IsAmong columns p.archetype p.kind) picks (left (λ (p : Picked). IsAmong columns p.archetype p.kind) (picked_own picks) (picked_read picks) h) (right (λ (p : Picked). IsAmong columns p.archetype p.kind) (picked_own picks) (picked_read picks) h)
