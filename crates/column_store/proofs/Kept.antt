-- What every table keeps.
use Rattle.column_store.proofs.Common.{◌≡◌, ℕ, zero, suc, ◌+◌, ◌-◌, ◌<◌, ◌≤◌, ◌==◌, ◌⊎◌, inl, inr, List, [], ◌∷◌, ◌++◌, length, map, Some, refl, sym, ap, ap₂, subst, ◌∙◌, arith, cases_eq, nat_tests, length_push, map-map, AllByRecursion, slice_get, update_at, length-update_at, each-weaker, Cell, Entity, StampedValue, stamped_number, stamped_cell, ColumnCells, is_same, AreApart, IsPlace, IsNowhere, swap_removed, Standing, ColumnSlotValue, kind_in, standing_at, owned_slot, seen_column, seen_slot, swap_out_in, push_all, replace_all, HasRoom, IsOfLength, IsOwned, AllTake, AllRenew, AreRoomier, IsTable}
use Rattle.model.proofs.lists.Each.{each-map}
use Rattle.column_store.proofs.Lists.{map-update_at_same, each-updated}
use Rattle.column_store.proofs.Swapped.{length-swap_removed, get-swap_here, get-swap_other}
use Rattle.column_store.proofs.Apart.{get_within, get_push, elsewhere}

-- ---- columns of their kinds

kinds-home : (c : ColumnCells) (j : ℕ) (ns : List ℕ) (ps : List ColumnSlotValue) → IsPlace (λ n. n == c.kind) ns j → map kind_in ps ≡ ns → map kind_in (update_at j (λ _. owned_slot c) ps) ≡ ns
kinds-home c j [] ps at k = absurd at
kinds-home c j (n ∷ ns) [] at k = k
kinds-home c zero (n ∷ ns) (p ∷ ps) at k =
    let number : n ≡ c.kind = grind (arith, nat_tests) in let rest : map kind_in ps ≡ ns = cc in ap₂ ◌∷◌ (sym number) rest
kinds-home c (suc j) (n ∷ ns) (p ∷ ps) at k =
    let first : p.column.kind ≡ n = cc in let rest : map kind_in ps ≡ ns = cc in ap₂ ◌∷◌ first (kinds-home c j ns ps at.1 rest)

-- the column at the place of a kind is of the kind
pub kind-place : (k j : ℕ) (ns : List ℕ) (ps : List ColumnSlotValue) (p : ColumnSlotValue) → IsPlace (λ n. n == k) ns j → map kind_in ps ≡ ns → slice_get ps j ≡ Some p → p.column.kind ≡ k
kind-place k j [] ps p at h e = absurd at
kind-place k j (n ∷ ns) [] p at h e = absurd (cc)
kind-place k zero (n ∷ ns) (q ∷ ps) p at h e =
    let same : q ≡ p = cc in let number : n ≡ k = grind (arith, nat_tests) in let first : q.column.kind ≡ n = cc in ap (λ (x : ColumnSlotValue). x.column.kind) (sym same) ∙ first ∙ number
kind-place k (suc j) (n ∷ ns) (q ∷ ps) p at h e = let rest : map kind_in ps ≡ ns = cc in kind-place k j ns ps p at.1 rest e

-- ---- a column that stands otherwise or comes home

pub kept-move : (ns : List ℕ) (es : List Entity) (ps : List ColumnSlotValue) (j : ℕ) (s : Standing) → IsTable ns es ps → IsTable ns es (update_at j (standing_at s) ps)
kept-move ns es ps j s h = record {
  below = h.below;
  apart = h.apart;
  of_kinds = map-update_at_same kind_in (standing_at s) (λ p. refl) j ps ∙ h.of_kinds;
  of_length = each-updated (IsOfLength (length es)) (standing_at s) (λ p l. l) j ps h.of_length;
}

pub kept-home : (ns : List ℕ) (es : List Entity) (ps : List ColumnSlotValue) (j : ℕ) (c : ColumnCells) → IsPlace (λ n. n == c.kind) ns j → length c.cells ≡ length es → IsTable ns es ps →
    IsTable ns es (update_at j (λ _. owned_slot c) ps)
kept-home ns es ps j c at l h = record {
  below = h.below;
  apart = h.apart;
  of_kinds = kinds-home c j ns ps at h.of_kinds;
  of_length = each-updated (IsOfLength (length es)) (λ _. owned_slot c) (λ p q. l) j ps h.of_length;
}

kinds-columns : (ps : List ColumnSlotValue) → map kind_in ps ≡ map (λ (c : ColumnCells). c.kind) (map seen_column ps)
kinds-columns [] = refl
kinds-columns (p ∷ ps) = ap (λ ks. p.column.kind ∷ ks) (kinds-columns ps)

lengths_as : (n : ℕ) (ps qs : List ColumnSlotValue) → map seen_column qs ≡ map seen_column ps → AllByRecursion (IsOfLength n) ps → AllByRecursion (IsOfLength n) qs
lengths_as n ps [] h l = tt
lengths_as n [] (q ∷ qs) h l = absurd (cc)
lengths_as n (p ∷ ps) (q ∷ qs) h l =
    let first : seen_column q ≡ seen_column p = cc in let rest : map seen_column qs ≡ map seen_column ps = cc in
    (ap (λ (c : ColumnCells). length c.cells) first ∙ l.0, lengths_as n ps qs rest l.1)

-- the same columns, wherever they stand
pub kept-columns : (ns : List ℕ) (es : List Entity) (ps qs : List ColumnSlotValue) → map seen_column qs ≡ map seen_column ps → IsTable ns es ps → IsTable ns es qs
kept-columns ns es ps qs same h = record {
  below = h.below;
  apart = h.apart;
  of_kinds = kinds-columns qs ∙ ap (map (λ (c : ColumnCells). c.kind)) same ∙ sym (kinds-columns ps) ∙ h.of_kinds;
  of_length = lengths_as (length es) ps qs same h.of_length;
}

-- ---- a row more

-- ids of which none is there twice, with one that isn't there
pub apart-push : (e : Entity) (es : List Entity) → AreApart es → IsNowhere (λ x. is_same x e) es → AreApart (es ++ e ∷ [])
apart-push e es h absent p q x f g = go (get_push es e p x f) (get_push es e q x g)
  where
    go : ((p < length es) × (slice_get es p ≡ Some x)) ⊎ ((p ≡ length es) × (e ≡ x)) → ((q < length es) × (slice_get es q ≡ Some x)) ⊎ ((q ≡ length es) × (e ≡ x)) → p ≡ q
    go (inl a) (inl b) = h p q x a.1 b.1
    go (inl a) (inr b) = absurd (elsewhere e es p x absent a.1 b.1)
    go (inr a) (inl b) = absurd (elsewhere e es q x absent b.1 a.1)
    go (inr a) (inr b) = a.0 ∙ sym b.0

kinds-push : (ps : List ColumnSlotValue) (cs : List Cell) → map kind_in (push_all ps cs) ≡ map kind_in ps
kinds-push [] cs = refl
kinds-push (p ∷ ps) [] = refl
kinds-push (p ∷ ps) (c ∷ cs) = ap (λ ks. p.column.kind ∷ ks) (kinds-push ps cs)

lengths-push : (n : ℕ) (ps : List ColumnSlotValue) (cs : List Cell) → length ps ≡ length cs → AllByRecursion (IsOfLength n) ps → AllByRecursion (IsOfLength (n + 1)) (push_all ps cs)
lengths-push n [] cs l h = tt
lengths-push n (p ∷ ps) [] l h = absurd (omega arith)
lengths-push n (p ∷ ps) (c ∷ cs) l h = (go h.0, lengths-push n ps cs (omega arith) h.1)
  where
    go : length p.column.cells ≡ n → length (p.column.cells ++ c ∷ []) ≡ n + 1
    go e = let k = length_push p.column.cells c in omega arith

pub rooms-push : (n : ℕ) (ps : List ColumnSlotValue) (cs : List Cell) → AllByRecursion (HasRoom n) ps → AllByRecursion (HasRoom n) (push_all ps cs)
rooms-push n [] cs h = tt
rooms-push n (p ∷ ps) [] h = h
rooms-push n (p ∷ ps) (c ∷ cs) h = (h.0, rooms-push n ps cs h.1)

pub kept-push : (ns : List ℕ) (es : List Entity) (ps : List ColumnSlotValue) (cs : List Cell) (e : Entity) → length ps ≡ length cs → IsNowhere (λ x. is_same x e) es → IsTable ns es ps →
    IsTable ns (es ++ e ∷ []) (push_all ps cs)
kept-push ns es ps cs e l a h = record {
  below = h.below;
  apart = apart-push e es h.apart a;
  of_kinds = kinds-push ps cs ∙ h.of_kinds;
  of_length = subst (λ n. AllByRecursion (IsOfLength n) (push_all ps cs)) (sym (length_push es e)) (lengths-push (length es) ps cs l h.of_length);
}

-- the columns take the row, where all are the table's alone and have room, and the components are of the kinds
pub all_take : (ns : List ℕ) (ps : List ColumnSlotValue) (n m : ℕ) (ss : List StampedValue) → map kind_in ps ≡ ns → AllByRecursion (IsOfLength n) ps → AllByRecursion IsOwned ps → n < m →
    AllByRecursion (HasRoom m) ps → map stamped_number ss ≡ ns → AllTake ps ss
all_take ns [] n m [] k h o le r e = tt
all_take ns [] n m (s ∷ ss) k h o le r e = absurd (cc)
all_take ns (p ∷ ps) n m [] k h o le r e = absurd (cc)
all_take [] (p ∷ ps) n m (s ∷ ss) k h o le r e = absurd (cc)
all_take (j ∷ ns) (p ∷ ps) n m (s ∷ ss) k h o le r e =
    let l : length p.column.cells ≡ n = h.0 in
    let room : m ≤ p.column.room = r.0 in
    let same : stamped_number s ≡ j = cc in
    let kind : p.column.kind ≡ j = cc in
    let rest : map kind_in ps ≡ ns = cc in
    (record { owned = o.0; kind = kind ∙ sym same; room = omega arith }, all_take ns ps n m ss rest h.1 o.1 le r.1 (cc))

-- ---- columns with more room

pub roomier-same : (ps : List ColumnSlotValue) → AreRoomier ps ps
roomier-same [] = tt
roomier-same (p ∷ ps) = (record { same = refl; room = omega arith }, roomier-same ps)

pub roomier-seen : (ps qs : List ColumnSlotValue) → AreRoomier ps qs → map seen_slot qs ≡ map seen_slot ps
roomier-seen [] [] h = refl
roomier-seen [] (q ∷ qs) h = absurd h
roomier-seen (p ∷ ps) [] h = absurd h
roomier-seen (p ∷ ps) (q ∷ qs) h = ap₂ ◌∷◌ h.0.same (roomier-seen ps qs h.1)

pub rooms-roomier : (n : ℕ) (ps qs : List ColumnSlotValue) → AreRoomier ps qs → AllByRecursion (HasRoom n) ps → AllByRecursion (HasRoom n) qs
rooms-roomier n [] [] h r = tt
rooms-roomier n [] (q ∷ qs) h r = absurd h
rooms-roomier n (p ∷ ps) [] h r = absurd h
rooms-roomier n (p ∷ ps) (q ∷ qs) h r = let more = h.0.room in let old : n ≤ p.column.room = r.0 in (omega arith, rooms-roomier n ps qs h.1 r.1)

pub fewer_rooms : (n m : ℕ) (ps : List ColumnSlotValue) → m ≤ n → AllByRecursion (HasRoom n) ps → AllByRecursion (HasRoom m) ps
fewer_rooms n m ps le h = each-weaker (HasRoom n) (HasRoom m) (λ p r. (let k : n ≤ p.column.room = r in omega arith)) ps h

pub rooms-swap : (n i : ℕ) (ps : List ColumnSlotValue) → AllByRecursion (HasRoom n) ps → AllByRecursion (HasRoom n) (map (swap_out_in i) ps)
rooms-swap n i ps h = each-map (HasRoom n) (HasRoom n) (swap_out_in i) (λ p r. r) ps h

pub rooms-replace : (n i : ℕ) (ps : List ColumnSlotValue) (cs : List Cell) → AllByRecursion (HasRoom n) ps → AllByRecursion (HasRoom n) (replace_all i ps cs)
rooms-replace n i [] cs h = tt
rooms-replace n i (p ∷ ps) [] h = h
rooms-replace n i (p ∷ ps) (c ∷ cs) h = (h.0, rooms-replace n i ps cs h.1)

pub kept-seen : (ns : List ℕ) (es : List Entity) (ps qs : List ColumnSlotValue) → map seen_slot qs ≡ map seen_slot ps → IsTable ns es ps → IsTable ns es qs
kept-seen ns es ps qs same h = kept-columns ns es ps qs (sym (map-map (λ (p : ColumnSlotValue). p.column) seen_slot qs) ∙ ap (map (λ (p : ColumnSlotValue). p.column)) same ∙ map-map (λ (p : ColumnSlotValue). p.column) seen_slot ps) h

-- ---- a row whose components are replaced

kinds-replace : (ps : List ColumnSlotValue) (cs : List Cell) (i : ℕ) → map kind_in (replace_all i ps cs) ≡ map kind_in ps
kinds-replace [] cs i = refl
kinds-replace (p ∷ ps) [] i = refl
kinds-replace (p ∷ ps) (c ∷ cs) i = ap (λ ks. p.column.kind ∷ ks) (kinds-replace ps cs i)

lengths-replace : (n : ℕ) (ps : List ColumnSlotValue) (cs : List Cell) (i : ℕ) → AllByRecursion (IsOfLength n) ps → AllByRecursion (IsOfLength n) (replace_all i ps cs)
lengths-replace n [] cs i h = tt
lengths-replace n (p ∷ ps) [] i h = h
lengths-replace n (p ∷ ps) (c ∷ cs) i h = (length-update_at i (λ _. c) p.column.cells ∙ h.0, lengths-replace n ps cs i h.1)

pub kept-replace : (ns : List ℕ) (es : List Entity) (ps : List ColumnSlotValue) (cs : List Cell) (i : ℕ) → IsTable ns es ps → IsTable ns es (replace_all i ps cs)
kept-replace ns es ps cs i h = record {
  below = h.below;
  apart = h.apart;
  of_kinds = kinds-replace ps cs i ∙ h.of_kinds;
  of_length = lengths-replace (length es) ps cs i h.of_length;
}

-- nothing is replaced where there is no component
pub replace_all-none : (i : ℕ) (ps : List ColumnSlotValue) (ss : List StampedValue) → length ss ≡ 0 → ps ≡ replace_all i ps (map stamped_cell ss)
replace_all-none i [] ss l = refl
replace_all-none i (p ∷ ps) [] l = refl
replace_all-none i (p ∷ ps) (s ∷ ss) l = absurd (omega arith)

-- the columns take the components, where all are the table's alone and the components are of the kinds
pub all_renew : (ns : List ℕ) (ps : List ColumnSlotValue) (n i : ℕ) (ss : List StampedValue) → map kind_in ps ≡ ns → AllByRecursion (IsOfLength n) ps → AllByRecursion IsOwned ps → i < n →
    map stamped_number ss ≡ ns → AllRenew i ps ss
all_renew ns [] n i [] k h o l e = tt
all_renew ns [] n i (s ∷ ss) k h o l e = absurd (cc)
all_renew ns (p ∷ ps) n i [] k h o l e = absurd (cc)
all_renew [] (p ∷ ps) n i (s ∷ ss) k h o l e = absurd (cc)
all_renew (m ∷ ns) (p ∷ ps) n i (s ∷ ss) k h o l e =
    let many : length p.column.cells ≡ n = h.0 in
    let same : stamped_number s ≡ m = cc in
    let kind : p.column.kind ≡ m = cc in
    let rest : map kind_in ps ≡ ns = cc in
    (record { owned = o.0; kind = kind ∙ sym same; within = omega arith }, all_renew ns ps n i ss rest h.1 o.1 l (cc))

-- no column takes a component where there is none
pub push_all-none : (ps : List ColumnSlotValue) (ss : List StampedValue) → AllTake ps ss → length ss ≡ 0 → ps ≡ push_all ps (map stamped_cell ss)
push_all-none [] ss h l = refl
push_all-none (p ∷ ps) [] h l = absurd h
push_all-none (p ∷ ps) (s ∷ ss) h l = absurd (omega arith)

-- ---- a row less

pub apart-swap : (es : List Entity) (i : ℕ) → AreApart es → i < length es → AreApart (swap_removed es i)
apart-swap es i h l p q x f g =
    go (cases_eq p i) (cases_eq q i) (get_within (swap_removed es i) p x f) (get_within (swap_removed es i) q x g)
  where
    last : (k : ℕ) → k ≡ i → k + 1 < length es → slice_get (swap_removed es i) k ≡ Some x → slice_get es (length es - 1) ≡ Some x
    last k same m e = sym (get-swap_here es i (subst (λ j. j + 1 < length es) same m)) ∙ ap (slice_get (swap_removed es i)) (sym same) ∙ e

    there : (k : ℕ) → (k ≡ i → ⊥) → k + 1 < length es → slice_get (swap_removed es i) k ≡ Some x → slice_get es k ≡ Some x
    there k other m e = sym (get-swap_other es i k m other) ∙ e

    go : (p ≡ i) ⊎ (p ≡ i → ⊥) → (q ≡ i) ⊎ (q ≡ i → ⊥) → p < length (swap_removed es i) → q < length (swap_removed es i) → p ≡ q
    go (inl a) (inl b) m n = a ∙ sym b
    go (inl a) (inr b) m n =
        let shorter = length-swap_removed es i l in
        let e = h (length es - 1) q x (last p a (omega arith) f) (there q b (omega arith) g) in absurd (omega arith)
    go (inr a) (inl b) m n =
        let shorter = length-swap_removed es i l in
        let e = h p (length es - 1) x (there p a (omega arith) f) (last q b (omega arith) g) in absurd (omega arith)
    go (inr a) (inr b) m n =
        let shorter = length-swap_removed es i l in
        h p q x (there p a (omega arith) f) (there q b (omega arith) g)

kinds-swap : (ps : List ColumnSlotValue) (i : ℕ) → map kind_in (map (swap_out_in i) ps) ≡ map kind_in ps
kinds-swap [] i = refl
kinds-swap (p ∷ ps) i = ap (λ ks. p.column.kind ∷ ks) (kinds-swap ps i)

swap-length : (n m i : ℕ) → i < n → m + 1 ≡ n → (p : ColumnSlotValue) → IsOfLength n p → IsOfLength m (swap_out_in i p)
swap-length n m i l e p h = let k = length-swap_removed p.column.cells i (omega arith) in omega arith

pub kept-swap : (ns : List ℕ) (es : List Entity) (ps : List ColumnSlotValue) (i : ℕ) → i < length es → IsTable ns es ps → IsTable ns (swap_removed es i) (map (swap_out_in i) ps)
kept-swap ns es ps i l h = record {
  below = h.below;
  apart = apart-swap es i h.apart l;
  of_kinds = kinds-swap ps i ∙ h.of_kinds;
  of_length = each-map (IsOfLength (length es)) (IsOfLength (length (swap_removed es i))) (swap_out_in i)
      (swap-length (length es) (length (swap_removed es i)) i l (length-swap_removed es i l)) ps h.of_length;
}
