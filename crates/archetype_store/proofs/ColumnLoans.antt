-- Columns of several archetypes, taken one after the other and put back.
use Rattle.archetype_store.proofs.Common.{◌≡◌, ℕ, zero, suc, ◌+◌, ◌<◌, Bool, true, false, cond, ◌==◌, List, [], ◌∷◌, ◌++◌, length, get_or, take, map, Some, None, refl, sym, ap, ap₂, subst, ◌∙◌, arith, AllByRecursion, list_any, is_same, arc_value, length-map, take_more, kind_number, widths, Cell, Component, Slot, World, row_at, cell_at, IsRising, is_alive, IsComponent, IsSlot, IsWorld, Entity, each-weaker, get_or-update_at-view, at_kind, update_kind, ColumnAt, TakenColumn, SharedColumn, Archetype, archetype_at, column_home, with_column, with_home, AreOfOtherKinds, IsArchetype, IsLayoutOf, cell_of, column_cells, StoreValue, with_slots, slots_with, homed_in, IsPast, CanTake, CanComeHome, AreTaken, AreShared, IsColumn, IsAway, all_away, all_home}
use Rattle.archetype_store.proofs.ArchetypeColumns.{length-update_kind}
use Rattle.archetype_store.proofs.ColumnOverlays.{entities_home, same_again}

-- ---- one flag

twice : (ks : List ℕ) (k : ℕ) (a b : Bool) (xs : List Bool) → update_kind ks k (λ _. b) (update_kind ks k (λ _. a) xs) ≡ update_kind ks k (λ _. b) xs
twice [] k a b xs = refl
twice (n ∷ ks) k a b [] = refl
twice (n ∷ ks) k a b (x ∷ xs) = go (n == k) refl (twice ks k a b xs)
  where
    go : (t : Bool) → (n == k) ≡ t → update_kind ks k (λ _. b) (update_kind ks k (λ _. a) xs) ≡ update_kind ks k (λ _. b) xs →
        update_kind (n ∷ ks) k (λ _. b) (cond t (a ∷ xs) (x ∷ update_kind ks k (λ _. a) xs)) ≡ cond t (b ∷ xs) (x ∷ update_kind ks k (λ _. b) xs)
    go true h more = ap (λ t. cond t (b ∷ xs) (a ∷ update_kind ks k (λ _. b) xs)) h
    go false h more = ap (λ t. cond t (b ∷ update_kind ks k (λ _. a) xs) (x ∷ update_kind ks k (λ _. b) (update_kind ks k (λ _. a) xs))) h ∙ ap (λ ys. x ∷ ys) more

as_was : (ks : List ℕ) (k : ℕ) (b : Bool) (xs : List Bool) → at_kind ks k xs ≡ Some b → update_kind ks k (λ _. b) xs ≡ xs
as_was [] k b xs h = refl
as_was (n ∷ ks) k b [] h = absurd (cc)
as_was (n ∷ ks) k b (x ∷ xs) h = go (n == k) h (as_was ks k b xs)
  where
    go : (t : Bool) → cond t (Some x) (at_kind ks k xs) ≡ Some b → (at_kind ks k xs ≡ Some b → update_kind ks k (λ _. b) xs ≡ xs) →
        cond t (b ∷ xs) (x ∷ update_kind ks k (λ _. b) xs) ≡ x ∷ xs
    go true e more = (let same : x ≡ b = cc in ap (λ y. y ∷ xs) (sym same))
    go false e more = ap (λ ys. x ∷ ys) (more e)

now_is : (ks : List ℕ) (k : ℕ) (a b : Bool) (xs : List Bool) → at_kind ks k xs ≡ Some a → at_kind ks k (update_kind ks k (λ _. b) xs) ≡ Some b
now_is [] k a b xs h = absurd (cc)
now_is (n ∷ ks) k a b [] h = absurd (cc)
now_is (n ∷ ks) k a b (x ∷ xs) h = go (n == k) refl h (now_is ks k a b xs)
  where
    go : (t : Bool) → (n == k) ≡ t → cond t (Some x) (at_kind ks k xs) ≡ Some a → (at_kind ks k xs ≡ Some a → at_kind ks k (update_kind ks k (λ _. b) xs) ≡ Some b) →
        at_kind (n ∷ ks) k (cond t (b ∷ xs) (x ∷ update_kind ks k (λ _. b) xs)) ≡ Some b
    go true same e more = ap (λ t. cond t (Some b) (at_kind ks k xs)) same
    go false other e more = ap (λ t. cond t (Some x) (at_kind ks k (update_kind ks k (λ _. b) xs))) other ∙ more e

-- ---- one flag of a layout

pub home_again : (n k : ℕ) (layout : List Archetype) → column_home (archetype_at layout n) k ≡ Some true → with_home true n k (with_home false n k layout) ≡ layout
home_again n k [] h = refl
home_again zero k (a ∷ rest) h = ap (λ homes. (let x : Archetype = record { kinds = a.kinds; entities = a.entities; homes = homes } in x) ∷ rest) (twice a.kinds k false true a.homes ∙ as_was a.kinds k true a.homes h)
home_again (suc n) k (a ∷ rest) h = ap (λ xs. a ∷ xs) (home_again n k rest h)

pub away_now : (n k : ℕ) (layout : List Archetype) → column_home (archetype_at layout n) k ≡ Some true → column_home (archetype_at (with_home false n k layout) n) k ≡ Some false
away_now n k [] h = absurd (cc)
away_now zero k (a ∷ rest) h = now_is a.kinds k true false a.homes h
away_now (suc n) k (a ∷ rest) h = away_now n k rest h

pub kinds_home : (b : Bool) (n k m : ℕ) (layout : List Archetype) → (archetype_at (with_home b n k layout) m).kinds ≡ (archetype_at layout m).kinds
kinds_home b n k m layout = get_or-update_at-view (λ (a : Archetype). a.kinds) n m (with_column b k) layout (record { kinds = []; entities = []; homes = [] }) (λ a. refl)

each_home : (b : Bool) (n k : ℕ) (layout : List Archetype) → AllByRecursion IsArchetype layout → AllByRecursion IsArchetype (with_home b n k layout)
each_home b n k [] h = h
each_home b zero k (a ∷ rest) h =
    (record { shape = record { below = h.0.shape.below; some = h.0.shape.some; each = length-update_kind a.kinds k b a.homes ∙ h.0.shape.each }; peopled = h.0.peopled }, h.1)
each_home b (suc n) k (a ∷ rest) h = (h.0, each_home b n k rest h.1)

other_each : (ks : List ℕ) (b : Bool) (n k : ℕ) (layout : List Archetype) → AllByRecursion (λ (a : Archetype). ks ≡ a.kinds → ⊥) layout → AllByRecursion (λ (a : Archetype). ks ≡ a.kinds → ⊥) (with_home b n k layout)
other_each ks b n k [] h = h
other_each ks b zero k (a ∷ rest) h = h
other_each ks b (suc n) k (a ∷ rest) h = (h.0, other_each ks b n k rest h.1)

others_home : (b : Bool) (n k : ℕ) (layout : List Archetype) → AreOfOtherKinds layout → AreOfOtherKinds (with_home b n k layout)
others_home b n k [] h = h
others_home b zero k (a ∷ rest) h = h
others_home b (suc n) k (a ∷ rest) h = (other_each a.kinds b n k rest h.0, others_home b n k rest h.1)

-- the layout stays that of the slots
pub laid_home : (slots : List Slot) (b : Bool) (n k : ℕ) (layout : List Archetype) → IsLayoutOf slots layout → IsLayoutOf slots (with_home b n k layout)
laid_home slots b n k layout h = record {
  theirs = λ m e there. (let t = h.theirs m e (ap (λ es. list_any (λ x. is_same x e) es) (sym (entities_home b n k m layout)) ∙ there) in (t.0, t.1 ∙ sym (kinds_home b n k m layout)));
  every = λ e alive there. (let t = h.every e alive there in (t.0, ap (λ es. list_any (λ x. is_same x e) es) (entities_home b n k t.0 layout) ∙ t.1));
  each = each_home b n k layout h.each;
  unlike = others_home b n k layout h.unlike;
}

-- ---- columns that were taken

taken_home : (slots : List Slot) (b : Bool) (n k : ℕ) (layout : List Archetype) (ps : List ColumnAt) (cs : List TakenColumn) → AreTaken slots layout ps cs → AreTaken slots (with_home b n k layout) ps cs
taken_home slots b n k layout [] [] h = tt
taken_home slots b n k layout [] (c ∷ cs) h = absurd h
taken_home slots b n k layout (p ∷ ps) [] h = absurd h
taken_home slots b n k layout (p ∷ ps) (c ∷ cs) h = (
  record { archetype_is = h.0.archetype_is; kind_is = h.0.kind_is; cells_are = h.0.cells_are ∙ ap (λ es. column_cells slots es (kind_number p.kind)) (sym (entities_home b n k p.archetype layout)) },
  taken_home slots b n k layout ps cs h.1,
)

cell_past : (clock : ℕ) (row : List Component) (k : ℕ) (c : Cell) → AllByRecursion (IsComponent widths clock) row → cell_at row k ≡ Some c → IsPast clock c
cell_past clock [] k c h e = absurd (cc)
cell_past clock (x ∷ xs) k c h e = go (x.kind == k) e (cell_past clock xs k c h.1)
  where
    go : (b : Bool) → cond b (Some x.cell) (cell_at xs k) ≡ Some c → (cell_at xs k ≡ Some c → IsPast clock c) → IsPast clock c
    go true f more = (let same : x.cell ≡ c = cc in subst (IsPast clock) same (record { added = h.0.added; changed = h.0.changed }))
    go false f more = more f

row_past : (clock : ℕ) (slots : List Slot) (i : ℕ) → AllByRecursion (IsSlot widths clock) slots → AllByRecursion (IsComponent widths clock) (row_at slots i)
row_past clock [] i h = tt
row_past clock (s ∷ ss) zero h = h.0.components
row_past clock (s ∷ ss) (suc i) h = row_past clock ss i h.1

slot_past : (clock : ℕ) (slots : List Slot) (e : Entity) (k : ℕ) (c : Cell) → AllByRecursion (IsSlot widths clock) slots → cell_of slots e k ≡ Some c → IsPast clock c
slot_past clock slots e k c h at = go (is_alive slots e) at
  where
    go : (b : Bool) → cond b (cell_at (row_at slots e.index) k) None ≡ Some c → IsPast clock c
    go true f = cell_past clock (row_at slots e.index) k c (row_past clock slots e.index h) f
    go false f = absurd (cc)

-- no stamp of them is above the clock
pub cells_past : (clock : ℕ) (slots : List Slot) (k : ℕ) (es : List Entity) (cells : List Cell) → AllByRecursion (IsSlot widths clock) slots → map (λ cell. Some cell) cells ≡ column_cells slots es k → AllByRecursion (IsPast clock) cells
cells_past clock slots k es [] h e = tt
cells_past clock slots k [] (c ∷ cells) h e = absurd (cc)
cells_past clock slots k (x ∷ es) (c ∷ cells) h e = (slot_past clock slots x k c h (let first : Some c ≡ cell_of slots x k = cc in sym first), cells_past clock slots k es cells h (cc))

module _ (s : World) (world : IsWorld widths s) where
  rise : AllByRecursion (λ slot. IsRising slot.row) s.slots
  rise = each-weaker (IsSlot widths s.clock) (λ slot. IsRising slot.row) (λ x h. h.rising) s.slots world.slots

  back_one : (layout : List Archetype) (p : ColumnAt) (c : TakenColumn) → IsLayoutOf s.slots layout → column_home (archetype_at layout p.archetype) (kind_number p.kind) ≡ Some true →
      IsColumn s.slots layout p c.archetype c.column →
      (homed_in (record { state = s; layout = with_home false p.archetype (kind_number p.kind) layout }) c.archetype c.column.kind c.column.cells ≡ record { state = s; layout = layout })
      × IsAway (record { state = s; layout = with_home false p.archetype (kind_number p.kind) layout }) c
  back_one layout p c laid home h =
      let k = kind_number p.kind in
      let n = p.archetype in
      let es = entities_home false n k n layout in
      let cells = h.cells_are in
      let again = same_again s.slots layout n k c.column.cells laid rise cells in (
        ap₂ (λ m j. homed_in (record { state = s; layout = with_home false n k layout }) m j c.column.cells) h.archetype_is h.kind_is
            ∙ ap (λ xs. let v : StoreValue = record { state = with_slots (slots_with xs k c.column.cells) s; layout = with_home true n k (with_home false n k layout) } in v) es
            ∙ ap₂ (λ slots l. let v : StoreValue = record { state = with_slots (λ _. slots) s; layout = l } in v) again (home_again n k layout home),
        record {
          away = ap₂ (λ m j. column_home (archetype_at (with_home false n k layout) m) j) h.archetype_is h.kind_is ∙ away_now n k layout home;
          same_length = sym (length-map c.column.cells (λ cell. Some cell)) ∙ ap length cells ∙ length-map (archetype_at layout n).entities (λ e. cell_of s.slots e k)
              ∙ ap length (sym es) ∙ ap (λ m. length (archetype_at (with_home false n k layout) m).entities) (sym h.archetype_is);
          past = cells_past s.clock s.slots k (archetype_at layout n).entities c.column.cells world.slots cells;
        },
      )

  -- taken and put back is nothing
  pub back_again : (layout : List Archetype) (ps : List ColumnAt) (cs : List TakenColumn) → IsLayoutOf s.slots layout → CanTake layout ps → AreTaken s.slots layout ps cs →
      (all_home cs (record { state = s; layout = all_away ps layout }) ≡ record { state = s; layout = layout }) × CanComeHome cs (record { state = s; layout = all_away ps layout })
  back_again layout [] [] laid can h = (refl, tt)
  back_again layout [] (c ∷ cs) laid can h = absurd h
  back_again layout (p ∷ ps) [] laid can h = absurd h
  back_again layout (p ∷ ps) (c ∷ cs) laid can h =
      let k = kind_number p.kind in
      let n = p.archetype in
      let more = back_again (with_home false n k layout) ps cs (laid_home s.slots false n k layout laid) can.1 (taken_home s.slots false n k layout ps cs h.1) in
      let one = back_one layout p c laid can.0 h.0 in
      (ap (λ w. homed_in w c.archetype c.column.kind c.column.cells) more.0 ∙ one.0, (more.1, subst (λ w. IsAway w c) (sym more.0) one.1))

-- ---- one after the other

all_away-append : (ps : List ColumnAt) (p : ColumnAt) (layout : List Archetype) → all_away (ps ++ p ∷ []) layout ≡ with_home false p.archetype (kind_number p.kind) (all_away ps layout)
all_away-append [] p layout = refl
all_away-append (q ∷ qs) p layout = all_away-append qs p (with_home false q.archetype (kind_number q.kind) layout)

entities_away : (ps : List ColumnAt) (layout : List Archetype) (m : ℕ) → (archetype_at (all_away ps layout) m).entities ≡ (archetype_at layout m).entities
entities_away [] layout m = refl
entities_away (p ∷ ps) layout m = entities_away ps (with_home false p.archetype (kind_number p.kind) layout) m ∙ entities_home false p.archetype (kind_number p.kind) m layout

taken-append : (slots : List Slot) (layout : List Archetype) (ps : List ColumnAt) (cs : List TakenColumn) (p : ColumnAt) (c : TakenColumn) → AreTaken slots layout ps cs → IsColumn slots layout p c.archetype c.column →
    AreTaken slots layout (ps ++ p ∷ []) (cs ++ c ∷ [])
taken-append slots layout [] [] p c h one = (one, tt)
taken-append slots layout [] (d ∷ cs) p c h one = absurd h
taken-append slots layout (q ∷ ps) [] p c h one = absurd h
taken-append slots layout (q ∷ ps) (d ∷ cs) p c h one = (h.0, taken-append slots layout ps cs p c h.1 one)

pub shared-append : (slots : List Slot) (layout : List Archetype) (ps : List ColumnAt) (cs : List SharedColumn) (p : ColumnAt) (c : SharedColumn) → AreShared slots layout ps cs →
    IsColumn slots layout p c.archetype (arc_value c.column) → AreShared slots layout (ps ++ p ∷ []) (cs ++ c ∷ [])
shared-append slots layout [] [] p c h one = (one, tt)
shared-append slots layout [] (d ∷ cs) p c h one = absurd h
shared-append slots layout (q ∷ ps) [] p c h one = absurd h
shared-append slots layout (q ∷ ps) (d ∷ cs) p c h one = (h.0, shared-append slots layout ps cs p c h.1 one)

-- the next one is at home
pub can_next : (layout : List Archetype) (ps : List ColumnAt) (i : ℕ) (p : ColumnAt) → i < length ps → p ≡ get_or ps i p → CanTake layout ps →
    column_home (archetype_at (all_away (take i ps) layout) p.archetype) (kind_number p.kind) ≡ Some true
can_next layout [] i p l is h = absurd (omega arith)
can_next layout (q ∷ ps) zero p l is h = ap (λ (x : ColumnAt). column_home (archetype_at layout x.archetype) (kind_number x.kind)) is ∙ h.0
can_next layout (q ∷ ps) (suc i) p l is h = can_next (with_home false q.archetype (kind_number q.kind) layout) ps i p (omega arith) is h.1

pub can_take : (layout : List Archetype) (ps : List ColumnAt) (i : ℕ) → CanTake layout ps → CanTake layout (take i ps)
can_take layout [] zero h = tt
can_take layout [] (suc i) h = tt
can_take layout (p ∷ ps) zero h = tt
can_take layout (p ∷ ps) (suc i) h = (h.0, can_take (with_home false p.archetype (kind_number p.kind) layout) ps i h.1)

module _ (slots : List Slot) (layout : List Archetype) (ps : List ColumnAt) (i : ℕ) (p : ColumnAt) (l : i < length ps) (is : p ≡ get_or ps i p) where
  so_far : take (i + 1) ps ≡ take i ps ++ p ∷ []
  so_far = take_more ps i p l ∙ ap (λ x. take i ps ++ x ∷ []) (sym is)

  pub away_next : all_away (take (i + 1) ps) layout ≡ with_home false p.archetype (kind_number p.kind) (all_away (take i ps) layout)
  away_next = ap (λ qs. all_away qs layout) so_far ∙ all_away-append (take i ps) p layout

  pub taken_next : (cs : List TakenColumn) (c : TakenColumn) → AreTaken slots layout (take i ps) cs → c.archetype ≡ p.archetype → c.column.kind ≡ kind_number p.kind →
      map (λ cell. Some cell) c.column.cells ≡ column_cells slots (archetype_at (all_away (take i ps) layout) p.archetype).entities (kind_number p.kind) →
      AreTaken slots layout (take (i + 1) ps) (cs ++ c ∷ [])
  taken_next cs c h a k cells = subst (λ qs. AreTaken slots layout qs (cs ++ c ∷ [])) (sym so_far)
      (taken-append slots layout (take i ps) cs p c h (record { archetype_is = a; kind_is = k; cells_are = cells ∙ ap (λ es. column_cells slots es (kind_number p.kind)) (entities_away (take i ps) layout p.archetype) }))

  pub shared_next : (cs : List SharedColumn) (c : SharedColumn) → AreShared slots layout (take i ps) cs → c.archetype ≡ p.archetype → (arc_value c.column).kind ≡ kind_number p.kind →
      map (λ cell. Some cell) (arc_value c.column).cells ≡ column_cells slots (archetype_at layout p.archetype).entities (kind_number p.kind) →
      AreShared slots layout (take (i + 1) ps) (cs ++ c ∷ [])
  shared_next cs c h a k cells = subst (λ qs. AreShared slots layout qs (cs ++ c ∷ [])) (sym so_far)
      (shared-append slots layout (take i ps) cs p c h (record { archetype_is = a; kind_is = k; cells_are = cells }))

-- ---- the last one comes home first

pub all_home-append : (cs : List TakenColumn) (c : TakenColumn) (w : StoreValue) → all_home (cs ++ c ∷ []) w ≡ all_home cs (homed_in w c.archetype c.column.kind c.column.cells)
all_home-append [] c w = refl
all_home-append (d ∷ cs) c w = ap (λ v. homed_in v d.archetype d.column.kind d.column.cells) (all_home-append cs c w)

pub can_come-append : (cs : List TakenColumn) (c : TakenColumn) (w : StoreValue) → CanComeHome (cs ++ c ∷ []) w → IsAway w c × CanComeHome cs (homed_in w c.archetype c.column.kind c.column.cells)
can_come-append [] c w h = (h.1, tt)
can_come-append (d ∷ cs) c w h =
    let more = can_come-append cs c w h.0 in (more.0, (more.1, subst (λ v. IsAway v d) (all_home-append cs c w) h.1))
