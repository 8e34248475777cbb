-- A column that comes home is a write of each of its entities' cells.
use Rattle.archetype_store.proofs.Common.{◌≡◌, ℕ, zero, suc, ℤ, ◌<◌, Bool, true, false, cond, ◌==◌, ◌&&◌, ◌||◌, List, [], ◌∷◌, get_or, map, Option, Some, None, option_map, refl, sym, ap, ap₂, subst, ◌∙◌, list_any, AllByRecursion, and_parts, Cell, Component, Slot, fresh_slot, is_living, cell_at, IsRising, is_alive, with_row, cell_after, component_after, row_after, slot_after, IsSlot, IsWorld, Entity, each-weaker, IsIn_from_any, list_any-IsIn, map_index-same, map_index-map_index, get_or-update_at-view, widths, is_same, TakenColumn, Archetype, archetype_at, with_column, with_home, has_index, IsLayoutOf, cell_for, row_with, cell_of, StoreValue, with_slots, slots_with, all_home, also_written, written_by, is_reached, IsAfter, AreReached, ColumnsAreOverlays, TakenAreOverlays, TakenClose, eqb-true}
use Rattle.model.specs.shown.Overlay.{slots_after}
use Rattle.column_store.proofs.Apart.{same_entity}
use Rattle.column_store.proofs.Apart.{same_self}
use Rattle.archetype_store.proofs.RowEdits.{above_absent}
use Rattle.model.proofs.serial.Laying.{slots_after-none}

-- ---- one row

row_after-same : (tick : ℕ) (f g : ℕ → Option (List ℤ)) (row : List Component) → ((m : ℕ) → f m ≡ g m) → row_after tick f row ≡ row_after tick g row
row_after-same tick f g [] h = refl
row_after-same tick f g (c ∷ cs) h = ap₂ ◌∷◌ (ap (λ o. let d : Component = record { kind = c.kind; cell = cell_after tick o c.cell } in d) (h c.kind)) (row_after-same tick f g cs h)

module _ (k tick : ℕ) (w : Option (List ℤ)) (before : ℕ → Option (List ℤ)) where
  other_head : (c : Component) (cs : List Component) → cell_at (c ∷ cs) k ≡ None → ((c.kind == k) ≡ false) × (cell_at cs k ≡ None)
  other_head c cs h = go (c.kind == k) h
    where
      go : (b : Bool) → cond b (Some c.cell) (cell_at cs k) ≡ None → (b ≡ false) × (cell_at cs k ≡ None)
      go true e = absurd (cc)
      go false e = (refl, e)

  row_with_other : (o : Option Cell) (d : Component) (rest : List Component) → (d.kind == k) ≡ false → row_with k o (d ∷ rest) ≡ d ∷ row_with k o rest
  row_with_other None d rest h = refl
  row_with_other (Some cell) d rest h = ap (λ b. cond b (let x : Component = record { kind = d.kind; cell = cell } in x) d ∷ row_with k (Some cell) rest) h

  row_with_absent : (o : Option Cell) (row : List Component) → cell_at row k ≡ None → row_with k o (row_after tick before row) ≡ row_after tick before row
  row_with_absent None row h = refl
  row_with_absent (Some cell) [] h = refl
  row_with_absent (Some cell) (c ∷ cs) h =
      let p = other_head c cs h in
      row_with_other (Some cell) (component_after tick before c) (row_after tick before cs) p.0 ∙ ap (λ rest. component_after tick before c ∷ rest) (row_with_absent (Some cell) cs p.1)

  also_absent : (row : List Component) → cell_at row k ≡ None → row_after tick (λ m. cond (m == k) w (before m)) row ≡ row_after tick before row
  also_absent [] h = refl
  also_absent (c ∷ cs) h =
      let p = other_head c cs h in
      ap₂ ◌∷◌ (ap (λ b. let d : Component = record { kind = c.kind; cell = cell_after tick (cond b w (before c.kind)) c.cell } in d) p.0) (also_absent cs p.1)

  -- a row with the cell of a kind after a write is the row after the write
  row_written : (row : List Component) → IsRising row →
      row_with k (option_map (cell_after tick w) (cell_at row k)) (row_after tick before row) ≡ row_after tick (λ m. cond (m == k) w (before m)) row
  row_written [] r = refl_nil (option_map (cell_after tick w) None)
    where
      refl_nil : (o : Option Cell) → row_with k o [] ≡ []
      refl_nil None = refl
      refl_nil (Some cell) = refl
  row_written (c ∷ cs) r = go (c.kind == k) refl (row_written cs r.1)
    where
      go : (b : Bool) → (c.kind == k) ≡ b → row_with k (option_map (cell_after tick w) (cell_at cs k)) (row_after tick before cs) ≡ row_after tick (λ m. cond (m == k) w (before m)) cs →
          row_with k (option_map (cell_after tick w) (cond b (Some c.cell) (cell_at cs k))) (component_after tick before c ∷ row_after tick before cs)
          ≡ (let d : Component = record { kind = c.kind; cell = cell_after tick (cond b w (before c.kind)) c.cell } in d) ∷ row_after tick (λ m. cond (m == k) w (before m)) cs
      go true same more =
          let none : cell_at cs k ≡ None = above_absent k cs (subst (λ n. AllByRecursion (λ (x : Component). n < x.kind) cs) (eqb-true c.kind k same) r.0) in
          ap (λ b. cond b (let x : Component = record { kind = c.kind; cell = cell_after tick w c.cell } in x) (component_after tick before c) ∷ row_with k (Some (cell_after tick w c.cell)) (row_after tick before cs)) same
          ∙ ap (λ rest. (let x : Component = record { kind = c.kind; cell = cell_after tick w c.cell } in x) ∷ rest) (row_with_absent (Some (cell_after tick w c.cell)) cs none ∙ sym (also_absent cs none))
      go false other more =
          row_with_other (option_map (cell_after tick w) (cell_at cs k)) (component_after tick before c) (row_after tick before cs) other
          ∙ ap (λ rest. component_after tick before c ∷ rest) more

-- ---- the cell beside an entity

pub cell_for-map : (F : Entity → Option Cell) (e : Entity) (es : List Entity) (cells : List Cell) → map (λ cell. Some cell) cells ≡ map F es →
    cell_for e es cells ≡ cond (list_any (λ x. is_same x e) es) (F e) None
cell_for-map F e [] cells h = refl
cell_for-map F e (x ∷ es) [] h = absurd (cc)
cell_for-map F e (x ∷ es) (c ∷ cells) h = go (is_same x e) refl (cell_for-map F e es cells (cc))
  where
    go : (b : Bool) → is_same x e ≡ b → cell_for e es cells ≡ cond (list_any (λ y. is_same y e) es) (F e) None →
        cond b (Some c) (cell_for e es cells) ≡ cond (b || list_any (λ y. is_same y e) es) (F e) None
    go true same more = (let first : Some c ≡ F x = cc in first ∙ ap F (same_entity x e same))
    go false other more = more

any_weaker : (p q : Entity → Bool) (xs : List Entity) → ((x : Entity) → p x ≡ true → q x ≡ true) → list_any p xs ≡ true → list_any q xs ≡ true
any_weaker p q xs f h = let x = IsIn_from_any p xs h in list_any-IsIn q x.0 xs x.1 (f x.0 x.2)

alone : (slots : List Slot) (x : Entity) (i : ℕ) → (x.index == i) ≡ true → is_alive slots x ≡ true → x ≡ record { index = i; generation = (get_or slots i fresh_slot).generation }
alone slots x i at alive =
    let index = eqb-true x.index i at in
    let generation = eqb-true (get_or slots x.index fresh_slot).generation x.generation (and_parts (is_living (get_or slots x.index fresh_slot).status) ((get_or slots x.index fresh_slot).generation == x.generation) alive).1 in
    ap₂ (λ j g. let e : Entity = record { index = j; generation = g } in e) index (sym generation ∙ ap (λ j. (get_or slots j fresh_slot).generation) index)

rising_at : (slots : List Slot) (i : ℕ) → AllByRecursion (λ slot. IsRising slot.row) slots → IsRising (get_or slots i fresh_slot).row
rising_at [] i h = tt
rising_at (s ∷ ss) zero h = h.0
rising_at (s ∷ ss) (suc i) h = rising_at ss i h.1

module _ (slots : List Slot) (layout : List Archetype) (n k tick : ℕ) (words before : ℕ → ℕ → Option (List ℤ)) (cells : List Cell) (laid : IsLayoutOf slots layout)
    (rise : AllByRecursion (λ slot. IsRising slot.row) slots)
    (are : map (λ cell. Some cell) cells ≡ map (λ e. option_map (cell_after tick (words e.index k)) (cell_of slots e k)) (archetype_at layout n).entities) where
  row_one : (i : ℕ) (b : Bool) → list_any (λ x. is_same x (record { index = i; generation = (get_or slots i fresh_slot).generation })) (archetype_at layout n).entities ≡ b →
      row_with k (cond b (option_map (cell_after tick (words i k)) (cell_of slots (record { index = i; generation = (get_or slots i fresh_slot).generation }) k)) None)
      (row_after tick (before i) (get_or slots i fresh_slot).row)
      ≡ row_after tick (also_written (archetype_at layout n).entities k words before i) (get_or slots i fresh_slot).row
  row_one i true there =
      let e : Entity = record { index = i; generation = (get_or slots i fresh_slot).generation } in
      let row = (get_or slots i fresh_slot).row in
      let indexed : has_index i (archetype_at layout n).entities ≡ true =
      any_weaker (λ x. is_same x e) (λ x. x.index == i) (archetype_at layout n).entities (λ x h. (and_parts (x.index == i) (x.generation == e.generation) h).0) there in
      ap (λ b. row_with k (option_map (cell_after tick (words i k)) (cond b (cell_at row k) None)) (row_after tick (before i) row)) (laid.theirs n e there).0
      ∙ row_written k tick (words i k) (before i) row (rising_at slots i rise)
      ∙ row_after-same tick (λ m. cond (m == k) (words i k) (before i m)) (also_written (archetype_at layout n).entities k words before i) row (λ m. one m (m == k) refl indexed)
    where
      one : (m : ℕ) (b : Bool) → (m == k) ≡ b → has_index i (archetype_at layout n).entities ≡ true →
          cond b (words i k) (before i m) ≡ cond (has_index i (archetype_at layout n).entities && b) (words i m) (before i m)
      one m true same indexed = ap (words i) (sym (eqb-true m k same)) ∙ sym (ap (λ d. cond (d && true) (words i m) (before i m)) indexed)
      one m false other indexed = sym (ap (λ d. cond (d && false) (words i m) (before i m)) indexed)
  row_one i false absent = row_after-same tick (before i) (also_written (archetype_at layout n).entities k words before i) (get_or slots i fresh_slot).row
      (λ m. sym (ap (λ d. cond (d && (m == k)) (words i m) (before i m)) (none (has_index i (archetype_at layout n).entities) refl)))
    where
      none : (b : Bool) → has_index i (archetype_at layout n).entities ≡ b → has_index i (archetype_at layout n).entities ≡ false
      none false h = h
      none true h =
          let x = IsIn_from_any (λ (y : Entity). y.index == i) (archetype_at layout n).entities h in
          let e : Entity = record { index = i; generation = (get_or slots i fresh_slot).generation } in
          let there = list_any-IsIn (λ (y : Entity). is_same y x.0) x.0 (archetype_at layout n).entities x.1 (same_self x.0) in
          let same = alone slots x.0 i x.2 (laid.theirs n x.0 there).0 in
          let found : list_any (λ y. is_same y e) (archetype_at layout n).entities ≡ true = ap (λ z. list_any (λ y. is_same y z) (archetype_at layout n).entities) (sym same) ∙ there in
          absurd (let f : true ≡ false = sym found ∙ absent in cc)

  pub column_overlay : slots_with (archetype_at layout n).entities k cells (slots_after tick before slots) ≡ slots_after tick (also_written (archetype_at layout n).entities k words before) slots
  unfolding slots_after
  column_overlay =
      let f = λ (i : ℕ) (s : Slot). with_row (row_with k (cell_for (record { index = i; generation = s.generation }) (archetype_at layout n).entities cells)) s in
      map_index-map_index f (λ index. slot_after tick (before index)) slots
      ∙ map_index-same (λ i s. f i (slot_after tick (before i) s)) (λ index. slot_after tick (also_written (archetype_at layout n).entities k words before index)) fresh_slot slots
      (λ i. let s = get_or slots i fresh_slot in let e : Entity = record { index = i; generation = s.generation } in
      ap (λ row. let t : Slot = record { generation = s.generation; status = s.status; row = row } in t)
      (ap (λ o. row_with k o (row_after tick (before i) s.row)) (cell_for-map (λ x. option_map (cell_after tick (words x.index k)) (cell_of slots x k)) e (archetype_at layout n).entities cells are)
      ∙ row_one i (list_any (λ x. is_same x e) (archetype_at layout n).entities) refl))

pub columns_are_overlays : ColumnsAreOverlays
columns_are_overlays slots layout n kind tick words before cells laid rise are = column_overlay slots layout n kind tick words before cells laid rise are

-- ---- no writes

slots_after-same : (tick : ℕ) (f g : ℕ → ℕ → Option (List ℤ)) (slots : List Slot) → ((i m : ℕ) → f i m ≡ g i m) → slots_after tick f slots ≡ slots_after tick g slots
unfolding slots_after
slots_after-same tick f g slots h = map_index-same (λ index. slot_after tick (f index)) (λ index. slot_after tick (g index)) fresh_slot slots
    (λ i. let s = get_or slots i fresh_slot in ap (λ row. let t : Slot = record { generation = s.generation; status = s.status; row = row } in t) (row_after-same tick (f i) (g i) s.row (h i)))

-- ---- layouts

entities_kept : (h : Bool) (k n m : ℕ) (layout : List Archetype) → (archetype_at (with_home h n k layout) m).entities ≡ (archetype_at layout m).entities
entities_kept h k n m layout = get_or-update_at-view (λ (a : Archetype). a.entities) n m (with_column h k) layout (record { kinds = []; entities = []; homes = [] }) (λ a. refl)

pub entities_home : (h : Bool) (n k m : ℕ) (layout : List Archetype) → (archetype_at (with_home h n k layout) m).entities ≡ (archetype_at layout m).entities
entities_home h n k m layout = entities_kept h k n m layout

pub entities_all_home : (w : StoreValue) (cs : List TakenColumn) (m : ℕ) → (archetype_at (all_home cs w).layout m).entities ≡ (archetype_at w.layout m).entities
entities_all_home w [] m = refl
entities_all_home w (c ∷ cs) m = entities_home true c.archetype c.column.kind m (all_home cs w).layout ∙ entities_all_home w cs m

-- ---- all columns

module _ (w : StoreValue) (tick : ℕ) (words : ℕ → ℕ → Option (List ℤ)) (laid : IsLayoutOf w.state.slots w.layout) (world : IsWorld widths w.state) where
  rise : AllByRecursion (λ slot. IsRising slot.row) w.state.slots
  rise = each-weaker (IsSlot widths w.state.clock) (λ slot. IsRising slot.row) (λ s h. h.rising) w.state.slots world.slots

  taken_overlays : (cs : List TakenColumn) → AllByRecursion (IsAfter w tick words) cs → (all_home cs w).state ≡ with_slots (slots_after tick (written_by w.layout words cs)) w.state
  taken_overlays [] h = ap (λ slots. with_slots (λ _. slots) w.state) (sym (slots_after-none tick w.state.slots))
  taken_overlays (c ∷ cs) h =
      ap (with_slots (slots_with (archetype_at (all_home cs w).layout c.archetype).entities c.column.kind c.column.cells)) (taken_overlays cs h.1)
      ∙ ap (λ es. with_slots (slots_with es c.column.kind c.column.cells) (with_slots (slots_after tick (written_by w.layout words cs)) w.state)) (entities_all_home w cs c.archetype)
      ∙ ap (λ slots. with_slots (λ _. slots) w.state)
      (column_overlay w.state.slots w.layout c.archetype c.column.kind tick words (written_by w.layout words cs) c.column.cells laid rise h.0)

  reached_step : (a b : Bool) (x : Option (List ℤ)) → cond a x (cond b x None) ≡ cond (a || b) x None
  reached_step true b x = refl
  reached_step false b x = refl

  written_is : (cs : List TakenColumn) (i k : ℕ) → written_by w.layout words cs i k ≡ cond (is_reached w.layout cs i k) (words i k) None
  written_is [] i k = refl
  written_is (c ∷ cs) i k =
      let here = has_index i (archetype_at w.layout c.archetype).entities && (k == c.column.kind) in
      ap (cond here (words i k)) (written_is cs i k) ∙ reached_step here (is_reached w.layout cs i k) (words i k)

  all_words : (cs : List TakenColumn) → AreReached w.layout cs words → (i k : ℕ) → written_by w.layout words cs i k ≡ words i k
  all_words cs reach i k = written_is cs i k ∙ go (words i k) refl
    where
      go : (o : Option (List ℤ)) → words i k ≡ o → cond (is_reached w.layout cs i k) (words i k) None ≡ words i k
      go None none = ap (λ x. cond (is_reached w.layout cs i k) x None) none ∙ same (is_reached w.layout cs i k) ∙ sym none
        where
          same : (b : Bool) → cond b (let x : Option (List ℤ) = None in x) None ≡ None
          same true = refl
          same false = refl
      go (Some v) some = ap (λ b. cond b (words i k) None) (reach i k v some)

pub taken_are_overlays : TakenAreOverlays
taken_are_overlays w tick words columns laid world after = taken_overlays w tick words laid world columns after

pub taken_close : TakenClose
taken_close w tick words columns laid world after reach =
    taken_overlays w tick words laid world columns after
    ∙ ap (λ slots. with_slots (λ _. slots) w.state) (slots_after-same tick (written_by w.layout words columns) words w.state.slots (all_words w tick words laid world columns reach))

-- ---- a column that comes home as it left

same_cell : (o : Option Cell) → option_map (cell_after 0 None) o ≡ o
same_cell None = refl
same_cell (Some c) = refl

same_cells : (slots : List Slot) (k : ℕ) (es : List Entity) → map (λ e. cell_of slots e k) es ≡ map (λ e. option_map (cell_after 0 None) (cell_of slots e k)) es
same_cells slots k [] = refl
same_cells slots k (e ∷ es) = ap₂ ◌∷◌ (sym (same_cell (cell_of slots e k))) (same_cells slots k es)

none_either : (b : Bool) → cond b (let x : Option (List ℤ) = None in x) None ≡ None
none_either true = refl
none_either false = refl

pub same_again : (slots : List Slot) (layout : List Archetype) (n k : ℕ) (cells : List Cell) → IsLayoutOf slots layout → AllByRecursion (λ slot. IsRising slot.row) slots →
    map (λ cell. Some cell) cells ≡ map (λ e. cell_of slots e k) (archetype_at layout n).entities → slots_with (archetype_at layout n).entities k cells slots ≡ slots
same_again slots layout n k cells laid rise are =
    ap (slots_with (archetype_at layout n).entities k cells) (sym (slots_after-none 0 slots))
    ∙ column_overlay slots layout n k 0 (λ _ _. None) (λ _ _. None) cells laid rise (are ∙ same_cells slots k (archetype_at layout n).entities)
    ∙ slots_after-same 0 (also_written (archetype_at layout n).entities k (λ _ _. None) (λ _ _. None)) (λ _ _. None) slots (λ i m. none_either (has_index i (archetype_at layout n).entities && (m == k)))
    ∙ slots_after-none 0 slots
