-- Columns of slots and of worlds.
use Rattle.archetype_store.proofs.Common.{◌≡◌, ℕ, Bool, true, false, cond, ◌==◌, List, [], ◌∷◌, length, Option, Some, None, refl, sym, ap, subst, ◌∙◌, arith, AllByRecursion, and_parts, Cell, Component, Slot, World, fresh_slot, row_at, cell_at, IsRising, is_alive, with_row, IsComponent, IsSlot, IsWorld, Entity, map-same, list_any-IsIn, map_index-same, map_index-map_index, length-map_index, each-map_index, is_same, slot_at, lives_at, with_rows, archetype_at, is_in_archetype, StorageValue, row_of, holder_of, row_cells, cell_for, cell_held, row_with, IsFilled, IsLaidOut, cell_of, column_cells, HasRows, with_slots, slots_with, IsPast, AreBelow, eqb-true}
use Rattle.entity_table.proofs.WithRows.{is_alive-with_rows}
use Rattle.column_store.proofs.Apart.{same_self}
use Rattle.archetype_store.proofs.ArchetypeColumns.{row_with_kinds}
use Rattle.archetype_store.proofs.RowEdits.{below_from_rising, rising_from_below}
use Rattle.archetype_store.proofs.SlotRows.{row_at_slots}
use Rattle.archetype_store.proofs.WorldShape.{world-slots}

-- ---- cells of slots

module _ (book : List Slot) (a : StorageValue) (h : HasRows book a) (laid : IsLaidOut a) (n k : ℕ) where
  cell_seen : (e : Entity) → is_in_archetype e (archetype_at a.layout n) ≡ true → cell_at (row_of a.rows e.index) k ≡ cell_of (with_rows (row_of a.rows) book) e k
  cell_seen e there =
      let slots = with_rows (row_of a.rows) book in
      let alive : is_alive slots e ≡ true = is_alive-with_rows (row_of a.rows) book e ∙ h.live e.index e.generation (laid.theirs n e there).0 in
      ap (λ row. cell_at row k) (sym (row_at_slots book a h e.index)) ∙ sym (ap (λ b. cond b (cell_at (row_at slots e.index) k) None) alive)

  -- the cells of a kind of an archetype's entities
  pub cells_seen : row_cells a.rows (archetype_at a.layout n).entities k ≡ column_cells (with_rows (row_of a.rows) book) (archetype_at a.layout n).entities k
  cells_seen = map-same (λ (e : Entity). cell_at (row_of a.rows e.index) k) (λ (e : Entity). cell_of (with_rows (row_of a.rows) book) e k) (archetype_at a.layout n).entities
      (λ e here. cell_seen e (list_any-IsIn (λ (x : Entity). is_same x e) e (archetype_at a.layout n).entities here (same_self e)))

-- ---- a column that comes home

row_with_nil : (k : ℕ) (o : Option Cell) → row_with k o [] ≡ []
row_with_nil k None = refl
row_with_nil k (Some c) = refl

module _ (book : List Slot) (a b : StorageValue) (n k : ℕ) (cells : List Cell) (filled : IsFilled a n k cells b) (h : HasRows book a) where
  empty_after : (i : ℕ) (o : Option ℕ) → holder_of a.holders i ≡ o → o ≡ None → row_of b.rows i ≡ []
  empty_after i None at none = filled.rows i ∙ ap (row_with k (cell_held (archetype_at a.layout n).entities cells i (holder_of a.holders i))) (h.empty i at)
      ∙ row_with_nil k (cell_held (archetype_at a.layout n).entities cells i (holder_of a.holders i))
  empty_after i (Some g) at none = absurd (cc)

  pub rows_homed : HasRows book b
  rows_homed = record {
    live = λ i g at. h.live i g (ap (λ hs. holder_of hs i) (sym filled.holders) ∙ at);
    empty = λ i at. empty_after i (holder_of a.holders i) refl (ap (λ hs. holder_of hs i) (sym filled.holders) ∙ at);
  }

  row_after : (i : ℕ) (o : Option ℕ) → holder_of a.holders i ≡ o →
      row_of b.rows i ≡ row_with k (cell_for (record { index = i; generation = (slot_at book i).generation }) (archetype_at a.layout n).entities cells) (row_of a.rows i)
  row_after i None at =
      empty_after i None at refl ∙ sym (ap (row_with k (cell_for (record { index = i; generation = (slot_at book i).generation }) (archetype_at a.layout n).entities cells)) (h.empty i at)
      ∙ row_with_nil k (cell_for (record { index = i; generation = (slot_at book i).generation }) (archetype_at a.layout n).entities cells))
  row_after i (Some g) at =
      let same = eqb-true (slot_at book i).generation g (and_parts (lives_at book i) ((slot_at book i).generation == g) (h.live i g at)).1 in
      filled.rows i ∙ ap (λ o. row_with k (cell_held (archetype_at a.layout n).entities cells i o) (row_of a.rows i)) at
      ∙ ap (λ x. row_with k (cell_for (record { index = i; generation = x }) (archetype_at a.layout n).entities cells) (row_of a.rows i)) (sym same)

  pub slots_homed : with_rows (row_of b.rows) book ≡ slots_with (archetype_at a.layout n).entities k cells (with_rows (row_of a.rows) book)
  slots_homed =
      let f = λ (i : ℕ) (s : Slot). with_row (row_with k (cell_for (record { index = i; generation = s.generation }) (archetype_at a.layout n).entities cells)) s in
      let g = λ (i : ℕ) (s : Slot). with_row (λ old. row_of a.rows i) s in
      map_index-same (λ i. with_row (λ old. row_of b.rows i)) (λ i s. f i (g i s)) fresh_slot book
      (λ i. ap (λ row. let s : Slot = record { generation = (slot_at book i).generation; status = (slot_at book i).status; row = row } in s) (row_after i (holder_of a.holders i) refl))
      ∙ sym (map_index-map_index f g book)

-- ---- worlds

cell_for_each : (P : Cell → Type 0) (e : Entity) (es : List Entity) (cells : List Cell) (c : Cell) → AllByRecursion P cells → cell_for e es cells ≡ Some c → P c
cell_for_each P e [] cells c h at = absurd (cc)
cell_for_each P e (x ∷ es) [] c h at = absurd (cc)
cell_for_each P e (x ∷ es) (d ∷ cells) c h at = go (is_same x e) at (cell_for_each P e es cells c h.1)
  where
    go : (b : Bool) → cond b (Some d) (cell_for e es cells) ≡ Some c → (cell_for e es cells ≡ Some c → P c) → P c
    go true k more = (let same : d ≡ c = cc in subst P same h.0)
    go false k more = more k

-- a cell of a kind's width with past stamps
pub record IsFit (W : ℕ → ℕ) (clock k : ℕ) (c : Cell) : Type 0 where
  pub width : length c.words ≡ W k
  pub past : IsPast clock c

fit_each : (W : ℕ → ℕ) (clock k : ℕ) (cells : List Cell) → AllByRecursion (λ c. length c.words ≡ W k) cells → AllByRecursion (IsPast clock) cells → AllByRecursion (IsFit W clock k) cells
fit_each W clock k [] h p = tt
fit_each W clock k (c ∷ cs) h p = (record { width = h.0; past = p.0 }, fit_each W clock k cs h.1 p.1)

components_with : (W : ℕ → ℕ) (clock k : ℕ) (o : Option Cell) (row : List Component) → ((c : Cell) → o ≡ Some c → IsFit W clock k c) → AllByRecursion (IsComponent W clock) row →
    AllByRecursion (IsComponent W clock) (row_with k o row)
components_with W clock k None row fit h = h
components_with W clock k (Some cell) [] fit h = tt
components_with W clock k (Some cell) (c ∷ cs) fit h = (go (c.kind == k) refl, components_with W clock k (Some cell) cs fit h.1)
  where
    go : (b : Bool) → (c.kind == k) ≡ b → IsComponent W clock (cond b (let d : Component = record { kind = c.kind; cell = cell } in d) c)
    go true same = let f = fit cell refl in record { width = f.width ∙ ap W (sym (eqb-true c.kind k same)); added = f.past.added; changed = f.past.changed }
    go false other = h.0

rising_with : (k : ℕ) (o : Option Cell) (row : List Component) → IsRising row → IsRising (row_with k o row)
rising_with k o row h = rising_from_below (row_with k o row) (subst AreBelow (sym (row_with_kinds k o row)) (below_from_rising row h))

slot_with : (W : ℕ → ℕ) (clock k : ℕ) (o : Option Cell) (s : Slot) → ((c : Cell) → o ≡ Some c → IsFit W clock k c) → IsSlot W clock s → IsSlot W clock (with_row (row_with k o) s)
slot_with W clock k o s fit h = record {
  least = h.least;
  most = h.most;
  came_back = h.came_back;
  retired = h.retired;
  no_row = λ dead. ap (row_with k o) (h.no_row dead) ∙ row_with_nil k o;
  rising = rising_with k o s.row h.rising;
  components = components_with W clock k o s.row fit h.components;
}

pub world_homed : (W : ℕ → ℕ) (w : World) (es : List Entity) (k : ℕ) (cells : List Cell) → AllByRecursion (λ c. length c.words ≡ W k) cells → AllByRecursion (IsPast w.clock) cells →
    IsWorld W w → IsWorld W (with_slots (slots_with es k cells) w)
world_homed W w es k cells wide past h =
    let f = λ (i : ℕ) (s : Slot). with_row (row_with k (cell_for (record { index = i; generation = s.generation }) es cells)) s in
    world-slots W w (slots_with es k cells w.slots)
    (each-map_index (IsSlot W w.clock) (IsSlot W w.clock) f
    (λ i s. slot_with W w.clock k (cell_for (record { index = i; generation = s.generation }) es cells) s
    (λ c at. cell_for_each (IsFit W w.clock k) (record { index = i; generation = s.generation }) es cells c (fit_each W w.clock k cells wide past) at)) w.slots h.slots)
    (let l = length-map_index f w.slots in omega (arith, h.few)) h
