-- An id book with rows: what keeps it, and what a change of a row makes of the slots.
use Rattle.archetype_store.proofs.Common.{cond, option_map, Cell, cell_at, cell_of, words_of, ◌≡◌, ℕ, ◌<◌, ◌≤◌, true, false, ◌==◌, ◌⊎◌, inl, inr, List, [], length, Option, Some, None, refl, ap, sym, ◌∙◌, arith, cases_lt, and_parts, false≢true, get_or_past, Entity, Slot, fresh_slot, is_living, is_granted, row_at, is_alive, slot_at, lives_at, with_rows, StorageValue, row_of, holder_of, IsHolder, HasRows, eqb-true}
use Rattle.entity_table.proofs.Releases.{granted-lives}
use Rattle.entity_table.proofs.WithRows.{length-with_rows, row_at-with_rows}

-- ---- who lives

module _ (book : List Slot) (a : StorageValue) (h : HasRows book a) where
  -- an entity that lives is the one that has the row of its index
  pub holder_lives : (e : Entity) → is_alive book e ≡ true → IsHolder e.generation (holder_of a.holders e.index)
  holder_lives e alive = go (holder_of a.holders e.index) refl
    where
      go : (o : Option ℕ) → holder_of a.holders e.index ≡ o → IsHolder e.generation o
      go None k = tt
      go (Some g) k =
          let there = eqb-true (slot_at book e.index).generation g (and_parts (lives_at book e.index) ((slot_at book e.index).generation == g) (h.live e.index g k)).1 in
          let here = eqb-true (slot_at book e.index).generation e.generation (and_parts (lives_at book e.index) ((slot_at book e.index).generation == e.generation) alive).1 in
          sym there ∙ here

  -- so is one of the generation of its index
  pub holder_there : (e : Entity) → (slot_at book e.index).generation ≡ e.generation → IsHolder e.generation (holder_of a.holders e.index)
  holder_there e same = go (holder_of a.holders e.index) refl
    where
      go : (o : Option ℕ) → holder_of a.holders e.index ≡ o → IsHolder e.generation o
      go None k = tt
      go (Some g) k = sym (eqb-true (slot_at book e.index).generation g (and_parts (lives_at book e.index) ((slot_at book e.index).generation == g) (h.live e.index g k)).1) ∙ same

  -- ---- what is empty

  -- an index whose entity doesn't live
  pub dead_empty : (i : ℕ) → lives_at book i ≡ false → row_of a.rows i ≡ []
  dead_empty i dead = go (holder_of a.holders i) refl
    where
      go : (o : Option ℕ) → holder_of a.holders i ≡ o → row_of a.rows i ≡ []
      go None k = h.empty i k
      go (Some g) k = absurd (false≢true (sym dead ∙ (and_parts (lives_at book i) ((slot_at book i).generation == g) (h.live i g k)).0))

  -- one that is granted
  pub granted_empty : (i : ℕ) → is_granted (slot_at book i).status ≡ true → row_of a.rows i ≡ []
  granted_empty i e = dead_empty i (granted-lives book i e)

  -- one past the end
  pub past_empty : (i : ℕ) → length book ≤ i → row_of a.rows i ≡ []
  past_empty i l = dead_empty i (ap (λ (s : Slot). is_living s.status) (get_or_past book i fresh_slot l))

-- ---- what keeps rows

-- another book, where who lives lives on
pub rows-kept : (book other : List Slot) (a : StorageValue) → ((e : Entity) → is_alive book e ≡ true → is_alive other e ≡ true) → HasRows book a → HasRows other a
rows-kept book other a on h = record { live = λ i g k. on (record { index = i; generation = g }) (h.live i g k); empty = h.empty }

-- ---- what is seen

module _ (book : List Slot) (a : StorageValue) (h : HasRows book a) where
  -- the row of an index
  pub row_at_slots : (i : ℕ) → row_at (with_rows (row_of a.rows) book) i ≡ row_of a.rows i
  row_at_slots i = go (cases_lt i (length book))
    where
      go : (i < length book) ⊎ (length book ≤ i) → row_at (with_rows (row_of a.rows) book) i ≡ row_of a.rows i
      go (inl l) = row_at-with_rows (row_of a.rows) book i l
      go (inr l) = ap (λ (s : Slot). s.row) (get_or_past (with_rows (row_of a.rows) book) i fresh_slot (let e = length-with_rows (row_of a.rows) book in omega arith)) ∙ sym (past_empty book a h i l)

-- the cell of an entity that lives
pub cell_alive : (book : List Slot) (a : StorageValue) → HasRows book a → (slots : List Slot) → with_rows (row_of a.rows) book ≡ slots → (e : Entity) (k : ℕ) → is_alive slots e ≡ true →
    cell_at (row_of a.rows e.index) k ≡ cell_of slots e k
cell_alive book a h slots seen e k alive =
    ap (λ r. cell_at r k) (sym (row_at_slots book a h e.index) ∙ ap (λ s. row_at s e.index) seen) ∙ sym (ap (λ b. cond b (cell_at (row_at slots e.index) k) None) alive)

words_of_cell : (o : Option Cell) → words_of o ≡ option_map (λ (c : Cell). c.words) o
words_of_cell None = refl
words_of_cell (Some c) = refl

-- and its words, of the kind by another name
pub words_alive : (book : List Slot) (a : StorageValue) → HasRows book a → (slots : List Slot) → with_rows (row_of a.rows) book ≡ slots → (e : Entity) (k n : ℕ) → n ≡ k → is_alive slots e ≡ true →
    (o : Option Cell) → o ≡ cell_at (row_of a.rows e.index) n → option_map (λ (c : Cell). c.words) o ≡ words_of (cell_of slots e k)
words_alive book a h slots seen e k n same alive o at = sym (words_of_cell o) ∙ ap words_of (at ∙ ap (cell_at (row_of a.rows e.index)) same ∙ cell_alive book a h slots seen e k alive)
