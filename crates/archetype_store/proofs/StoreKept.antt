-- What keeps the inside of a store: rows that are alike, and slots that a call of the id book changed.
use Rattle.archetype_store.proofs.Common.{◌≡◌, true, ℕ, ◌<◌, ◌≤◌, List, set, Result, Ok, Err, OnOk, OnErr, sym, ap, subst, ◌∙◌, arith, widths, Entity, is_alive, Slot, World, IsWorld, with_rows, lent, TableIndex, HasRows, slots_seen, store_seen, IsStore, RowsValue, rows_seen, StorageValue, row_of, holder_of, StoreValue, with_slots, IsIndexed, table_at, IsTableOf}
use Rattle.model.specs.state.State.{Resource}
use Rattle.archetype_store.proofs.ArchetypeColumns.{value_lent}
use Rattle.archetype_store.proofs.SlotRows.{rows-kept}

-- ---- rows that are alike

module _ (book : List Slot) (a b : StorageValue) (rows : (i : ℕ) → row_of b.rows i ≡ row_of a.rows i) where
  pub alike_held : ((i : ℕ) → holder_of b.holders i ≡ holder_of a.holders i) → HasRows book a → HasRows book b
  alike_held holders held = record { live = λ i g h. held.live i g (sym (holders i) ∙ h); empty = λ i h. rows i ∙ held.empty i (sym (holders i) ∙ h) }

  pub alike_slots : with_rows (row_of b.rows) book ≡ with_rows (row_of a.rows) book
  alike_slots = λ i. with_rows (λ k. rows k i) book

-- ---- other slots

module _ (w : World) (f : List Slot → List Slot) (slots : List Slot) (is : slots ≡ f w.slots) where
  pub other_state : (let x : World = record { slots = slots; resources = w.resources; clock = w.clock } in x) ≡ with_slots f w
  other_state = ap (λ s. let x : World = record { slots = s; resources = w.resources; clock = w.clock } in x) is

  pub other_shape : IsWorld widths (with_slots f w) → IsWorld widths (record { slots = slots; resources = w.resources; clock = w.clock })
  other_shape h = subst (IsWorld widths) (sym other_state) h

-- another book and other rows, whose slots are a function of those before
module _ {book : List Slot} {v : RowsValue} {index : TableIndex} {resources : List Resource} {clock : ℕ} (h : IsStore book v index resources clock)
    (f : List Slot → List Slot) (new : List Slot) (u : RowsValue) (is : slots_seen new u ≡ f (slots_seen book v)) where
  -- the state
  pub store_state : (s : StoreValue) → store_seen book v resources clock ≡ s → (store_seen new u resources clock).state ≡ with_slots f s.state
  store_state s seen = other_state (store_seen book v resources clock).state f (slots_seen new u) is ∙ ap (λ (x : StoreValue). with_slots f x.state) seen

  -- the inside
  pub store_kept : (other : TableIndex) → HasRows new (rows_seen u) → IsIndexed u.tables other → IsWorld widths (with_slots f (store_seen book v resources clock).state) → IsStore new u other resources clock
  store_kept other held indexed shape = record { held = held; indexed = indexed; shape = other_shape (store_seen book v resources clock).state f (slots_seen new u) is shape }

-- another book alone, in which who lives lives on
pub book_kept : {book : List Slot} {v : RowsValue} {index : TableIndex} {resources : List Resource} {clock : ℕ} → IsStore book v index resources clock →
    (f : List Slot → List Slot) (new : List Slot) → new ≡ f book → slots_seen new v ≡ f (slots_seen book v) → ((e : Entity) → is_alive book e ≡ true → is_alive (f book) e ≡ true) →
    IsWorld widths (with_slots f (store_seen book v resources clock).state) → IsStore new v index resources clock
book_kept {book = book} {v = v} {index = index} h f new done is alive shape =
    store_kept h f new v is index (subst (λ slots. HasRows slots (rows_seen v)) (sym done) (rows-kept book (f book) (rows_seen v) alive h.held)) h.indexed shape

pub less_than : (n m : ℕ) → n ≤ m → (n ≡ m → ⊥) → n < m
less_than n m l other = grind arith

-- ---- the store of a book and rows

abbrev pub seen_as : List Slot → World → StorageValue → StoreValue
seen_as book w a = record { state = record { slots = with_rows (row_of a.rows) book; resources = w.resources; clock = w.clock }; layout = a.layout }

-- a column that left, or didn't, changes no row
pub lent_alike : {A E : Type 0} (r : Result A E) (v u : RowsValue) (n t k : ℕ) → IsTableOf v.tables n t → OnOk r (u ≡ record v { tables = set v.tables t (lent (table_at v.tables t) k) }) → OnErr r (u ≡ v) →
    ((i : ℕ) → row_of (rows_seen u).rows i ≡ row_of (rows_seen v).rows i) × ((i : ℕ) → holder_of (rows_seen u).holders i ≡ holder_of (rows_seen v).holders i)
lent_alike (Ok x) v u n t k at away err =
    let same = ap rows_seen away ∙ value_lent v.tables v.places n t k at in
    (λ i. ap (λ (a : StorageValue). row_of a.rows i) same, λ i. ap (λ (a : StorageValue). holder_of a.holders i) same)
lent_alike (Err x) v u n t k at away err =
    let same = ap rows_seen err in
    (λ i. ap (λ (a : StorageValue). row_of a.rows i) same, λ i. ap (λ (a : StorageValue). holder_of a.holders i) same)
