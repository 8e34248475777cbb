-- What a call makes of slots with rows, by what it makes of the book without them.
use Rattle.std.proofs.Common.{◌≡◌, ◌≢◌, ℕ, zero, suc, ◌+◌, ◌-◌, ◌<◌, ◌≤◌, Bool, true, false, cond, ◌==◌, ◌&&◌, nat_le, List, [], ◌∷◌, ◌++◌, length, replicate, refl, ap, ap₂, sym, ◌∙◌, arith}
use Rattle.std.proofs.lemmas.Bool.{eq-eqb}
use Rattle.model.specs.declared.entities.Entity.{Entity}
use Rattle.model.specs.Lists.{update_at, with_at}
use Rattle.model.specs.state.State.{Component, Slot, fresh_slot, is_vacant, is_granted, is_living, last_generation, most_indices}
use Rattle.model.specs.state.State.Status.{Vacant, Living, Retired}
use Rattle.model.specs.state.Rows.{row_at}
use Rattle.model.specs.state.Ids.{vacant_indices, with_room, has_ids, granted_ids, granted_slot, grant, has_ids_for_each, ids_of_each, grant_each}
use Rattle.model.specs.state.Commands.{is_alive, spawned, freed, with_row, names_index, release}
use Rattle.model.proofs.lists.Lists.{map_index-same, map_index-map_index, map_index-replicate, length-map_index, get_or-map_index-view}
use Rattle.model.proofs.serial.Grants.{vacant_from-map_index}
use Rattle.entity_table.specs.Ids.{slot_at, lives_at, IsGranted, spawned_all, settled}
use Rattle.entity_table.specs.Rows.{with_rows}
use Rattle.entity_table.proofs.Grants.{first_granted, first_ids, grant-is, granted_ids-is, has_ids-is, length-grant}

-- ---- what rows don't change

pub length-with_rows : (rows : ℕ → List Component) (slots : List Slot) → length (with_rows rows slots) ≡ length slots
length-with_rows rows slots = length-map_index (λ index. with_row (λ old. rows index)) slots

pub status-with_rows : (rows : ℕ → List Component) (slots : List Slot) (i : ℕ) → (slot_at (with_rows rows slots) i).status ≡ (slot_at slots i).status
status-with_rows rows slots i = get_or-map_index-view (λ (s : Slot). s.status) (λ index. with_row (λ old. rows index)) slots i fresh_slot (λ j s. refl)

pub generation-with_rows : (rows : ℕ → List Component) (slots : List Slot) (i : ℕ) → (slot_at (with_rows rows slots) i).generation ≡ (slot_at slots i).generation
generation-with_rows rows slots i = get_or-map_index-view (λ (s : Slot). s.generation) (λ index. with_row (λ old. rows index)) slots i fresh_slot (λ j s. refl)

pub lives_at-with_rows : (rows : ℕ → List Component) (slots : List Slot) (i : ℕ) → lives_at (with_rows rows slots) i ≡ lives_at slots i
lives_at-with_rows rows slots i = ap is_living (status-with_rows rows slots i)

pub is_alive-with_rows : (rows : ℕ → List Component) (slots : List Slot) (e : Entity) → is_alive (with_rows rows slots) e ≡ is_alive slots e
is_alive-with_rows rows slots e = ap₂ (λ status generation. is_living status && (generation == e.generation)) (status-with_rows rows slots e.index) (generation-with_rows rows slots e.index)

pub IsGranted-with_rows : (rows : ℕ → List Component) (slots : List Slot) (e : Entity) → IsGranted slots e → IsGranted (with_rows rows slots) e
IsGranted-with_rows rows slots e h = record { status = status-with_rows rows slots e.index ∙ h.status; generation = generation-with_rows rows slots e.index ∙ h.generation }

pub IsGranted-without_rows : (rows : ℕ → List Component) (slots : List Slot) (e : Entity) → IsGranted (with_rows rows slots) e → IsGranted slots e
IsGranted-without_rows rows slots e h = record { status = sym (status-with_rows rows slots e.index) ∙ h.status; generation = sym (generation-with_rows rows slots e.index) ∙ h.generation }

pub vacant_indices-with_rows : (rows : ℕ → List Component) (slots : List Slot) → vacant_indices (with_rows rows slots) ≡ vacant_indices slots
vacant_indices-with_rows rows slots = vacant_from-map_index (λ index. with_row (λ old. rows index)) 0 slots (λ i s. refl)

-- the row of an index
pub row_at-with_rows : (rows : ℕ → List Component) (slots : List Slot) (i : ℕ) → i < length slots → row_at (with_rows rows slots) i ≡ rows i
row_at-with_rows rows [] i l = absurd (omega arith)
row_at-with_rows rows (s ∷ ss) zero l = refl
row_at-with_rows rows (s ∷ ss) (suc i) l = row_at-with_rows (λ j. rows (suc j)) ss i (omega arith)

-- rows that are alike
pub with_rows-same : (rows others : ℕ → List Component) (slots : List Slot) → ((i : ℕ) → rows i ≡ others i) → with_rows rows slots ≡ with_rows others slots
with_rows-same rows others [] h = refl
with_rows-same rows others (s ∷ ss) h =
    ap₂ (λ row rest. with_row (λ old. row) s ∷ rest) (h zero) (with_rows-same (λ i. rows (suc i)) (λ i. others (suc i)) ss (λ i. h (suc i)))

-- ---- a grant

pub has_ids-with_rows : (n : ℕ) (rows : ℕ → List Component) (slots : List Slot) → has_ids n (with_rows rows slots) ≡ has_ids n slots
has_ids-with_rows n rows slots =
    has_ids-is n (with_rows rows slots)
    ∙ ap₂ (λ had vacant. nat_le (had + (n - length vacant)) most_indices) (length-with_rows rows slots) (vacant_indices-with_rows rows slots)
    ∙ sym (has_ids-is n slots)

first_ids-with_rows : (b n : ℕ) (rows : ℕ → List Component) (xs ys : List Slot) → first_ids b n (with_rows rows xs ++ ys) ≡ first_ids b n (xs ++ ys)
first_ids-with_rows b n rows [] ys = refl
first_ids-with_rows b zero rows (x ∷ xs) ys = refl
first_ids-with_rows b (suc n) rows (x ∷ xs) ys =
    ap₂ (λ few all. cond (is_vacant x.status) (record { index = b; generation = x.generation } ∷ few) all)
    (first_ids-with_rows (suc b) n (λ i. rows (suc i)) xs ys) (first_ids-with_rows (suc b) (suc n) (λ i. rows (suc i)) xs ys)

pub granted_ids-with_rows : (n : ℕ) (rows : ℕ → List Component) (slots : List Slot) → granted_ids n (with_rows rows slots) ≡ granted_ids n slots
unfolding with_room
granted_ids-with_rows n rows slots =
    granted_ids-is n (with_rows rows slots)
    ∙ ap (λ vacant. first_ids 0 n (with_rows rows slots ++ replicate (n - length vacant) fresh_slot)) (vacant_indices-with_rows rows slots)
    ∙ first_ids-with_rows 0 n rows slots (replicate (n - length (vacant_indices slots)) fresh_slot)
    ∙ sym (granted_ids-is n slots)

with_rows-append_fresh : (rows : ℕ → List Component) (xs : List Slot) (n : ℕ) → ((i : ℕ) → length xs ≤ i → rows i ≡ []) →
    with_rows rows xs ++ replicate n fresh_slot ≡ with_rows rows (xs ++ replicate n fresh_slot)
with_rows-append_fresh rows [] n h = sym (map_index-replicate (λ index. with_row (λ old. rows index)) n fresh_slot (λ i. ap (λ row. with_row (λ old. row) fresh_slot) (h i (omega arith))))
with_rows-append_fresh rows (x ∷ xs) n h = ap (◌∷◌ (with_row (λ old. rows zero) x)) (with_rows-append_fresh (λ i. rows (suc i)) xs n (λ i l. h (suc i) (omega arith)))

first_granted-with_rows : (n : ℕ) (rows : ℕ → List Component) (xs : List Slot) → first_granted n (with_rows rows xs) ≡ with_rows rows (first_granted n xs)
first_granted-with_rows n rows [] = refl
first_granted-with_rows zero rows (x ∷ xs) = refl
first_granted-with_rows (suc n) rows (x ∷ xs) =
    go (is_vacant x.status) (first_granted-with_rows n (λ i. rows (suc i)) xs) (first_granted-with_rows (suc n) (λ i. rows (suc i)) xs)
  where
    go : (v : Bool) → first_granted n (with_rows (λ i. rows (suc i)) xs) ≡ with_rows (λ i. rows (suc i)) (first_granted n xs) →
        first_granted (suc n) (with_rows (λ i. rows (suc i)) xs) ≡ with_rows (λ i. rows (suc i)) (first_granted (suc n) xs) →
        cond v (granted_slot (with_row (λ old. rows zero) x) ∷ first_granted n (with_rows (λ i. rows (suc i)) xs)) (with_row (λ old. rows zero) x ∷ first_granted (suc n) (with_rows (λ i. rows (suc i)) xs))
        ≡ with_rows rows (cond v (granted_slot x ∷ first_granted n xs) (x ∷ first_granted (suc n) xs))
    go true few all = ap (◌∷◌ (granted_slot (with_row (λ old. rows zero) x))) few
    go false few all = ap (◌∷◌ (with_row (λ old. rows zero) x)) all

-- a grant changes no row: past the end the rows are empty
pub grant-with_rows : (n : ℕ) (rows : ℕ → List Component) (slots : List Slot) → ((i : ℕ) → length slots ≤ i → rows i ≡ []) → grant n (with_rows rows slots) ≡ with_rows rows (grant n slots)
unfolding with_room
grant-with_rows n rows slots h =
    grant-is n (with_rows rows slots)
    ∙ ap (λ vacant. first_granted n (with_rows rows slots ++ replicate (n - length vacant) fresh_slot)) (vacant_indices-with_rows rows slots)
    ∙ ap (first_granted n) (with_rows-append_fresh rows slots (n - length (vacant_indices slots)) h)
    ∙ first_granted-with_rows n rows (with_room n slots)
    ∙ ap (with_rows rows) (sym (grant-is n slots))

-- ---- several grants

-- past the end of the slots after a grant rows are empty too
past_grant : (n : ℕ) (rows : ℕ → List Component) (slots : List Slot) → ((i : ℕ) → length slots ≤ i → rows i ≡ []) → (i : ℕ) → length (grant n slots) ≤ i → rows i ≡ []
past_grant n rows slots h i l = h i (omega (arith, length-grant n slots))

pub has_ids_for_each-with_rows : (ns : List ℕ) (rows : ℕ → List Component) (slots : List Slot) → ((i : ℕ) → length slots ≤ i → rows i ≡ []) →
    has_ids_for_each ns (with_rows rows slots) ≡ has_ids_for_each ns slots
unfolding has_ids_for_each
has_ids_for_each-with_rows [] rows slots h = refl
has_ids_for_each-with_rows (n ∷ ns) rows slots h = ap₂ ◌&&◌ (has_ids-with_rows n rows slots)
    (ap (has_ids_for_each ns) (grant-with_rows n rows slots h) ∙ has_ids_for_each-with_rows ns rows (grant n slots) (past_grant n rows slots h))

pub ids_of_each-with_rows : (ns : List ℕ) (rows : ℕ → List Component) (slots : List Slot) → ((i : ℕ) → length slots ≤ i → rows i ≡ []) →
    ids_of_each ns (with_rows rows slots) ≡ ids_of_each ns slots
unfolding ids_of_each
ids_of_each-with_rows [] rows slots h = refl
ids_of_each-with_rows (n ∷ ns) rows slots h = ap₂ ◌∷◌ (granted_ids-with_rows n rows slots)
    (ap (ids_of_each ns) (grant-with_rows n rows slots h) ∙ ids_of_each-with_rows ns rows (grant n slots) (past_grant n rows slots h))

pub grant_each-with_rows : (ns : List ℕ) (rows : ℕ → List Component) (slots : List Slot) → ((i : ℕ) → length slots ≤ i → rows i ≡ []) →
    grant_each ns (with_rows rows slots) ≡ with_rows rows (grant_each ns slots)
unfolding grant_each
grant_each-with_rows [] rows slots h = refl
grant_each-with_rows (n ∷ ns) rows slots h =
    ap (grant_each ns) (grant-with_rows n rows slots h) ∙ grant_each-with_rows ns rows (grant n slots) (past_grant n rows slots h)

-- ---- a change of one slot

-- that changes the book and the row
pub update_at-with_rows : (i : ℕ) (f g : Slot → Slot) (rows others : ℕ → List Component) (slots : List Slot) →
    (i < length slots → f (with_row (λ old. rows i) (slot_at slots i)) ≡ with_row (λ old. others i) (g (slot_at slots i))) → ((j : ℕ) → j ≢ i → rows j ≡ others j) →
    update_at i f (with_rows rows slots) ≡ with_rows others (update_at i g slots)
update_at-with_rows i f g rows others [] here there = refl
update_at-with_rows zero f g rows others (s ∷ ss) here there =
    ap₂ ◌∷◌ (here (omega arith)) (with_rows-same (λ j. rows (suc j)) (λ j. others (suc j)) ss (λ j. there (suc j) (λ e. omega arith)))
update_at-with_rows (suc i) f g rows others (s ∷ ss) here there =
    ap₂ (λ row rest. with_row (λ old. row) s ∷ rest) (there zero (λ e. omega arith))
    (update_at-with_rows i f g (λ j. rows (suc j)) (λ j. others (suc j)) ss (λ l. here (omega arith)) (λ j other. there (suc j) (λ e. other (omega arith))))

same_row : (i : ℕ) (row : List Component) (rows : ℕ → List Component) → with_at i row rows i ≡ row
same_row i row rows = ap (λ b. cond b row (rows i)) (eq-eqb i i refl)

-- an id that is spawned, whose row is empty
pub spawned-with_rows : (i generation : ℕ) (rows : ℕ → List Component) (slots : List Slot) → (is_granted (slot_at slots i).status ≡ true → rows i ≡ []) →
    update_at i (spawned generation) (with_rows rows slots) ≡ with_rows rows (update_at i (spawned generation) slots)
spawned-with_rows i generation rows slots h = update_at-with_rows i (spawned generation) (spawned generation) rows rows slots (λ l. go (slot_at slots i) (rows i) h) (λ j other. refl)
  where
    go : (s : Slot) (row : List Component) → (is_granted s.status ≡ true → row ≡ []) → spawned generation (with_row (λ old. row) s) ≡ with_row (λ old. row) (spawned generation s)
    go s row e = by (is_granted s.status) (s.generation == generation) e
      where
        by : (g same : Bool) → (g ≡ true → row ≡ []) →
            cond (g && same) (let c : Slot = record { generation = s.generation; status = Living; row = [] } in c) (with_row (λ old. row) s)
            ≡ with_row (λ old. row) (cond (g && same) (let c : Slot = record { generation = s.generation; status = Living; row = [] } in c) s)
        by true true k = ap (λ r. let c : Slot = record { generation = s.generation; status = Living; row = r } in c) (sym (k refl))
        by true false k = refl
        by false same k = refl

freed_row : (s : Slot) (row : List Component) → freed (with_row (λ old. row) s) ≡ with_row (λ old. []) (freed s)
freed_row s row = go (s.generation == last_generation)
  where
    go : (last : Bool) →
        cond last (let c : Slot = record { generation = s.generation; status = Retired; row = [] } in c) (record { generation = suc s.generation; status = Vacant; row = [] })
        ≡ with_row (λ old. []) (cond last (record { generation = s.generation; status = Retired; row = [] }) (record { generation = suc s.generation; status = Vacant; row = [] }))
    go true = refl
    go false = refl

-- ---- a release

-- where the rows of granted indices are empty no row is changed
pub release-with_rows : (ids : List Entity) (rows : ℕ → List Component) (slots : List Slot) → ((i : ℕ) → is_granted (slot_at slots i).status ≡ true → rows i ≡ []) →
    release ids (with_rows rows slots) ≡ with_rows rows (release ids slots)
unfolding release
release-with_rows ids rows slots h =
    map_index-map_index (λ index slot. cond (is_granted slot.status && names_index index ids) (freed slot) slot) (λ index. with_row (λ old. rows index)) slots
    ∙ map_index-same (λ index slot. cond (is_granted slot.status && names_index index ids) (freed (with_row (λ old. rows index) slot)) (with_row (λ old. rows index) slot))
    (λ index slot. with_row (λ old. rows index) (cond (is_granted slot.status && names_index index ids) (freed slot) slot)) fresh_slot slots
    (λ i. go (slot_at slots i) (rows i) (is_granted (slot_at slots i).status) (names_index i ids) (h i))
    ∙ sym (map_index-map_index (λ index. with_row (λ old. rows index)) (λ index slot. cond (is_granted slot.status && names_index index ids) (freed slot) slot) slots)
  where
    go : (s : Slot) (row : List Component) (g named : Bool) → (g ≡ true → row ≡ []) →
        cond (g && named) (freed (with_row (λ old. row) s)) (with_row (λ old. row) s) ≡ with_row (λ old. row) (cond (g && named) (freed s) s)
    go s row true true k = freed_row s row ∙ ap (λ r. with_row (λ old. r) (freed s)) (sym (k refl))
    go s row true false k = refl
    go s row false named k = refl

-- ---- settling

-- what is granted after a spawn was granted before
still_granted : (i generation j : ℕ) (slots : List Slot) → is_granted (slot_at (update_at i (spawned generation) slots) j).status ≡ true → is_granted (slot_at slots j).status ≡ true
still_granted i generation j [] e = e
still_granted zero generation zero (s ∷ ss) e = go (is_granted s.status) (s.generation == generation) refl e
  where
    go : (g same : Bool) → is_granted s.status ≡ g → is_granted (cond (g && same) (let c : Slot = record { generation = s.generation; status = Living; row = [] } in c) s).status ≡ true → is_granted s.status ≡ true
    go true same p q = p
    go false same p q = q
still_granted zero generation (suc j) (s ∷ ss) e = e
still_granted (suc i) generation zero (s ∷ ss) e = e
still_granted (suc i) generation (suc j) (s ∷ ss) e = still_granted i generation j ss e

all_granted : (ids : List Entity) (j : ℕ) (slots : List Slot) → is_granted (slot_at (spawned_all ids slots) j).status ≡ true → is_granted (slot_at slots j).status ≡ true
all_granted [] j slots e = e
all_granted (x ∷ xs) j slots e = still_granted x.index x.generation j slots (all_granted xs j (update_at x.index (spawned x.generation) slots) e)

pub spawned_all-with_rows : (ids : List Entity) (rows : ℕ → List Component) (slots : List Slot) → ((i : ℕ) → is_granted (slot_at slots i).status ≡ true → rows i ≡ []) →
    spawned_all ids (with_rows rows slots) ≡ with_rows rows (spawned_all ids slots)
spawned_all-with_rows [] rows slots h = refl
spawned_all-with_rows (e ∷ es) rows slots h =
    ap (spawned_all es) (spawned-with_rows e.index e.generation rows slots (h e.index))
    ∙ spawned_all-with_rows es rows (update_at e.index (spawned e.generation) slots) (λ i k. h i (still_granted e.index e.generation i slots k))

pub settled-with_rows : (used unused : List Entity) (rows : ℕ → List Component) (slots : List Slot) → ((i : ℕ) → is_granted (slot_at slots i).status ≡ true → rows i ≡ []) →
    settled used unused (with_rows rows slots) ≡ with_rows rows (settled used unused slots)
settled-with_rows used unused rows slots h =
    ap (release unused) (spawned_all-with_rows used rows slots h) ∙ release-with_rows unused rows (spawned_all used slots) (λ i k. h i (all_granted used i slots k))
