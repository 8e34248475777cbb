-- What changes of entities make of an id book, and with rows of slots.
use Rattle.archetype_store.proofs.Common.{◌≡◌, ℕ, zero, suc, ◌<◌, Bool, true, false, cond, ◌==◌, ◌&&◌, ◌||◌, List, [], ◌∷◌, length, get_or, take, map, Some, None, refl, sym, ap, ap₂, subst, ◌∙◌, arith, and_parts, eq-eqb, nat_tests, AllByRecursion, update_at, map_index, is_there, Entity, IsSlot, Component, Slot, Status, fresh_slot, is_living, is_granted, last_generation, Vacant, Living, Granted, Retired, IsRising, is_alive, freed, spawned, with_row, map_index-same, map_index-map_index, get_or-update_at_other, each-weaker, stamped_number, AreBelow, slot_at, IsBook, IsGranted, with_rows, Fate, EntityChange, row_left, components_left, slot_left, change_at, changed, living_slot, settled_slot, book_changed, AreOfOtherIndices, IsHeldBy, StorageValue, row_of, holder_of, holder_if, HaveRows, row_changed, holder_changed, HasRows, component_of, eqb-true}
use Rattle.entity_table.proofs.WithRows.{status-with_rows, generation-with_rows}
use Rattle.model.proofs.agreement.Visits.{update_at-update_at as update_at-twice}
use Rattle.archetype_store.specs.declared.change.Fate.TheVariants as the
use Rattle.archetype_store.proofs.RowEdits.{kinds-components, below_from_rising}
use Rattle.archetype_store.proofs.RowMoves.{index_flipped}

-- ---- one index

update_at-here : {A : Type 0} (i : ℕ) (f g : A → A) (xs : List A) (d : A) → f (get_or xs i d) ≡ g (get_or xs i d) → update_at i f xs ≡ update_at i g xs
update_at-here i f g [] d h = refl
update_at-here zero f g (x ∷ xs) d h = ap (λ y. y ∷ xs) h
update_at-here (suc i) f g (x ∷ xs) d h = ap (λ ys. x ∷ ys) (update_at-here i f g xs d h)

suc_apart : (j : ℕ) → (suc j == 0) ≡ false
suc_apart j = grind (arith, nat_tests)

zero_apart : (i : ℕ) → (0 == suc i) ≡ false
zero_apart i = grind (arith, nat_tests)

suc_same : (j i : ℕ) → (suc j == suc i) ≡ (j == i)
suc_same j i = grind (arith, nat_tests)

map_index-update_at : {A : Type 0} (f : ℕ → A → A) (i : ℕ) (g : A → A) (xs : List A) → map_index f (update_at i g xs) ≡ map_index (λ j x. cond (j == i) (f j (g x)) (f j x)) xs
map_index-update_at f i g [] = refl
map_index-update_at f zero g (x ∷ xs) = ap (λ ys. f 0 (g x) ∷ ys)
    (map_index-same (λ j. f (suc j)) (λ j y. cond (suc j == 0) (f (suc j) (g y)) (f (suc j) y)) x xs (λ j. sym (ap (λ b. cond b (f (suc j) (g (get_or xs j x))) (f (suc j) (get_or xs j x))) (suc_apart j))))
map_index-update_at f (suc i) g (x ∷ xs) = ap₂ ◌∷◌ (sym (ap (λ b. cond b (f 0 (g x)) (f 0 x)) (zero_apart i)))
    (map_index-update_at (λ j. f (suc j)) i g xs ∙ map_index-same (λ j y. cond (j == i) (f (suc j) (g y)) (f (suc j) y)) (λ j y. cond (suc j == suc i) (f (suc j) (g y)) (f (suc j) y)) x xs
    (λ j. ap (λ b. cond b (f (suc j) (g (get_or xs j x))) (f (suc j) (get_or xs j x))) (sym (suc_same j i))))

-- ---- the book

-- what changes make of the slot of an index of the book
abbrev settled_at : List EntityChange → ℕ → Slot → Slot
settled_at [] index slot = slot
settled_at (c ∷ cs) index slot = cond (index == c.entity.index) (settled_slot c.fate slot) (settled_at cs index slot)

settled_none : (cs : List EntityChange) (n : ℕ) → AllByRecursion (λ (d : EntityChange). (d.entity.index == n) ≡ false) cs → (slot : Slot) → settled_at cs n slot ≡ slot
settled_none [] n h slot = refl
settled_none (c ∷ cs) n h slot = ap (λ b. cond b (settled_slot c.fate slot) (settled_at cs n slot)) (index_flipped c.entity.index n h.0) ∙ settled_none cs n h.1 slot

-- each index by itself
pub book-changed : (cs : List EntityChange) (book : List Slot) → AreOfOtherIndices cs → book_changed cs book ≡ map_index (settled_at cs) book
book-changed [] book h = sym (same book)
  where
    same : (xs : List Slot) → map_index (λ index slot. slot) xs ≡ xs
    same [] = refl
    same (x ∷ xs) = ap (λ ys. x ∷ ys) (same xs)
book-changed (c ∷ cs) book h =
    book-changed cs (update_at c.entity.index (settled_slot c.fate) book) h.1
    ∙ map_index-update_at (settled_at cs) c.entity.index (settled_slot c.fate) book
    ∙ map_index-same (λ j x. cond (j == c.entity.index) (settled_at cs j (settled_slot c.fate x)) (settled_at cs j x)) (settled_at (c ∷ cs)) fresh_slot book (λ i. go i (get_or book i fresh_slot) (i == c.entity.index) refl)
  where
    go : (i : ℕ) (x : Slot) (b : Bool) → (i == c.entity.index) ≡ b → cond b (settled_at cs i (settled_slot c.fate x)) (settled_at cs i x) ≡ cond b (settled_slot c.fate x) (settled_at cs i x)
    go i x true same = settled_none cs i (subst (λ n. AllByRecursion (λ (d : EntityChange). (d.entity.index == n) ≡ false) cs) (sym (eqb-true i c.entity.index same)) h.0) (settled_slot c.fate x)
    go i x false other = refl

-- an index that isn't changed
book-other : (cs : List EntityChange) (book : List Slot) (n : ℕ) → AllByRecursion (λ (d : EntityChange). (d.entity.index == n) ≡ false) cs → slot_at (book_changed cs book) n ≡ slot_at book n
book-other [] book n h = refl
book-other (c ∷ cs) book n h = book-other cs (update_at c.entity.index (settled_slot c.fate) book) n h.1
    ∙ get_or-update_at_other c.entity.index n (settled_slot c.fate) book fresh_slot (λ same. let e : true ≡ false = sym (eq-eqb c.entity.index n same) ∙ h.0 in cc)

pub before-other : (cs : List EntityChange) (i : ℕ) (d : EntityChange) → i < length cs → AreOfOtherIndices cs → AllByRecursion (λ (x : EntityChange). (x.entity.index == (get_or cs i d).entity.index) ≡ false) (take i cs)
before-other [] i d l h = absurd (omega arith)
before-other (c ∷ cs) zero d l h = tt
before-other (c ∷ cs) (suc i) d l h = (after cs i d (omega arith) h.0, before-other cs i d (omega arith) h.1)
  where
    after : (cs : List EntityChange) (i : ℕ) (d : EntityChange) → i < length cs → AllByRecursion (λ (x : EntityChange). (x.entity.index == c.entity.index) ≡ false) cs → (c.entity.index == (get_or cs i d).entity.index) ≡ false
    after [] i d l h = absurd (omega arith)
    after (x ∷ cs) zero d l h = index_flipped x.entity.index c.entity.index h.0
    after (x ∷ cs) (suc i) d l h = after cs i d (omega arith) h.1

-- who is to be changed is held until then
pub held_until : (cs : List EntityChange) (book : List Slot) (i : ℕ) (d c : EntityChange) → i < length cs → AreOfOtherIndices cs → c ≡ get_or cs i d → IsHeldBy book (get_or cs i d) → IsHeldBy (book_changed (take i cs) book) c
held_until cs book i d c l h is held =
    let same = book-other (take i cs) book (get_or cs i d).entity.index (before-other cs i d l h) in
    subst (IsHeldBy (book_changed (take i cs) book)) (sym is) (record {
      held = ap (λ (s : Slot). is_living s.status || is_granted s.status) same ∙ held.held;
      generation = ap (λ (s : Slot). s.generation) same ∙ held.generation;
    })

-- ---- one step

living_is : (s : Slot) → is_living s.status ≡ true → living_slot s ≡ s
living_is s h = go s.status h
  where
    go : (status : Status) → is_living status ≡ true → (let x : Slot = record { generation = s.generation; status = Living; row = s.row } in x) ≡ record { generation = s.generation; status = status; row = s.row }
    go Living h = refl
    go Granted h = absurd (cc)
    go Vacant h = absurd (cc)
    go Retired h = absurd (cc)

update_at-id : {A : Type 0} (i : ℕ) (f : A → A) (xs : List A) (d : A) → f (get_or xs i d) ≡ get_or xs i d → update_at i f xs ≡ xs
update_at-id i f [] d h = refl
update_at-id zero f (x ∷ xs) d h = ap (λ y. y ∷ xs) h
update_at-id (suc i) f (x ∷ xs) d h = ap (λ ys. x ∷ ys) (update_at-id i f xs d h)

-- who lives stays as it is
pub woken_living : (book : List Slot) (e : Entity) → is_alive book e ≡ true → book ≡ update_at e.index living_slot book
woken_living book e alive = sym (update_at-id e.index living_slot book fresh_slot (living_is (slot_at book e.index) (and_parts (is_living (slot_at book e.index).status) ((slot_at book e.index).generation == e.generation) alive).0))

dead_slot : (book : List Slot) (e : Entity) → (slot_at book e.index).generation ≡ e.generation → is_alive book e ≡ false → is_living (slot_at book e.index).status ≡ false
dead_slot book e same dead = go (is_living (slot_at book e.index).status) refl
  where
    go : (b : Bool) → is_living (slot_at book e.index).status ≡ b → b ≡ false
    go true living = sym living ∙ (let t : ((is_living (slot_at book e.index).status) && ((slot_at book e.index).generation == e.generation)) ≡ true = ap₂ ◌&&◌ living (eq-eqb (slot_at book e.index).generation e.generation same) in absurd (let x : true ≡ false = sym t ∙ dead in cc))
    go false living = refl

-- who doesn't is granted
pub granted_else : (book : List Slot) (c : EntityChange) → IsHeldBy book c → is_alive book c.entity ≡ false → IsGranted book c.entity
granted_else book c held dead = record {
  status = granted_is (slot_at book c.entity.index).status (sym (ap (λ b. b || is_granted (slot_at book c.entity.index).status) (dead_slot book c.entity held.generation dead)) ∙ held.held);
  generation = held.generation;
}
  where
    granted_is : (status : Status) → is_granted status ≡ true → status ≡ Granted
    granted_is Granted h = refl
    granted_is Living h = absurd (cc)
    granted_is Vacant h = absurd (cc)
    granted_is Retired h = absurd (cc)

-- and lives once it is spawned
pub woken_granted : (book : List Slot) (e : Entity) → IsBook book → IsGranted book e → update_at e.index (spawned e.generation) book ≡ update_at e.index living_slot book
woken_granted book e whole granted = update_at-here e.index (spawned e.generation) living_slot book fresh_slot
    (ap (λ b. cond b (let x : Slot = record { generation = s.generation; status = Living; row = [] } in x) s) (ap₂ ◌&&◌ (ap is_granted granted.status) (eq-eqb s.generation e.generation granted.generation))
    ∙ ap (λ row. let x : Slot = record { generation = s.generation; status = Living; row = row } in x) (sym empty))
  where
    s : Slot
    s = slot_at book e.index

    empty_in : (xs : List Slot) (i : ℕ) → AllByRecursion (IsSlot (λ kind. 0) 0) xs → is_living (slot_at xs i).status ≡ false → (slot_at xs i).row ≡ []
    empty_in [] i h dead = refl
    empty_in (x ∷ xs) zero h dead = h.0.no_row dead
    empty_in (x ∷ xs) (suc i) h dead = empty_in xs i h.1 dead

    empty : s.row ≡ []
    empty = empty_in book e.index whole.slots (ap is_living granted.status)

pub woken_lives : (book : List Slot) (c : EntityChange) → IsHeldBy book c → is_alive (update_at c.entity.index living_slot book) c.entity ≡ true
woken_lives book c held = go book c.entity.index held.held (eq-eqb (slot_at book c.entity.index).generation c.entity.generation held.generation)
  where
    go : (xs : List Slot) (i : ℕ) → (is_living (slot_at xs i).status || is_granted (slot_at xs i).status) ≡ true → ((slot_at xs i).generation == c.entity.generation) ≡ true →
        (is_living (slot_at (update_at i living_slot xs) i).status && ((slot_at (update_at i living_slot xs) i).generation == c.entity.generation)) ≡ true
    go [] i h same = absurd (let x : false ≡ true = h in cc)
    go (x ∷ xs) zero h same = same
    go (x ∷ xs) (suc i) h same = go xs i h same

-- who lives no more is freed, whether it lived before
pub freed_once : (i : ℕ) (book : List Slot) → update_at i freed (update_at i living_slot book) ≡ update_at i freed book
freed_once i book = update_at-twice i freed living_slot book

-- ---- slots with rows

freed_row : (s : Slot) (row : List Component) → with_row (λ _. []) (freed s) ≡ freed (with_row (λ _. row) s)
freed_row s row = go (s.generation == last_generation)
  where
    go : (b : Bool) → with_row (λ _. []) (cond b (let x : Slot = record { generation = s.generation; status = Retired; row = [] } in x) (record { generation = suc s.generation; status = Vacant; row = [] }))
        ≡ cond b (let x : Slot = record { generation = s.generation; status = Retired; row = [] } in x) (record { generation = suc s.generation; status = Vacant; row = [] })
    go true = refl
    go false = refl

left_row : (fate : Fate) (s : Slot) (row : List Component) → with_row (λ _. components_left fate) (settled_slot fate s) ≡ slot_left fate (with_row (λ _. row) s)
left_row (the.Lives components) s row = refl
left_row the.Dies s row = freed_row s row

one_slot : (cs : List EntityChange) (i : ℕ) (s : Slot) (row : List Component) → with_row (λ _. row_changed cs i row) (settled_at cs i s) ≡ change_at cs i (with_row (λ _. row) s)
one_slot [] i s row = refl
one_slot (c ∷ cs) i s row = go (i == c.entity.index) (one_slot cs i s row)
  where
    go : (b : Bool) → with_row (λ _. row_changed cs i row) (settled_at cs i s) ≡ change_at cs i (with_row (λ _. row) s) →
        with_row (λ _. cond b (components_left c.fate) (row_changed cs i row)) (cond b (settled_slot c.fate s) (settled_at cs i s)) ≡ cond b (slot_left c.fate (with_row (λ _. row) s)) (change_at cs i (with_row (λ _. row) s))
    go true more = left_row c.fate s row
    go false more = more

-- the slots of the book with the new rows are the changed ones
pub slots_changed : (cs : List EntityChange) (book : List Slot) (rows others : ℕ → List Component) → AreOfOtherIndices cs → ((i : ℕ) → others i ≡ row_changed cs i (rows i)) →
    with_rows others (book_changed cs book) ≡ changed cs (with_rows rows book)
slots_changed cs book rows others apart told =
    ap (with_rows others) (book-changed cs book apart)
    ∙ map_index-map_index (λ i. with_row (λ _. others i)) (settled_at cs) book
    ∙ map_index-same (λ i s. with_row (λ _. others i) (settled_at cs i s)) (λ i s. change_at cs i (with_row (λ _. rows i) s)) fresh_slot book
    (λ i. ap (λ row. with_row (λ _. row) (settled_at cs i (get_or book i fresh_slot))) (told i) ∙ one_slot cs i (get_or book i fresh_slot) (rows i))
    ∙ sym (map_index-map_index (change_at cs) (λ i. with_row (λ _. rows i)) book)

-- ---- who has rows

slot_at-map_index : (f : ℕ → Slot → Slot) (xs : List Slot) (i : ℕ) → i < length xs → slot_at (map_index f xs) i ≡ f i (slot_at xs i)
slot_at-map_index f [] i l = absurd (omega arith)
slot_at-map_index f (x ∷ xs) zero l = refl
slot_at-map_index f (x ∷ xs) (suc i) l = slot_at-map_index (λ j. f (suc j)) xs i (omega arith)

held_within : (xs : List Slot) (i : ℕ) → (is_living (slot_at xs i).status || is_granted (slot_at xs i).status) ≡ true → i < length xs
held_within [] i h = absurd (let x : false ≡ true = h in cc)
held_within (x ∷ xs) zero h = omega arith
held_within (x ∷ xs) (suc i) h = let l = held_within xs i h in omega arith

module _ (book : List Slot) (a b : StorageValue) (h : HasRows book a) where
  record LivesAt (cs : List EntityChange) (i g : ℕ) : Type 0 where
    within : i < length book
    lives : (is_living (settled_at cs i (slot_at book i)).status && ((settled_at cs i (slot_at book i)).generation == g)) ≡ true

  living_left : (fate : Fate) (s : Slot) (n g : ℕ) → s.generation ≡ n → holder_if (components_left fate) n ≡ Some g → (is_living (settled_slot fate s).status && ((settled_slot fate s).generation == g)) ≡ true
  living_left (the.Lives components) s n g same holder = go (is_there (map component_of components.items)) holder
    where
      go : (there : Bool) → cond there (Some n) None ≡ Some g → (s.generation == g) ≡ true
      go true is = let at : n ≡ g = cc in eq-eqb s.generation g (same ∙ at)
      go false is = absurd (cc)
  living_left the.Dies s n g same holder = absurd (cc)

  lives_at : (cs : List EntityChange) → AllByRecursion (IsHeldBy book) cs → (i g : ℕ) → holder_changed cs i (holder_of a.holders i) ≡ Some g → LivesAt cs i g
  lives_at [] held i g holder =
      let alive = h.live i g holder in
      record { within = held_within book i (ap (λ x. x || is_granted (slot_at book i).status) (and_parts (is_living (slot_at book i).status) ((slot_at book i).generation == g) alive).0); lives = alive }
  lives_at (c ∷ cs) held i g holder = go (i == c.entity.index) refl holder (lives_at cs held.1 i g)
    where
      go : (d : Bool) → (i == c.entity.index) ≡ d → cond d (holder_if (components_left c.fate) c.entity.generation) (holder_changed cs i (holder_of a.holders i)) ≡ Some g →
          (holder_changed cs i (holder_of a.holders i) ≡ Some g → LivesAt cs i g) → LivesAt (c ∷ cs) i g
      go true same is more = record {
        within = held_within book i (subst (λ j. (is_living (slot_at book j).status || is_granted (slot_at book j).status) ≡ true) (sym (eqb-true i c.entity.index same)) held.0.held);
        lives = ap (λ x. is_living (cond x (settled_slot c.fate (slot_at book i)) (settled_at cs i (slot_at book i))).status && ((cond x (settled_slot c.fate (slot_at book i)) (settled_at cs i (slot_at book i))).generation == g)) same
            ∙ living_left c.fate (slot_at book i) c.entity.generation g (ap (λ j. (slot_at book j).generation) (eqb-true i c.entity.index same) ∙ held.0.generation) is;
      }
      go false other is more = let m = more is in record {
        within = m.within;
        lives = ap (λ x. is_living (cond x (settled_slot c.fate (slot_at book i)) (settled_at cs i (slot_at book i))).status && ((cond x (settled_slot c.fate (slot_at book i)) (settled_at cs i (slot_at book i))).generation == g)) other ∙ m.lives;
      }

  empty_if : (row : List Component) (n : ℕ) → holder_if row n ≡ None → row ≡ []
  empty_if [] n is = refl
  empty_if (c ∷ cs) n is = absurd (cc)

  bare_at : (cs : List EntityChange) (i : ℕ) → holder_changed cs i (holder_of a.holders i) ≡ None → row_changed cs i (row_of a.rows i) ≡ []
  bare_at [] i none = h.empty i none
  bare_at (c ∷ cs) i none = go (i == c.entity.index) none (bare_at cs i)
    where
      go : (d : Bool) → cond d (holder_if (components_left c.fate) c.entity.generation) (holder_changed cs i (holder_of a.holders i)) ≡ None →
          (holder_changed cs i (holder_of a.holders i) ≡ None → row_changed cs i (row_of a.rows i) ≡ []) → cond d (components_left c.fate) (row_changed cs i (row_of a.rows i)) ≡ []
      go true is more = empty_if (components_left c.fate) c.entity.generation is
      go false is more = more is

  -- who has a row lives, and who has none has none
  pub rows_settled : (cs : List EntityChange) → AreOfOtherIndices cs → AllByRecursion (IsHeldBy book) cs → HaveRows a cs b → HasRows (book_changed cs book) b
  rows_settled cs apart held has = record {
    live = λ i g holder.
        let m = lives_at cs held i g (sym (has.holders i) ∙ holder) in
        ap (λ (s : Slot). is_living s.status && (s.generation == g)) (ap (λ xs. slot_at xs i) (book-changed cs book apart) ∙ slot_at-map_index (settled_at cs) book i m.within) ∙ m.lives;
    empty = λ i none. has.rows i ∙ bare_at cs i (sym (has.holders i) ∙ none);
  }

-- ---- what is asked of the parts

pub held_in_book : (rows : ℕ → List Component) (book : List Slot) (cs : List EntityChange) → AllByRecursion (IsHeldBy (with_rows rows book)) cs → AllByRecursion (IsHeldBy book) cs
held_in_book rows book cs held = each-weaker (IsHeldBy (with_rows rows book)) (IsHeldBy book)
    (λ c h. record {
      held = ap (λ status. is_living status || is_granted status) (sym (status-with_rows rows book c.entity.index)) ∙ h.held;
      generation = sym (generation-with_rows rows book c.entity.index) ∙ h.generation;
    }) cs held

pub below_left : (cs : List EntityChange) → AllByRecursion (λ (c : EntityChange). IsRising (components_left c.fate)) cs → AllByRecursion (λ (c : EntityChange). AreBelow (map stamped_number (row_left c.fate))) cs
below_left cs h = each-weaker (λ (c : EntityChange). IsRising (components_left c.fate)) (λ (c : EntityChange). AreBelow (map stamped_number (row_left c.fate)))
    (λ c rising. subst AreBelow (kinds-components (row_left c.fate)) (below_from_rising (components_left c.fate) rising)) cs h
