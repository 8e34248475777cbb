-- A new entity: the id that a grant of one gives, and what its row makes of the slots.
use Rattle.archetype_store.proofs.Common.{◌≡◌, ℕ, ◌||◌, List, [], ◌∷◌, length, get_or, ap, sym, ◌∙◌, arith, AllByRecursion, Entity, head_or, update_at, Component, Slot, is_granted, is_living, granted_ids, grant, next_id, IsGranted, with_rows, Fate, EntityChange, book_changed, changed, slot_left, IsHeldBy, StorageValue, row_of, HaveRows, HasRows}
use Rattle.entity_table.proofs.WithRows.{granted_ids-with_rows, grant-with_rows}
use Rattle.archetype_store.proofs.OneChange.{one_changed}
use Rattle.archetype_store.proofs.BookChanges.{slots_changed}
use Rattle.archetype_store.proofs.SlotRows.{past_empty}

-- a list of one
pub alone : (xs : List Entity) (e : Entity) → length xs ≡ 1 → e ≡ get_or xs 0 e → xs ≡ e ∷ []
alone [] e l h = absurd (omega arith)
alone (x ∷ []) e l h = ap (λ y. y ∷ []) (sym h)
alone (x ∷ y ∷ xs) e l h = absurd (omega arith)

-- the id that a grant of one of the book gives is the next one of the slots
pub id_next : (book : List Slot) (rows : ℕ → List Component) (e : Entity) → granted_ids 1 book ≡ e ∷ [] → e ≡ next_id (with_rows rows book)
id_next book rows e h = sym (ap (head_or (record { index = 0; generation = 0 })) (granted_ids-with_rows 1 rows book ∙ h))

-- an id that is granted can be changed
pub granted_held : (book : List Slot) (e : Entity) (fate : Fate) → IsGranted book e → AllByRecursion (IsHeldBy book) (record { entity = e; fate = fate } ∷ [])
granted_held book e fate h = (record { held = ap (λ status. is_living status || is_granted status) h.status; generation = h.generation }, tt)

-- the slots with the row of the one change
pub slots_new : (book : List Slot) (a b : StorageValue) (e : Entity) (fate : Fate) → HasRows book a → granted_ids 1 book ≡ e ∷ [] →
    HaveRows a (record { entity = e; fate = fate } ∷ []) b →
    with_rows (row_of b.rows) (book_changed (record { entity = e; fate = fate } ∷ []) (grant 1 book))
    ≡ update_at (next_id (with_rows (row_of a.rows) book)).index (slot_left fate) (grant 1 (with_rows (row_of a.rows) book))
slots_new book a b e fate has id rows =
    let c : EntityChange = record { entity = e; fate = fate } in
    slots_changed (c ∷ []) (grant 1 book) (row_of a.rows) (row_of b.rows) (tt, tt) rows.rows
    ∙ ap (changed (c ∷ [])) (sym (grant-with_rows 1 (row_of a.rows) book (past_empty book a has)))
    ∙ one_changed c (grant 1 (with_rows (row_of a.rows) book))
    ∙ ap (λ (x : Entity). update_at x.index (slot_left fate) (grant 1 (with_rows (row_of a.rows) book))) (id_next book (row_of a.rows) e id)
