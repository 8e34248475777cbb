use Rattle.archetype_store.proofs.Common.{◌≡◌, List, sym, ap, ◌∙◌, widths, update_at, Entity, spawned, Slot, with_rows, slots_seen, HasRows, RowsValue, rows_seen, row_of, StoreValue}
use Rattle.entity_table.proofs.Living.{alive-spawned}
use Rattle.entity_table.proofs.WithRows.{IsGranted-without_rows, spawned-with_rows}
use Rattle.archetype_store.proofs.SlotRows.{granted_empty}
use Rattle.archetype_store.proofs.StoreKept.{book_kept, store_state}
use Rattle.archetype_store.proofs.WorldShape.{world-spawn}
use Rattle.archetype_store.proofs.store.World.spawn_at.Goals as goal

slots : (e : Entity) (book new : List Slot) (v : RowsValue) → HasRows book (rows_seen v) → new ≡ update_at e.index (spawned e.generation) book → slots_seen new v ≡ update_at e.index (spawned e.generation) (slots_seen book v)
slots e book new v held done = ap (with_rows (row_of (rows_seen v).rows)) done ∙ sym (spawned-with_rows e.index e.generation (row_of (rows_seen v).rows) book (granted_empty book (rows_seen v) held e.index))

pub spawn_at-requires : goal.spawn_at-requires
spawn_at-requires c = IsGranted-without_rows (row_of (rows_seen c.self.inside.rows).rows) c.self.inside.ids c.args.e (rw (ap (λ (x : StoreValue). x.state.slots) c.self.view_is) c.requires)

pub invariant_of-self : goal.invariant_of-self
invariant_of-self c =
    let h = c.self.invariant in
    let e = c.args.e in
    book_kept h (update_at e.index (spawned e.generation)) c.spawn_at.new.self c.spawn_at.ensures (slots e c.self.inside.ids c.spawn_at.new.self c.self.inside.rows h.held c.spawn_at.ensures)
    (alive-spawned e.index e.generation c.self.inside.ids) (world-spawn widths _ e h.shape)

pub returns-clause-state : goal.returns-clause-state
returns-clause-state c =
    let v = c.self.inside.rows in
    let h = c.self.invariant in
    let e = c.args.e in
    store_state h (update_at e.index (spawned e.generation)) c.spawn_at.new.self v (slots e c.self.inside.ids c.spawn_at.new.self v h.held c.spawn_at.ensures) _ c.self.view_is
