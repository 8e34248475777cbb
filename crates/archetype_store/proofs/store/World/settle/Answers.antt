use Rattle.archetype_store.proofs.Common.{◌≡◌, List, get_or, sym, ap, ◌∙◌, widths, Entity, Slot, settled, with_rows, slots_seen, HasRows, RowsValue, rows_seen, row_of, StoreValue}
use Rattle.entity_table.proofs.Living.{alive-settled}
use Rattle.entity_table.proofs.WithRows.{IsGranted-without_rows, settled-with_rows}
use Rattle.archetype_store.proofs.SlotRows.{granted_empty}
use Rattle.archetype_store.proofs.StoreKept.{book_kept, store_state}
use Rattle.archetype_store.proofs.WorldShape.{world-settle}
use Rattle.archetype_store.proofs.store.World.settle.Goals as goal

slots : (used unused : List Entity) (book new : List Slot) (v : RowsValue) → HasRows book (rows_seen v) → new ≡ settled used unused book → slots_seen new v ≡ settled used unused (slots_seen book v)
slots used unused book new v held done = ap (with_rows (row_of (rows_seen v).rows)) done ∙ sym (settled-with_rows used unused (row_of (rows_seen v).rows) book (granted_empty book (rows_seen v) held))

pub settle-requires-clause-used : goal.settle-requires-clause-used
settle-requires-clause-used c = λ k d l. IsGranted-without_rows (row_of (rows_seen c.self.inside.rows).rows) c.self.inside.ids (get_or c.args.used.now k d) (rw (ap (λ (v : StoreValue). v.state.slots) c.self.view_is) (c.requires.used k d l))

pub settle-requires-clause-unused : goal.settle-requires-clause-unused
settle-requires-clause-unused c = λ k d l. IsGranted-without_rows (row_of (rows_seen c.self.inside.rows).rows) c.self.inside.ids (get_or c.args.unused.now k d) (rw (ap (λ (v : StoreValue). v.state.slots) c.self.view_is) (c.requires.unused k d l))

pub invariant_of-self : goal.invariant_of-self
invariant_of-self c =
    let h = c.self.invariant in
    let used = c.args.used.now in
    let unused = c.args.unused.now in
    book_kept h (settled used unused) c.settle.new.self c.settle.ensures (slots used unused c.self.inside.ids c.settle.new.self c.self.inside.rows h.held c.settle.ensures)
    (alive-settled used unused c.self.inside.ids) (world-settle widths _ used unused h.shape)

pub returns-clause-state : goal.returns-clause-state
returns-clause-state c =
    let v = c.self.inside.rows in
    let used = c.args.used.now in
    let unused = c.args.unused.now in
    store_state c.self.invariant (settled used unused) c.settle.new.self v (slots used unused c.self.inside.ids c.settle.new.self v c.self.invariant.held c.settle.ensures) _ c.self.view_is
