use Rattle.archetype_store.proofs.Common.{◌≡◌, List, sym, ap, ◌∙◌, widths, Entity, release, Slot, with_rows, slots_seen, HasRows, RowsValue, rows_seen, row_of}
use Rattle.entity_table.proofs.Living.{alive-release}
use Rattle.entity_table.proofs.WithRows.{release-with_rows}
use Rattle.archetype_store.proofs.SlotRows.{granted_empty}
use Rattle.archetype_store.proofs.StoreKept.{book_kept, store_state}
use Rattle.archetype_store.proofs.WorldShape.{world-release}
use Rattle.archetype_store.proofs.store.World.release.Goals as goal

slots : (ids : List Entity) (book new : List Slot) (v : RowsValue) → HasRows book (rows_seen v) → new ≡ release ids book → slots_seen new v ≡ release ids (slots_seen book v)
slots ids book new v held done = ap (with_rows (row_of (rows_seen v).rows)) done ∙ sym (release-with_rows ids (row_of (rows_seen v).rows) book (granted_empty book (rows_seen v) held))

pub invariant_of-self : goal.invariant_of-self
invariant_of-self c =
    let book = c.self.inside.ids in
    let h = c.self.invariant in
    let ids = c.args.ids.now in
    book_kept h (release ids) c.release.new.self c.release.ensures (slots ids book c.release.new.self c.self.inside.rows h.held c.release.ensures) (alive-release ids book) (world-release widths _ ids h.shape)

pub returns-clause-state : goal.returns-clause-state
returns-clause-state c =
    let h = c.self.invariant in
    let ids = c.args.ids.now in
    store_state h (release ids) c.release.new.self c.self.inside.rows (slots ids c.self.inside.ids c.release.new.self c.self.inside.rows h.held c.release.ensures) _ c.self.view_is
