use Rattle.archetype_store.proofs.Common.{length, ap, sym, ◌∙◌, row_of, rows_seen, StoreValue}
use Rattle.entity_table.proofs.WithRows.{length-with_rows}
use Rattle.archetype_store.proofs.store.World.slot_count.Goals as goal

pub returns : goal.returns
returns c = c.len.ensures.value ∙ sym (length-with_rows (row_of (rows_seen c.self.inside.rows).rows) c.self.inside.ids) ∙ ap length (ap (λ (v : StoreValue). v.state.slots) c.self.view_is)
