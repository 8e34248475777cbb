use Rattle.archetype_store.proofs.Common.{◌≡◌, ap, sym, ◌∙◌, slot_at, row_of, rows_seen, StoreValue}
use Rattle.entity_table.proofs.WithRows.{status-with_rows, generation-with_rows}
use Rattle.archetype_store.proofs.store.World.slot_at.Goals as goal

pub returns : goal.returns
returns c =
    let rows = row_of (rows_seen c.self.inside.rows).rows in
    let book = c.self.inside.ids in
    let generation : c.generation.result ≡ (slot_at c.args.self.now.state.slots c.args.index).generation =
    c.generation.ensures ∙ sym (generation-with_rows rows book c.args.index) ∙ ap (λ slots. (slot_at slots c.args.index).generation) (ap (λ (v : StoreValue). v.state.slots) c.self.view_is) in
    let status = c.status.ensures ∙ sym (status-with_rows rows book c.args.index) ∙ ap (λ slots. (slot_at slots c.args.index).status) (ap (λ (v : StoreValue). v.state.slots) c.self.view_is) in
    c.of.ensures ∙ (λ i. record { generation = generation i; status = status i })
