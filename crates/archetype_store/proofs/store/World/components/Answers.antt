use Rattle.archetype_store.proofs.Common.{sym, ap, ◌∙◌, on_ok_weaker, row_at, rows_seen, StoreValue}
use Rattle.archetype_store.proofs.SlotRows.{row_at_slots}
use Rattle.archetype_store.proofs.store.World.components.Goals as goal

pub returns : goal.returns
returns c =
    let row = sym (row_at_slots c.self.inside.ids (rows_seen c.self.inside.rows) c.self.invariant.held c.args.index) ∙ ap (λ slots. row_at slots c.args.index) (ap (λ (v : StoreValue). v.state.slots) c.self.view_is) in
    on_ok_weaker c.components.result (λ read. read ∙ row) c.components.ensures
