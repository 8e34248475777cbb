use Rattle.archetype_store.proofs.Common.{ap, sym, ◌∙◌, is_alive, row_of, rows_seen, StoreValue}
use Rattle.entity_table.proofs.WithRows.{is_alive-with_rows}
use Rattle.archetype_store.proofs.store.World.lives.Goals as goal

pub returns : goal.returns
returns c =
    c.lives.ensures.value ∙ sym (is_alive-with_rows (row_of (rows_seen c.self.inside.rows).rows) c.self.inside.ids c.args.e) ∙ ap (λ slots. is_alive slots c.args.e) (ap (λ (v : StoreValue). v.state.slots) c.self.view_is)
