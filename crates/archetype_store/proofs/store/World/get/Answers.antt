use Rattle.archetype_store.proofs.Common.{◌≡◌, true, None, slice_get, sym, ap, ◌∙◌, rules, is_alive, rows_seen, StoreValue}
use Rattle.archetype_store.proofs.SlotRows.{words_alive}
use Rattle.archetype_store.proofs.store.World.get.Goals as goal

pub returns-in-Some : goal.returns-in-Some
returns-in-Some g c =
    let alive : is_alive c.args.self.now.state.slots c.args.e ≡ true = search rules in
    sym c.get.ensures ∙ words_alive c.self.inside.ids (rows_seen c.self.inside.rows) c.self.invariant.held c.args.self.now.state.slots (ap (λ (v : StoreValue). v.state.slots) c.self.view_is) c.args.e _ _ c.kind.ensures alive
    (slice_get c.in-Some.cell.column.now.cells c.in-Some.cell.row) c.in-Some.ensures.cell

pub returns-in-None : goal.returns-in-None
returns-in-None g c =
    let alive : is_alive c.args.self.now.state.slots c.args.e ≡ true = search rules in
    words_alive c.self.inside.ids (rows_seen c.self.inside.rows) c.self.invariant.held c.args.self.now.state.slots (ap (λ (v : StoreValue). v.state.slots) c.self.view_is) c.args.e _ _ c.kind.ensures alive None c.in-None.ensures.cell
