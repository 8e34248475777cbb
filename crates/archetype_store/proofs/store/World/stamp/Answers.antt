use Rattle.archetype_store.proofs.Common.{◌≡◌, true, option_map, sym, ap, ◌∙◌, rules, kind_number, is_alive, rows_seen, StoreValue}
use Rattle.archetype_store.specs.Store.{stamp_of}
use Rattle.archetype_store.proofs.SlotRows.{cell_alive}
use Rattle.archetype_store.proofs.store.World.stamp.Goals as goal

pub returns-in-Some : goal.returns-in-Some
returns-in-Some c =
    let alive : is_alive c.args.self.now.state.slots c.args.e ≡ true = search rules in
    sym c.stamp.ensures
    ∙ ap (option_map stamp_of) (c.in-Some.ensures.cell ∙ cell_alive c.self.inside.ids (rows_seen c.self.inside.rows) c.self.invariant.held c.args.self.now.state.slots (ap (λ (v : StoreValue). v.state.slots) c.self.view_is) c.args.e (kind_number c.args.kind) alive)

pub returns-in-None : goal.returns-in-None
returns-in-None c =
    let alive : is_alive c.args.self.now.state.slots c.args.e ≡ true = search rules in
    ap (option_map stamp_of) (c.in-None.ensures.cell ∙ cell_alive c.self.inside.ids (rows_seen c.self.inside.rows) c.self.invariant.held c.args.self.now.state.slots (ap (λ (v : StoreValue). v.state.slots) c.self.view_is) c.args.e (kind_number c.args.kind) alive)
