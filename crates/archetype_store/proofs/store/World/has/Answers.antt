use Rattle.archetype_store.proofs.Common.{◌≡◌, true, None, cond, is_some, sym, ap, ◌∙◌, rules, kind_number, is_alive, cell_at, kinds_of, row_at, rows_seen, row_of, StoreValue}
use Rattle.archetype_store.proofs.SlotRows.{row_at_slots}
use Rattle.archetype_store.proofs.store.World.has.Goals as goal

pub returns : goal.returns
returns c =
    let slots = c.args.self.now.state.slots in
    let a = rows_seen c.self.inside.rows in
    let k = kind_number c.args.kind in
    let alive : is_alive slots c.args.e ≡ true = search rules in
    let row = sym (row_at_slots c.self.inside.ids a c.self.invariant.held c.args.e.index) ∙ ap (λ (x : StoreValue). row_at x.state.slots c.args.e.index) c.self.view_is in
    c.has.ensures ∙ ap (kinds_of (row_of a.rows c.args.e.index)) c.number.ensures ∙ ap (λ r. is_some (cell_at r k)) row ∙ sym (ap (λ b. is_some (cond b (cell_at (row_at slots c.args.e.index) k) None)) alive)
