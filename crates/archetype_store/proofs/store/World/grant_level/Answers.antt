use Rattle.archetype_store.proofs.Common.{◌≡◌, ℕ, List, sym, ap, ◌∙◌, rules, true_from_ne_false, Slot, has_ids_for_each, ids_of_each, grant_each, widths, with_rows, slots_seen, HasRows, RowsValue, rows_seen, row_of, StoreValue}
use Rattle.entity_table.proofs.Living.{alive-grant_each}
use Rattle.entity_table.proofs.WithRows.{grant_each-with_rows, ids_of_each-with_rows, has_ids_for_each-with_rows}
use Rattle.archetype_store.proofs.SlotRows.{past_empty}
use Rattle.archetype_store.proofs.WorldShape.{world-grant_each}
use Rattle.archetype_store.proofs.store.World.grant_level.Goals.{After-grant_level}
use Rattle.archetype_store.proofs.StoreKept.{book_kept, store_state}
use Rattle.archetype_store.proofs.store.World.grant_level.Goals as goal

-- whether there are ids
same_ids : (c : After-grant_level) → has_ids_for_each c.args.counts.now c.self.inside.ids ≡ has_ids_for_each c.args.counts.now c.args.self.now.state.slots
same_ids c =
    let a = rows_seen c.self.inside.rows in
    sym (has_ids_for_each-with_rows c.args.counts.now (row_of a.rows) c.self.inside.ids (past_empty c.self.inside.ids a c.self.invariant.held))
    ∙ ap (has_ids_for_each c.args.counts.now) (ap (λ (v : StoreValue). v.state.slots) c.self.view_is)

slots : (ns : List ℕ) (book new : List Slot) (v : RowsValue) → HasRows book (rows_seen v) → new ≡ grant_each ns book → slots_seen new v ≡ grant_each ns (slots_seen book v)
slots ns book new v held done = ap (with_rows (row_of (rows_seen v).rows)) done ∙ sym (grant_each-with_rows ns (row_of (rows_seen v).rows) book (past_empty book (rows_seen v) held))

pub invariant_of-self-2 : goal.invariant_of-self-2
invariant_of-self-2 c =
    let book = c.self.inside.ids in
    let v = c.self.inside.rows in
    let h = c.self.invariant in
    let ns = c.args.counts.now in
    let ok = c.in_ok-grant_level.ensures in
    let enough = has_ids_for_each-with_rows ns (row_of (rows_seen v).rows) book (past_empty book (rows_seen v) h.held) ∙ true_from_ne_false (has_ids_for_each ns book) (λ none. let e = ok.spent.1 none in cc) in
    book_kept h (grant_each ns) c.grant_level.new.self ok.granted (slots ns book c.grant_level.new.self v h.held ok.granted) (alive-grant_each ns book) (world-grant_each widths _ ns enough h.shape)

pub returns-clause-granted : goal.returns-clause-granted
returns-clause-granted c =
    let v = c.self.inside.rows in
    let h = c.self.invariant in
    let ns = c.args.counts.now in
    store_state h (grant_each ns) c.grant_level.new.self v (slots ns c.self.inside.ids c.grant_level.new.self v h.held c.in_ok-grant_level.ensures.granted) _ c.self.view_is

pub returns-in_err-grant_level-clause-spent : goal.returns-in_err-grant_level-clause-spent
returns-in_err-grant_level-clause-spent c =
    let same = same_ids (goal.at.returns-in_err-grant_level-clause-spent c).After-grant_level in
    let spent = rw same at c.in_err-grant_level.ensures.spent in
    search rules

pub returns-clause-ok : goal.returns-clause-ok
returns-clause-ok c =
    let book = c.self.inside.ids in
    let a = rows_seen c.self.inside.rows in
    let rows = row_of a.rows in
    let held = c.self.invariant.held in
    c.in_ok-grant_level.ensures.ok ∙ sym (ids_of_each-with_rows c.args.counts.now rows book (past_empty book a held)) ∙ ap (λ (x : StoreValue). ids_of_each c.args.counts.now x.state.slots) c.self.view_is

pub returns-clause-spent : goal.returns-clause-spent
returns-clause-spent c =
    let same = same_ids (goal.at.returns-clause-spent c).After-grant_level in
    let spent = rw same at c.in_ok-grant_level.ensures.spent in
    search rules
