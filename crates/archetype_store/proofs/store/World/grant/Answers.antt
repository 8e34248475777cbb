use Rattle.archetype_store.proofs.Common.{◌≡◌, ℕ, List, get_or, sym, ap, ◌∙◌, rules, true_from_ne_false, Slot, has_ids, granted_ids, grant, widths, with_rows, slots_seen, HasRows, RowsValue, rows_seen, row_of, StoreValue}
use Rattle.entity_table.proofs.Living.{alive-grant}
use Rattle.entity_table.proofs.WithRows.{grant-with_rows, granted_ids-with_rows, has_ids-with_rows, IsGranted-with_rows}
use Rattle.archetype_store.proofs.SlotRows.{past_empty}
use Rattle.archetype_store.proofs.WorldShape.{world-grant}
use Rattle.archetype_store.proofs.store.World.grant.Goals.{After-grant}
use Rattle.archetype_store.proofs.StoreKept.{book_kept, store_state}
use Rattle.archetype_store.proofs.store.World.grant.Goals as goal

-- whether there are ids
same_ids : (c : After-grant) → has_ids c.args.count c.self.inside.ids ≡ has_ids c.args.count c.args.self.now.state.slots
same_ids c = sym (has_ids-with_rows c.args.count (row_of (rows_seen c.self.inside.rows).rows) c.self.inside.ids) ∙ ap (has_ids c.args.count) (ap (λ (v : StoreValue). v.state.slots) c.self.view_is)

slots : (n : ℕ) (book new : List Slot) (v : RowsValue) → HasRows book (rows_seen v) → new ≡ grant n book → slots_seen new v ≡ grant n (slots_seen book v)
slots n book new v held done = ap (with_rows (row_of (rows_seen v).rows)) done ∙ sym (grant-with_rows n (row_of (rows_seen v).rows) book (past_empty book (rows_seen v) held))

pub invariant_of-self-2 : goal.invariant_of-self-2
invariant_of-self-2 c =
    let book = c.self.inside.ids in
    let h = c.self.invariant in
    let n = c.args.count in
    let ok = c.in_ok-granted.ensures in
    let enough = has_ids-with_rows n (row_of (rows_seen c.self.inside.rows).rows) book ∙ true_from_ne_false (has_ids n book) (λ none. let e = ok.spent.1 none in cc) in
    book_kept h (grant n) c.grant.new.self ok.granted (slots n book c.grant.new.self c.self.inside.rows h.held ok.granted) (alive-grant n book) (world-grant widths _ n enough h.shape)

pub returns-clause-granted : goal.returns-clause-granted
returns-clause-granted c =
    let v = c.self.inside.rows in
    let h = c.self.invariant in
    store_state h (grant c.args.count) c.grant.new.self v (slots c.args.count c.self.inside.ids c.grant.new.self v h.held c.in_ok-granted.ensures.granted) _ c.self.view_is

pub returns-in_err-granted-clause-spent : goal.returns-in_err-granted-clause-spent
returns-in_err-granted-clause-spent c =
    let same = same_ids (goal.at.returns-in_err-granted-clause-spent c).After-grant in
    let spent = rw same at c.in_err-granted.ensures.spent in
    search rules

pub returns-clause-ok : goal.returns-clause-ok
returns-clause-ok c =
    let a = rows_seen c.self.inside.rows in
    let rows = row_of a.rows in
    c.in_ok-granted.ensures.ok ∙ sym (granted_ids-with_rows c.args.count rows c.self.inside.ids) ∙ ap (λ (x : StoreValue). granted_ids c.args.count x.state.slots) c.self.view_is

pub returns-clause-each : goal.returns-clause-each
returns-clause-each c = λ k d l.
    IsGranted-with_rows (row_of (rows_seen c.self.inside.rows).rows) c.grant.new.self (get_or c.in_ok-granted.granted.items k d) (c.in_ok-granted.ensures.each k d l)

pub returns-clause-spent : goal.returns-clause-spent
returns-clause-spent c =
    let same = same_ids (goal.at.returns-clause-spent c).After-grant in
    let spent = rw same at c.in_ok-granted.ensures.spent in
    search rules
