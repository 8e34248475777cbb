use Rattle.archetype_store.proofs.Common.{◌≡◌, ℕ, ◌++◌, [], ◌∷◌, List, length, sym, ap, ◌∙◌, arith, rules, Slot, most_indices, empty_slot, widths, with_rows, slots_seen, HasRows, RowsValue, rows_seen, row_of, StoreValue}
use Rattle.entity_table.specs.declared.status.Status.{Status}
use Rattle.entity_table.proofs.WithRows.{length-with_rows}
use Rattle.archetype_store.proofs.NewSlots.{alive-pushed, with_rows-pushed, world-pushed}
use Rattle.archetype_store.proofs.SlotRows.{past_empty}
use Rattle.archetype_store.proofs.store.World.push_slot.Goals.{After-push}
use Rattle.archetype_store.proofs.StoreKept.{book_kept, store_state, less_than}
use Rattle.archetype_store.proofs.store.World.push_slot.Goals as goal

-- how many slots there are
same_length : (c : After-push) → length c.self.inside.ids ≡ length c.args.self.now.state.slots
same_length c = sym (length-with_rows (row_of (rows_seen c.self.inside.rows).rows) c.self.inside.ids) ∙ ap length (ap (λ (v : StoreValue). v.state.slots) c.self.view_is)

slots : (generation : ℕ) (status : Status) (book new : List Slot) (v : RowsValue) → HasRows book (rows_seen v) → new ≡ book ++ empty_slot generation status ∷ [] → slots_seen new v ≡ slots_seen book v ++ empty_slot generation status ∷ []
slots generation status book new v held done =
    ap (with_rows (row_of (rows_seen v).rows)) done ∙ with_rows-pushed (row_of (rows_seen v).rows) book generation status (past_empty book (rows_seen v) held (length book) (omega arith))

pub invariant_of-self-2 : goal.invariant_of-self-2
invariant_of-self-2 c =
    let book = c.self.inside.ids in
    let v = c.self.inside.rows in
    let h = c.self.invariant in
    let rows = (row_of (rows_seen v).rows) in
    let ok = c.in_ok-push.ensures in
    let few = less_than (length (with_rows rows book)) most_indices h.shape.few (λ full. let e = ok.spent.1 (sym (length-with_rows rows book) ∙ full) in cc) in
    book_kept h (λ slots. slots ++ empty_slot c.args.generation c.args.status ∷ []) c.push.new.self ok.ok (slots c.args.generation c.args.status book c.push.new.self v h.held ok.ok)
    (alive-pushed book (empty_slot c.args.generation c.args.status)) (world-pushed widths _ c.args.generation c.args.status c.requires few h.shape)

pub returns-clause-ok : goal.returns-clause-ok
returns-clause-ok c =
    let new = c.push.new.self in
    let v = c.self.inside.rows in
    let h = c.self.invariant in
    store_state h (λ slots. slots ++ empty_slot c.args.generation c.args.status ∷ []) new v (slots c.args.generation c.args.status c.self.inside.ids new v h.held c.in_ok-push.ensures.ok) _ c.self.view_is

pub returns-in_err-push-clause-spent : goal.returns-in_err-push-clause-spent
returns-in_err-push-clause-spent c =
    let same = same_length (goal.at.returns-in_err-push-clause-spent c).After-push in
    let spent = rw same at c.in_err-push.ensures.spent in
    search rules

pub returns-clause-spent : goal.returns-clause-spent
returns-clause-spent c =
    let same = same_length (goal.at.returns-clause-spent c).After-push in
    let spent = rw same at c.in_ok-push.ensures.spent in
    search rules
