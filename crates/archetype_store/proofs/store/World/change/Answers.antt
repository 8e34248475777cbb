use Rattle.archetype_store.proofs.Common.{sym, ap, subst, ◌∙◌, IsRising, each-weaker, EntityChange, changed, components_left, CanChange, with_rows, HasRows, rows_seen, row_of}
use Rattle.archetype_store.proofs.BookChanges.{below_left, rows_settled, slots_changed}
use Rattle.archetype_store.proofs.WorldShape.{world-changed}
use Rattle.archetype_store.proofs.StoreKept.{alike_held, alike_slots, store_kept, store_state}
use Rattle.archetype_store.proofs.StoreChanges.{all_held, all_theirs, can_there}
use Rattle.archetype_store.proofs.store.World.change.Goals as goal

pub change_rows-requires-clause-below : goal.change_rows-requires-clause-below
change_rows-requires-clause-below c =
    below_left c.args.changes.now (each-weaker (CanChange c.args.self.now.state) (λ (x : EntityChange). IsRising (components_left x.fate)) (λ x h. h.rising) c.args.changes.now c.requires.can)

pub change_rows-requires-clause-theirs : goal.change_rows-requires-clause-theirs
change_rows-requires-clause-theirs c = all_theirs c.self.invariant c.args.self.now c.self.view_is c.args.changes.now c.requires.can

pub settle_all-requires-clause-held : goal.settle_all-requires-clause-held
settle_all-requires-clause-held c = all_held c.self.invariant c.args.self.now c.self.view_is c.args.changes.now c.requires.can

pub invariant_of-self : goal.invariant_of-self
invariant_of-self c =
    let book = c.self.inside.ids in
    let a = rows_seen c.self.inside.rows in
    let h = c.self.invariant in
    let u = c.change_rows.new.rows in
    let alike = c.in_err-change_rows.ensures.err in
    store_kept h (λ slots. slots) book u (alike_slots book a (rows_seen u) alike.rows) _ (alike_held book a (rows_seen u) alike.rows alike.holders h.held) c.change_rows.ensures.indexed h.shape

pub invariant_of-self-2 : goal.invariant_of-self-2
invariant_of-self-2 c =
    let book = c.self.inside.ids in
    let a = rows_seen c.self.inside.rows in
    let u = c.change_rows.new.rows in
    let cs = c.args.changes.now in
    let done = c.in_ok-change_rows.ensures.ok in
    let is = ap (with_rows (row_of (rows_seen u).rows)) c.settle_all.ensures ∙ slots_changed cs book (row_of a.rows) (row_of (rows_seen u).rows) c.requires.apart done.rows in
    let after = subst (λ slots. HasRows slots (rows_seen u)) (sym c.settle_all.ensures) (rows_settled book a (rows_seen u) c.self.invariant.held cs c.requires.apart (all_held c.self.invariant c.args.self.now c.self.view_is c.args.changes.now c.requires.can) done) in
    store_kept c.self.invariant (changed cs) c.settle_all.new.book u is _ after c.change_rows.ensures.indexed
    (world-changed _ cs (can_there c.self.invariant c.args.self.now c.self.view_is c.args.changes.now c.requires.can) c.self.invariant.shape)

pub returns-clause-ok : goal.returns-clause-ok
returns-clause-ok c =
    let rows = row_of (rows_seen c.self.inside.rows).rows in
    let u = c.change_rows.new.rows in
    let cs = c.args.changes.now in
    let is = ap (with_rows (row_of (rows_seen u).rows)) c.settle_all.ensures ∙ slots_changed cs c.self.inside.ids rows (row_of (rows_seen u).rows) c.requires.apart c.in_ok-change_rows.ensures.ok.rows in
    store_state c.self.invariant (changed cs) c.settle_all.new.book u is _ c.self.view_is
