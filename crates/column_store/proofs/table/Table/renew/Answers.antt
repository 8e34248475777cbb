use Rattle.column_store.proofs.Common.{◌≡◌, ◌<◌, true, length, map, refl, sym, ap, subst, ◌∙◌, arith, list_all, with_items_is, kind_number, stamped_cell, TableValue, is_owned, replace_all, AllRenew}
use Rattle.column_store.proofs.ColumnRows.{length-rows_of}
use Rattle.column_store.proofs.Edited.{renews_row, renewed_table, renewed_kept}
use Rattle.column_store.proofs.Roomy.{renewed_room, with_spare}
use Rattle.column_store.proofs.table.Table.renew.Goals as goal

pub replace_row-requires : goal.replace_row-requires
replace_row-requires c =
    let ns = map kind_number c.self.inside.columns.kinds.items in
    let es = c.self.inside.entities.list in
    let ps = c.self.inside.columns.slots.items in
    let within = subst (λ n. c.args.row < n) (ap (λ (t : TableValue). length t.rows) (sym c.self.view_is) ∙ length-rows_of es ps) c.requires.within in
    let owned = subst (λ (t : TableValue). list_all is_owned t.standings ≡ true) (sym c.self.view_is) c.requires.owned in
    let kinds = c.requires.kinds ∙ ap (λ (t : TableValue). t.kinds) (sym c.self.view_is) in
    subst (λ columns. AllRenew c.args.row columns c.args.components.now) (sym c.deref_mut.ensures.value)
    (renews_row ns es ps c.args.components.now c.self.invariant.kept.table owned kinds c.args.row within)

pub invariant_of-self : goal.invariant_of-self
invariant_of-self c =
    let ns = map kind_number c.self.inside.columns.kinds.items in
    let es = c.self.inside.entities in
    let ps = c.self.inside.columns.slots.items in
    let ss = c.args.components.now in
    let columns = c.replace_row.ensures ∙ ap (λ qs. replace_all c.args.row qs (map stamped_cell ss)) c.deref_mut.ensures.value in
    let same : length c.replace_row.new.columns ≡ c.self.inside.columns.slots.len = (let a = c.replace_row.auto.columns in let v = c.self.inside.columns.slots.ok.0 in omega (arith, c.deref_mut.ensures.len)) in
    rw (with_items_is c.self.inside.columns.slots c.replace_row.new.columns same)
    (with_spare _ _ _ c.self.inside.spare c.self.inside.room
    (renewed_room ns es es ps c.replace_row.new.columns c.self.inside.spare c.self.invariant.kept
    (renewed_kept ns es.list ps c.replace_row.new.columns c.args.row ss columns c.self.invariant.kept.table) c.args.row (map stamped_cell ss) refl columns) c.self.invariant.asked)

pub returns : goal.returns
returns c =
    let ns = map kind_number c.self.inside.columns.kinds.items in
    let es = c.self.inside.entities in
    let ps = c.self.inside.columns.slots.items in
    let ss = c.args.components.now in
    let kinds = c.requires.kinds ∙ ap (λ (t : TableValue). t.kinds) (sym c.self.view_is) in
    let columns = c.replace_row.ensures ∙ ap (λ qs. replace_all c.args.row qs (map stamped_cell ss)) c.deref_mut.ensures.value in
    let same : length c.replace_row.new.columns ≡ c.self.inside.columns.slots.len = (let a = c.replace_row.auto.columns in let v = c.self.inside.columns.slots.ok.0 in omega (arith, c.deref_mut.ensures.len)) in
    rw (with_items_is c.self.inside.columns.slots c.replace_row.new.columns same, ← c.self.view_is)
    (ap (λ (t : TableValue). record t { room = c.self.inside.room }) (renewed_table ns es.list ps c.replace_row.new.columns c.args.row ss columns c.self.invariant.kept.table kinds))
