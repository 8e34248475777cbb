use Rattle.column_store.proofs.Common.{◌≡◌, ◌<◌, true, length, map, sym, ap, subst, ◌∙◌, arith, list_all, AllByRecursion, with_items_is, kind_number, TableValue, is_owned, swap_out_in, OwnsRow}
use Rattle.column_store.proofs.ColumnRows.{length-rows_of}
use Rattle.column_store.proofs.Edited.{all_owned, owned_rows, swapped_table, swapped_kept}
use Rattle.column_store.proofs.Roomy.{swapped_room, with_spare}
use Rattle.column_store.proofs.table.Table.swap_remove.Goals as goal

pub swap_remove-requires : goal.swap_remove-requires
swap_remove-requires c =
    subst (λ n. c.args.row < n) (ap (λ (t : TableValue). length t.rows) (sym c.self.view_is) ∙ length-rows_of c.self.inside.entities.list c.self.inside.columns.slots.items) c.requires.within

pub swap_remove_row-requires : goal.swap_remove_row-requires
swap_remove_row-requires c =
    let es = c.self.inside.entities.list in
    let ps = c.self.inside.columns.slots.items in
    let within = subst (λ n. c.args.row < n) (ap (λ (t : TableValue). length t.rows) (sym c.self.view_is) ∙ length-rows_of es ps) c.requires.within in
    let owned = subst (λ (t : TableValue). list_all is_owned t.standings ≡ true) (sym c.self.view_is) c.requires.owned in
    subst (AllByRecursion (OwnsRow c.args.row)) (sym c.deref_mut.ensures.value) (owned_rows (length es) c.args.row ps within c.self.invariant.kept.table.of_length (all_owned ps owned))

pub invariant_of-self : goal.invariant_of-self
invariant_of-self c =
    let ns = map kind_number c.self.inside.columns.kinds.items in
    let es = c.self.inside.entities in
    let ps = c.self.inside.columns.slots.items in
    let within = subst (λ n. c.args.row < n) (ap (λ (t : TableValue). length t.rows) (sym c.self.view_is) ∙ length-rows_of es.list ps) c.requires.within in
    let columns = c.swap_remove_row.ensures ∙ ap (map (swap_out_in c.args.row)) c.deref_mut.ensures.value in
    let same : length c.swap_remove_row.new.columns ≡ c.self.inside.columns.slots.len = (let a = c.swap_remove_row.auto.columns in let v = c.self.inside.columns.slots.ok.0 in omega (arith, c.deref_mut.ensures.len)) in
    rw (with_items_is c.self.inside.columns.slots c.swap_remove_row.new.columns same)
    (with_spare _ _ _ c.self.inside.spare c.self.inside.room
    (swapped_room ns es c.swap_remove.new.self ps c.swap_remove_row.new.columns c.self.inside.spare c.self.invariant.kept
    (swapped_kept ns es.list c.swap_remove.new.self.list ps c.swap_remove_row.new.columns c.self.invariant.kept.table c.args.row within c.swap_remove.ensures.list columns)
    c.args.row within c.swap_remove.ensures.list c.swap_remove.ensures.room columns) c.self.invariant.asked)

pub returns : goal.returns
returns c =
    let ns = map kind_number c.self.inside.columns.kinds.items in
    let es = c.self.inside.entities in
    let ps = c.self.inside.columns.slots.items in
    let within = subst (λ n. c.args.row < n) (ap (λ (t : TableValue). length t.rows) (sym c.self.view_is) ∙ length-rows_of es.list ps) c.requires.within in
    let columns = c.swap_remove_row.ensures ∙ ap (map (swap_out_in c.args.row)) c.deref_mut.ensures.value in
    let same : length c.swap_remove_row.new.columns ≡ c.self.inside.columns.slots.len = (let a = c.swap_remove_row.auto.columns in let v = c.self.inside.columns.slots.ok.0 in omega (arith, c.deref_mut.ensures.len)) in
    rw (with_items_is c.self.inside.columns.slots c.swap_remove_row.new.columns same, ← c.self.view_is)
    (ap (λ (t : TableValue). record t { room = c.self.inside.room }) (swapped_table ns es.list c.swap_remove.new.self.list ps c.swap_remove_row.new.columns c.self.invariant.kept.table c.args.row within c.swap_remove.ensures.list columns))
