use Rattle.column_store.proofs.Common.{◌≡◌, ◌+◌, ◌-◌, ◌<◌, true, false, length, map, is_some, sym, ap, subst, ◌∙◌, arith, list_all, with_items_is, kind_number, stamped_cell, TableValue, is_owned, row_of, push_all, AllTake}
use Rattle.column_store.proofs.Edited.{takes_row, absent_nowhere, pushed_table, pushed_kept}
use Rattle.column_store.proofs.Roomy.{pushed_room, with_spare}
use Rattle.column_store.proofs.table.Table.push.Goals as goal

pub push-requires-clause-absent : goal.push-requires-clause-absent
push-requires-clause-absent c =
    let absent = subst (λ (t : TableValue). is_some (row_of c.args.e t.rows) ≡ false) (sym c.self.view_is) c.requires.absent in
    absent_nowhere c.args.e c.self.inside.entities.list c.self.inside.columns.slots.items absent

pub push_row-requires : goal.push_row-requires
push_row-requires c =
    let ns = map kind_number c.self.inside.columns.kinds.items in
    let es = c.self.inside.entities.list in
    let ps = c.self.inside.columns.slots.items in
    let some = subst (λ (t : TableValue). 0 < t.room) (sym c.self.view_is) c.requires.room in
    let owned = subst (λ (t : TableValue). list_all is_owned t.standings ≡ true) (sym c.self.view_is) c.requires.owned in
    let kinds = c.requires.kinds ∙ ap (λ (t : TableValue). t.kinds) (sym c.self.view_is) in
    let spare : 0 < c.self.inside.spare = (let asked = c.self.invariant.asked in omega (arith, some, asked)) in
    subst (λ columns. AllTake columns c.args.components.now) (sym c.deref_mut.ensures.value)
    (takes_row ns es ps (length es + c.self.inside.spare) c.args.components.now c.self.invariant.kept.table owned (omega arith) (c.self.invariant.kept.each spare) kinds)

pub invariant_of-self : goal.invariant_of-self
invariant_of-self c =
    let ns = map kind_number c.self.inside.columns.kinds.items in
    let es = c.self.inside.entities in
    let ps = c.self.inside.columns.slots.items in
    let ss = c.args.components.now in
    let some = subst (λ (t : TableValue). 0 < t.room) (sym c.self.view_is) c.requires.room in
    let absent = absent_nowhere c.args.e es.list ps (subst (λ (t : TableValue). is_some (row_of c.args.e t.rows) ≡ false) (sym c.self.view_is) c.requires.absent) in
    let kinds = c.requires.kinds ∙ ap (λ (t : TableValue). t.kinds) (sym c.self.view_is) in
    let columns = c.push_row.ensures ∙ ap (λ qs. push_all qs (map stamped_cell ss)) c.deref_mut.ensures.value in
    let spare : 0 < c.self.inside.spare = (let asked = c.self.invariant.asked in omega (arith, some, asked)) in
    let same : length c.push_row.new.columns ≡ c.self.inside.columns.slots.len = (let a = c.push_row.auto.columns in let v = c.self.inside.columns.slots.ok.0 in omega (arith, c.deref_mut.ensures.len)) in
    rw (with_items_is c.self.inside.columns.slots c.push_row.new.columns same)
    (with_spare _ _ _ (c.self.inside.spare - 1) (c.self.inside.room - 1)
    (pushed_room ns es c.push.new.self ps c.push_row.new.columns c.self.inside.spare c.self.invariant.kept
    (pushed_kept ns es.list c.push.new.self.list ps c.push_row.new.columns c.self.invariant.kept.table c.args.e ss kinds c.push.ensures.list columns absent)
    c.args.e (map stamped_cell ss) spare c.push.ensures.list c.push.ensures.room columns) (let asked = c.self.invariant.asked in omega (arith, asked)))

pub returns : goal.returns
returns c =
    let ns = map kind_number c.self.inside.columns.kinds.items in
    let es = c.self.inside.entities in
    let ps = c.self.inside.columns.slots.items in
    let ss = c.args.components.now in
    let kinds = c.requires.kinds ∙ ap (λ (t : TableValue). t.kinds) (sym c.self.view_is) in
    let columns = c.push_row.ensures ∙ ap (λ qs. push_all qs (map stamped_cell ss)) c.deref_mut.ensures.value in
    let same : length c.push_row.new.columns ≡ c.self.inside.columns.slots.len = (let a = c.push_row.auto.columns in let v = c.self.inside.columns.slots.ok.0 in omega (arith, c.deref_mut.ensures.len)) in
    rw (with_items_is c.self.inside.columns.slots c.push_row.new.columns same, ← c.self.view_is)
    (ap (λ (t : TableValue). record t { room = c.self.inside.room - 1 }) (pushed_table ns es.list c.push.new.self.list ps c.push_row.new.columns c.self.invariant.kept.table c.args.e ss kinds c.push.ensures.list columns))
