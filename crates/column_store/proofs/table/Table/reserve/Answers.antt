use Rattle.column_store.proofs.Common.{◌≡◌, ◌+◌, ◌≤◌, true, length, map, sym, ap, ap₂, subst, ◌∙◌, arith, list_all, AllByRecursion, with_items_is, kind_number, EntityListValue, TableValue, is_owned, table_of, HasRoom, IsOwned, IsTable, AreRoomier}
use Rattle.column_store.proofs.Edited.{all_owned}
use Rattle.column_store.proofs.Kept.{kept-seen, roomier-seen}
use Rattle.column_store.proofs.Roomy.{roomier_room, reserved_room, with_spare}
use Rattle.column_store.proofs.Tables.{table-seen}
use Rattle.column_store.proofs.Turns.{on_err_from}
use Rattle.column_store.proofs.table.Table.reserve.Goals as goal
use Rattle.column_store.proofs.table.Table.reserve.Goals.{After-reserve_rows}

-- the slots have more room, and the entities are the same
same : (c : After-reserve_rows) → length c.reserve_rows.new.columns ≡ c.self.inside.columns.slots.len
same c = let a = c.reserve_rows.auto.columns in let v = c.self.inside.columns.slots.ok.0 in omega (arith, c.deref_mut.ensures.len)

roomier : (c : After-reserve_rows) → AreRoomier c.self.inside.columns.slots.items c.reserve_rows.new.columns
roomier c = subst (λ qs. AreRoomier qs c.reserve_rows.new.columns) c.deref_mut.ensures.value c.reserve_rows.ensures.roomier

list : (c : After-reserve_rows) → c.reserve.new.self.list ≡ c.self.inside.entities.list
list c = ap (λ (v : EntityListValue). v.list) c.reserve.ensures.same

-- so it is a table, which is seen as before
table : (c : After-reserve_rows) → IsTable (map kind_number c.self.inside.columns.kinds.items) c.reserve.new.self.list c.reserve_rows.new.columns
table c =
    subst (λ xs. IsTable (map kind_number c.self.inside.columns.kinds.items) xs c.reserve_rows.new.columns) (sym (list c))
    (kept-seen _ c.self.inside.entities.list c.self.inside.columns.slots.items c.reserve_rows.new.columns (roomier-seen c.self.inside.columns.slots.items c.reserve_rows.new.columns (roomier c)) c.self.invariant.kept.table)

seen : (c : After-reserve_rows) → (let ns = map kind_number c.self.inside.columns.kinds.items in table_of ns c.reserve.new.self.list c.reserve_rows.new.columns ≡ table_of ns c.self.inside.entities.list c.self.inside.columns.slots.items)
seen c =
    let ns = map kind_number c.self.inside.columns.kinds.items in
    ap (λ xs. table_of ns xs c.reserve_rows.new.columns) (list c)
    ∙ table-seen ns c.self.inside.entities.list c.self.inside.columns.slots.items c.reserve_rows.new.columns (roomier-seen c.self.inside.columns.slots.items c.reserve_rows.new.columns (roomier c))

pub reserve_rows-requires-clause-owned : goal.reserve_rows-requires-clause-owned
reserve_rows-requires-clause-owned c =
    let owned = subst (λ (t : TableValue). list_all is_owned t.standings ≡ true) (sym c.self.view_is) c.requires in
    subst (AllByRecursion IsOwned) (sym c.deref_mut.ensures.value) (all_owned c.self.inside.columns.slots.items owned)

pub invariant_of-self-in_err-reserve_rows : goal.invariant_of-self-in_err-reserve_rows
invariant_of-self-in_err-reserve_rows c =
    let a = (goal.at.invariant_of-self-in_err-reserve_rows c).After-reserve_rows in
    rw (with_items_is c.self.inside.columns.slots c.reserve_rows.new.columns (same a))
    (with_spare _ _ _ c.self.inside.spare c.self.inside.room
    (roomier_room _ c.self.inside.entities c.reserve.new.self c.self.inside.columns.slots.items c.reserve_rows.new.columns c.self.inside.spare c.self.invariant.kept (table a) (list a) c.reserve.ensures.room (roomier a))
    c.self.invariant.asked)

pub returns-in_err-reserve_rows-clause-err : goal.returns-in_err-reserve_rows-clause-err
returns-in_err-reserve_rows-clause-err c =
    let a = (goal.at.returns-in_err-reserve_rows-clause-err c).After-reserve_rows in
    on_err_from c.from_residual-in_err-reserve_rows.result _
    (rw (with_items_is c.self.inside.columns.slots c.reserve_rows.new.columns (same a)) (ap (λ (t : TableValue). record t { room = c.self.inside.room }) (seen a) ∙ c.self.view_is))

pub invariant_of-self-2 : goal.invariant_of-self-2
invariant_of-self-2 c =
    let a = (goal.at.invariant_of-self-2 c).After-reserve_rows in
    let spare = c.in_steps-spare.result in
    rw (with_items_is c.self.inside.columns.slots c.reserve_rows.new.columns (same a))
    (with_spare _ _ _ spare c.in-Some.room
    (reserved_room _ c.reserve.new.self c.reserve_rows.new.columns spare (table a)
    (subst (λ xs. length xs + spare ≤ c.reserve.new.self.room) (sym (list a)) c.in_ok-reserve.ensures.ok)
    (subst (λ n. AllByRecursion (HasRoom (n + spare)) c.reserve_rows.new.columns) (ap length (c.as_slice-count.ensures.entities ∙ sym (list a))) c.in_ok-reserve_rows.ensures.ok))
    (let most = c.in_steps-spare.ensures in omega (arith, most)))

pub returns-clause-ok : goal.returns-clause-ok
returns-clause-ok c =
    let a = (goal.at.returns-clause-ok c).After-reserve_rows in
    rw (with_items_is c.self.inside.columns.slots c.reserve_rows.new.columns (same a))
    (ap₂ (λ (t : TableValue) n. record t { room = n }) (seen a) c.in-Some.ensures.1 ∙ ap (λ (t : TableValue). record t { room = t.room + c.args.further }) c.self.view_is)
