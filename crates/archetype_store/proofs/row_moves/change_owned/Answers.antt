use Rattle.archetype_store.proofs.Common.{map, List, sym, ap, subst, ◌∙◌, AllByRecursion, EntityChange, change_of, IsPlanned, AreAlikeBefore, rows_seen, archetypes_of, AreAlike, HaveRows}
use Rattle.archetype_store.proofs.ColumnStandings.{owned_kept}
use Rattle.archetype_store.proofs.PlannedTables.{planned_shapes, ready_rows}
use Rattle.archetype_store.proofs.RowDepartures.{rows_from_before}
use Rattle.column_store.proofs.Turns.{on_err_from}
use Rattle.archetype_store.proofs.TableGrowth.{planned_alike, rows_from_alike}
use Rattle.archetype_store.proofs.TableIndex.{found_shapes}
use Rattle.archetype_store.proofs.TableRoom.{alike_twice}
use Rattle.archetype_store.proofs.row_moves.change_owned.Goals as goal

pub returns-in_err-moves-clause-err : goal.returns-in_err-moves-clause-err
returns-in_err-moves-clause-err c =
    let v = c.planned_all.new.rows in
    on_err_from _ _ (planned_alike c.args.rows.now.tables v.tables c.args.rows.now.places v.places c.planned_all.ensures.grown c.planned_all.ensures.same)

pub release_all-requires-clause-owned : goal.release_all-requires-clause-owned
release_all-requires-clause-owned c = owned_kept c.planned_all.new.rows.tables c.reserve_all.new.rows.tables c.reserve_all.ensures.shapes (c.planned_all.ensures.grown.owned c.requires.owned)

pub release_all-requires-clause-planned : goal.release_all-requires-clause-planned
release_all-requires-clause-planned c =
    let v = c.planned_all.new.rows in
    let w = c.reserve_all.new.rows in
    let r = c.reserve_all.ensures in
    subst (λ P. AllByRecursion (IsPlanned w.tables P) c.deref-then-is_err.result.now) (sym r.places)
    (subst (AllByRecursion (IsPlanned w.tables v.places)) (sym c.deref-then-is_err.ensures.value) (planned_shapes v.tables w.tables v.places c.in_ok-moves.moves.items r.shapes c.in_ok-moves.ensures.planned))

pub returns-then-is_err-clause-found : goal.returns-then-is_err-clause-found
returns-then-is_err-clause-found c =
    found_shapes c.planned_all.new.rows.tables c.release_all.new.rows.tables c.planned_all.new.index (c.release_all.ensures.shapes ∙ c.reserve_all.ensures.shapes) c.planned_all.ensures.found

pub returns-then-is_err-clause-owned : goal.returns-then-is_err-clause-owned
returns-then-is_err-clause-owned c =
    owned_kept c.planned_all.new.rows.tables c.release_all.new.rows.tables (c.release_all.ensures.shapes ∙ c.reserve_all.ensures.shapes) (c.planned_all.ensures.grown.owned c.requires.owned)

pub returns-then-is_err-clause-err : goal.returns-then-is_err-clause-err
returns-then-is_err-clause-err c =
    let u = c.args.rows.now in
    let v = c.planned_all.new.rows in
    let r = c.reserve_all.ensures in
    let x = c.release_all.new.rows in
    let alike = alike_twice v.tables c.reserve_all.new.rows.tables x.tables r.alike c.release_all.ensures.alike in
    subst (λ P. AreAlike (rows_seen u) (archetypes_of x.tables P)) (sym (c.release_all.ensures.places ∙ r.places))
    (ready_rows u.tables v.tables x.tables u.places v.places c.planned_all.ensures.grown c.planned_all.ensures.same (c.release_all.ensures.shapes ∙ r.shapes) alike)

pub leave_all-requires-clause-owned : goal.leave_all-requires-clause-owned
leave_all-requires-clause-owned c = owned_kept c.planned_all.new.rows.tables c.reserve_all.new.rows.tables c.reserve_all.ensures.shapes (c.planned_all.ensures.grown.owned c.requires.owned)

pub leave_all-requires-clause-planned : goal.leave_all-requires-clause-planned
leave_all-requires-clause-planned c =
    let v = c.planned_all.new.rows in
    let w = c.reserve_all.new.rows in
    let r = c.reserve_all.ensures in
    subst (λ P. AllByRecursion (IsPlanned w.tables P) c.deref-2.result.now) (sym r.places)
    (subst (AllByRecursion (IsPlanned w.tables v.places)) (sym c.deref-2.ensures.value) (planned_shapes v.tables w.tables v.places c.in_ok-moves.moves.items r.shapes c.in_ok-moves.ensures.planned))

pub move_all-requires-clause-owned : goal.move_all-requires-clause-owned
move_all-requires-clause-owned c =
    owned_kept c.planned_all.new.rows.tables c.leave_all.new.rows.tables (c.leave_all.ensures.shapes ∙ c.reserve_all.ensures.shapes) (c.planned_all.ensures.grown.owned c.requires.owned)

pub returns-clause-found : goal.returns-clause-found
returns-clause-found c =
    let p = c.planned_all.ensures in
    let r = c.reserve_all.ensures in
    found_shapes c.planned_all.new.rows.tables c.move_all.new.rows.tables c.planned_all.new.index (c.move_all.ensures.shapes ∙ c.leave_all.ensures.shapes ∙ r.shapes) p.found

pub returns-clause-owned : goal.returns-clause-owned
returns-clause-owned c =
    let p = c.planned_all.ensures in
    let r = c.reserve_all.ensures in
    owned_kept c.planned_all.new.rows.tables c.move_all.new.rows.tables (c.move_all.ensures.shapes ∙ c.leave_all.ensures.shapes ∙ r.shapes) (p.grown.owned c.requires.owned)

pub returns-clause-ok : goal.returns-clause-ok
returns-clause-ok c =
    let u = c.args.rows.now in
    let v = c.planned_all.new.rows in
    let w = c.reserve_all.new.rows in
    let p = c.planned_all.ensures in
    let r = c.reserve_all.ensures in
    let x = c.leave_all.new.rows in
    let y = c.move_all.new.rows in
    let ready = subst (λ P. AreAlike (rows_seen u) (archetypes_of w.tables P)) (sym r.places) (ready_rows u.tables v.tables w.tables u.places v.places p.grown p.same r.shapes r.alike) in
    let left = ap (map change_of) c.deref-2.ensures.value ∙ c.in_ok-moves.ensures.changes in
    let moved = ap (map change_of) c.deref-3.ensures.value ∙ c.in_ok-moves.ensures.changes in
    rows_from_alike (rows_seen u) (rows_seen w) (rows_seen y) c.args.changes.now ready
    (rows_from_before (rows_seen w) (rows_seen x) (rows_seen y) c.args.changes.now (subst (λ (cs : List EntityChange). AreAlikeBefore (rows_seen w) cs (rows_seen x)) left c.leave_all.ensures.alike)
    (subst (λ (cs : List EntityChange). HaveRows (rows_seen x) cs (rows_seen y)) moved c.move_all.ensures.left))
