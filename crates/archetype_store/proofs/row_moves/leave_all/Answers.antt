use Rattle.archetype_store.proofs.Common.{◌≡◌, ◌<◌, ◌-◌, ◌+◌, drop, length, get_or, map, refl, sym, ap, subst, ◌∙◌, arith, AllByRecursion, apart_number, each-at, change_of, other_table, arrives_in, HasLeft, IsPlanned, rows_seen}
use Rattle.archetype_store.proofs.ColumnStandings.{owned_kept}
use Rattle.archetype_store.proofs.RowDepartures.{all_stepped, room_after, arrives_first, alike_first, alike_next}
use Rattle.archetype_store.proofs.RowMoveOrder.{change_is, within, later_apart, gone_more, none_behind}
use Rattle.archetype_store.proofs.RowMoves.{planned_rest, gone_rest}
use Rattle.archetype_store.proofs.RowsMoved.{HasGone, has_gone}
use Rattle.archetype_store.proofs.row_moves.leave_all.Goals as goal

pub leave_row-requires-clause-owned : goal.leave_row-requires-clause-owned
leave_row-requires-clause-owned c = owned_kept c.args.rows.now.tables c.loop-left.rows.tables c.loop-left.invariant.shapes c.requires.owned

pub leave_row-requires-clause-theirs : goal.leave_row-requires-clause-theirs
leave_row-requires-clause-theirs c =
    let P = IsPlanned c.loop-left.rows.tables c.loop-left.rows.places in
    let l : c.loop-left.left - 1 < length c.args.moves.now = (let w = c.loop-left.invariant.within in let t = c.loop-left-test.true in omega (arith, w, t)) in
    (subst P (sym c.index-moves-left.is) (each-at P c.args.moves.now (c.loop-left.left - 1) c.index-moves-left.result l c.loop-left.invariant.planned)).holder

pub loop-left-init : goal.loop-left-init
loop-left-init c =
    let v = c.args.rows.now in
    record {
      within = omega arith;
      rows = c.prove_rows.ensures;
      shapes = refl;
      planned = c.requires.planned;
      arrives = arrives_first v.places c.args.moves.now;
      gone = none_behind v.places c.args.moves.now;
      rooms = λ t. refl;
      alike = alike_first (rows_seen v) (map change_of c.args.moves.now);
    }

pub loop-left-preserved : goal.loop-left-preserved
loop-left-preserved c =
    let moves = c.args.moves.now in
    let n = c.loop-left.left - 1 in
    let m = c.index-moves-left.result in
    let u = c.args.rows.now in
    let v = c.loop-left.rows in
    let w = c.leave_row.new.rows in
    let i = c.loop-left.invariant in
    let l : n < length moves = (let w = i.within in let t = c.loop-left-test.true in omega (arith, w, t)) in
    let is : get_or moves n m ≡ m = sym c.index-moves-left.is in
    let plan = subst (IsPlanned v.tables v.places) is (each-at (IsPlanned v.tables v.places) moves n m l i.planned) in
    let e = subst (HasGone v m) (sym c.leave_row.ensures) (has_gone v i.rows m plan) in
    let at = change_is moves n m l is in
    let among = within moves n m l is in
    record {
      within = (let w = i.within in omega (arith, w));
      rows = e.rows;
      shapes = e.shapes ∙ i.shapes;
      planned = all_stepped m (IsPlanned v.tables v.places) (IsPlanned w.tables w.places)
          (λ x other plan. planned_rest v.tables w.tables v.places w.places x e.shapes e.many plan (e.others x.change.now.entity.index (apart_number x.change.now.entity.index m.change.now.entity.index other)))
          (λ plan. e.planned) moves n l is c.requires.apart i.planned;
      arrives = all_stepped m (λ x. arrives_in v.places x ≡ arrives_in u.places x) (λ x. arrives_in w.places x ≡ arrives_in u.places x)
          (λ x other same. ap (λ o. other_table o x.to) (e.others x.change.now.entity.index (apart_number x.change.now.entity.index m.change.now.entity.index other)) ∙ same)
          (λ same. e.arrives ∙ same) moves n l is c.requires.apart i.arrives;
      gone = gone_more moves n m l is w.places e.gone (gone_rest v.tables w.tables v.places w.places m e.shapes e.many e.others (drop (n + 1) moves) (later_apart moves n m l is c.requires.apart)
          (subst (λ k. AllByRecursion (HasLeft v.places) (drop k moves)) (let next : c.loop-left.left ≡ n + 1 = (let t = c.loop-left-test.true in omega (arith, t)) in next) i.gone));
      rooms = λ t. e.rooms t ∙ i.rooms t;
      alike = alike_next (rows_seen u) (rows_seen v) (rows_seen w) (map change_of moves) n (change_of m) among at i.alike e.alike;
    }

pub returns-clause-room : goal.returns-clause-room
returns-clause-room c =
    room_after c.args.rows.now.tables c.loop-left.rows.tables c.args.rows.now.places c.loop-left.rows.places c.args.moves.now c.loop-left.invariant.arrives c.loop-left.invariant.rooms c.requires.room
