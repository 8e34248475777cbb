use Rattle.archetype_store.proofs.Common.{◌+◌, map, take, drop, arith, sym, subst, ◌∙◌, HaveRows, change_of, rows_seen, length-map, take_all}
use Rattle.archetype_store.proofs.ColumnStandings.{owned_kept}
use Rattle.archetype_store.proofs.RowMoveOrder.{later_apart, earlier_apart, planned_here, gone_here, room_here, taken_next}
use Rattle.archetype_store.proofs.RowMoves.{planned_all_rest, gone_rest, room_rest, room_first, rows_next}
use Rattle.archetype_store.proofs.RowsMoved.{HasCome, has_come}
use Rattle.archetype_store.proofs.row_moves.move_all.Goals as goal

pub move_row-requires-clause-owned : goal.move_row-requires-clause-owned
move_row-requires-clause-owned c = owned_kept c.args.rows.now.tables c.loop-row.rows.tables c.loop-row.invariant.shapes c.requires.owned

pub move_row-requires-clause-planned : goal.move_row-requires-clause-planned
move_row-requires-clause-planned c =
    let is = sym c.row-item.is in
    (planned_here c.args.moves.now c.loop-row.row-index c.row-item.result c.loop-row-test.true is c.loop-row.rows.tables c.loop-row.rows.places c.loop-row.invariant.planned).0

pub move_row-requires-clause-gone : goal.move_row-requires-clause-gone
move_row-requires-clause-gone c =
    let is = sym c.row-item.is in
    (gone_here c.args.moves.now c.loop-row.row-index c.row-item.result c.loop-row-test.true is c.loop-row.rows.places c.loop-row.invariant.gone).0

pub move_row-requires-clause-room : goal.move_row-requires-clause-room
move_row-requires-clause-room c =
    let n = c.loop-row.row-index in
    let m = c.row-item.result in
    let is = sym c.row-item.is in
    let v = c.loop-row.rows in
    room_first v.tables v.places m (drop (n + 1) c.args.moves.now) (room_here c.args.moves.now n m c.loop-row-test.true is v.tables v.places c.loop-row.invariant.room)

pub loop-row-preserved : goal.loop-row-preserved
loop-row-preserved c =
    let moves = c.args.moves.now in
    let n = c.loop-row.row-index in
    let m = c.row-item.result in
    let l = c.loop-row-test.true in
    let is = sym c.row-item.is in
    let v = c.loop-row.rows in
    let i = c.loop-row.invariant in
    let w = c.move_row.new.rows in
    let plans = planned_here moves n m l is v.tables v.places i.planned in
    let left = gone_here moves n m l is v.places i.gone in
    let room = room_here moves n m l is v.tables v.places i.room in
    let e = subst (HasCome v m) (sym c.move_row.ensures) (has_come v i.rows m plans.0 left.0 (room_first v.tables v.places m (drop (n + 1) moves) room)) in
    let later = later_apart moves n m l is c.requires.apart in
    record {
      rows = e.rows;
      shapes = e.shapes ∙ i.shapes;
      left = subst (λ cs. HaveRows (rows_seen c.args.rows.now) cs (rows_seen w)) (sym (taken_next moves n m l is))
          (rows_next (rows_seen c.args.rows.now) (rows_seen v) (rows_seen w) (take n (map change_of moves)) (change_of m) (earlier_apart moves n m l is c.requires.apart) i.left e.left);
      planned = planned_all_rest v.tables w.tables v.places w.places m e.shapes e.many e.others (drop (n + 1) moves) later plans.1;
      gone = gone_rest v.tables w.tables v.places w.places m e.shapes e.many e.others (drop (n + 1) moves) later left.1;
      room = room_rest v.tables w.tables v.places w.places m e.shapes e.many e.others (drop (n + 1) moves) later e.rooms room;
    }

pub returns-clause-left : goal.returns-clause-left
returns-clause-left c =
    let moves = c.args.moves.now in
    let all = take_all c.loop-row.row-index (map change_of moves) (let many = length-map moves change_of in let past = c.loop-row-test.false in omega (arith, many, past)) in
    subst (λ cs. HaveRows (rows_seen c.args.rows.now) cs (rows_seen c.loop-row.rows)) all c.loop-row.invariant.left
