use Rattle.archetype_store.proofs.Common.{◌≡◌, ◌+◌, ◌<◌, ◌++◌, [], ◌∷◌, Some, None, length, map, set, take, refl, sym, ap, subst, ◌∙◌, arith, each-at, arrives_in, HaveRoom, IsPlanned, RowsValue, room_at, with_room, table_at, shape_of, AreAllAlike}
use Rattle.model.proofs.serial.Conflicts.{none_from_no as none_of}
use Rattle.archetype_store.proofs.ColumnStandings.{alike_self, owned_kept}
use Rattle.archetype_store.proofs.RowMoveOrder.{rows_taken}
use Rattle.archetype_store.proofs.RowMoves.{as_many_tables, arrives_within, shapes_room, room_kept, room_made}
use Rattle.archetype_store.proofs.TableRoom.{roomed_alike, alike_twice}
use Rattle.archetype_store.proofs.row_moves.reserve_all.Goals as goal
use Rattle.archetype_store.proofs.row_moves.reserve_all.Goals.{in-Some+in_ok-reserve, in_default}

pub loop-row-init : goal.loop-row-init
loop-row-init c = record { places = refl; shapes = refl; alike = alike_self c.args.rows.now.tables; room = λ t. omega arith }

pub reserve-requires-clause-within : goal.reserve-requires-clause-within
reserve-requires-clause-within c =
    let u = c.args.rows.now in
    let m = c.row-item.result in
    let l = c.loop-row-test.true in
    let i = c.loop-row.invariant in
    let plan = subst (IsPlanned u.tables u.places) (sym c.row-item.is) (each-at (IsPlanned u.tables u.places) c.args.moves.now c.loop-row.row-index m l c.requires.planned) in
    let told = c.arrives_in.ensures ∙ ap (λ P. arrives_in P m) i.places in
    omega (arith, as_many_tables u.tables c.loop-row.rows.tables i.shapes, arrives_within u.tables u.places m c.in-Some.table plan (sym told ∙ c.in-Some.is))

pub reserve-requires-clause-owned : goal.reserve-requires-clause-owned
reserve-requires-clause-owned c = owned_kept c.args.rows.now.tables c.loop-row.rows.tables c.loop-row.invariant.shapes c.requires.owned

pub loop-row-preserved : goal.loop-row-preserved
loop-row-preserved c =
    let u = c.args.rows.now in
    let v = c.loop-row.rows in
    let moves = c.args.moves.now in
    let n = c.loop-row.row-index in
    let m = c.row-item.result in
    let l = c.loop-row-test.true in
    let i = c.loop-row.invariant in
    let plan = subst (IsPlanned u.tables u.places) (sym c.row-item.is) (each-at (IsPlanned u.tables u.places) moves n m l c.requires.planned) in
    let told = c.arrives_in.ensures ∙ ap (λ P. arrives_in P m) i.places in
    let many = as_many_tables u.tables v.tables i.shapes in
    let taken = rows_taken moves n m l (sym c.row-item.is) in
    let w = c.match-arrives_in.rows in
    elim c.match-arrives_in.branch [
      | in-Some+in_ok-reserve b ↦
          let t = b.in-Some.table in
          let at : arrives_in u.places m ≡ Some t = sym told ∙ b.in-Some.is in
          let within : t < length v.tables = (let a = arrives_within u.tables u.places m t plan at in omega arith) in
          let made = b.rows-is ∙ b.in_ok-reserve.ensures.ok in
          let is : w.tables ≡ set v.tables t (with_room (room_at v.tables t + 1) (table_at v.tables t)) = ap (λ (x : RowsValue). x.tables) made in
          record {
            places = ap (λ (x : RowsValue). x.places) made ∙ i.places;
            shapes = ap (map shape_of) is ∙ shapes_room v.tables t (room_at v.tables t + 1) ∙ i.shapes;
            alike = alike_twice u.tables v.tables w.tables i.alike (subst (AreAllAlike v.tables) (sym is) (roomed_alike v.tables t (room_at v.tables t + 1)));
            room = subst (HaveRoom w.tables u.places) (sym taken) (room_made v.tables w.tables u.places (take n moves) m t at within is i.room);
          }
      | in_default b ↦
          let none : arrives_in u.places m ≡ None = sym told ∙ none_of c.arrives_in.result b.in_default.not-Some in
          record {
            places = ap (λ (x : RowsValue). x.places) b.rows-is ∙ i.places;
            shapes = ap (λ (x : RowsValue). map shape_of x.tables) b.rows-is ∙ i.shapes;
            alike = subst (λ (x : RowsValue). AreAllAlike u.tables x.tables) (sym b.rows-is) i.alike;
            room = subst (HaveRoom w.tables u.places) (sym taken) (subst (λ (x : RowsValue). HaveRoom x.tables u.places (take n moves ++ m ∷ [])) (sym b.rows-is) (room_kept v.tables u.places (take n moves) m none i.room));
          }
    ]
