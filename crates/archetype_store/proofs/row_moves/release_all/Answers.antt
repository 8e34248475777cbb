use Rattle.archetype_store.proofs.Common.{◌≡◌, map, set, refl, sym, ap, subst, ◌∙◌, arith, each-at, arrives_in, IsPlanned, RowsValue, with_room, table_at, shape_of, AreAllAlike}
use Rattle.archetype_store.proofs.ColumnStandings.{alike_self, owned_kept}
use Rattle.archetype_store.proofs.RowMoves.{as_many_tables, arrives_within, shapes_room}
use Rattle.archetype_store.proofs.TableRoom.{roomed_alike, alike_twice}
use Rattle.archetype_store.proofs.row_moves.release_all.Goals as goal
use Rattle.archetype_store.proofs.row_moves.release_all.Goals.{in-Some, in_default}

pub loop-row-init : goal.loop-row-init
loop-row-init c = record { places = refl; shapes = refl; alike = alike_self c.args.rows.now.tables }

pub release-requires-clause-within : goal.release-requires-clause-within
release-requires-clause-within c =
    let u = c.args.rows.now in
    let m = c.row-item.result in
    let l = c.loop-row-test.true in
    let i = c.loop-row.invariant in
    let plan = subst (IsPlanned u.tables u.places) (sym c.row-item.is) (each-at (IsPlanned u.tables u.places) c.args.moves.now c.loop-row.row-index m l c.requires.planned) in
    let told = c.arrives_in.ensures ∙ ap (λ P. arrives_in P m) i.places in
    omega (arith, as_many_tables u.tables c.loop-row.rows.tables i.shapes, arrives_within u.tables u.places m c.in-Some.table plan (sym told ∙ c.in-Some.is))

pub release-requires-clause-owned : goal.release-requires-clause-owned
release-requires-clause-owned c = owned_kept c.args.rows.now.tables c.loop-row.rows.tables c.loop-row.invariant.shapes c.requires.owned

pub loop-row-preserved : goal.loop-row-preserved
loop-row-preserved c =
    let v = c.loop-row.rows in
    let i = c.loop-row.invariant in
    elim c.match-arrives_in.branch [
      | in-Some b ↦
          let t = b.in-Some.table in
          let made = b.rows-is ∙ b.release.ensures in
          let is : c.match-arrives_in.rows.tables ≡ set v.tables t (with_room 0 (table_at v.tables t)) = ap (λ (x : RowsValue). x.tables) made in
          record {
            places = ap (λ (x : RowsValue). x.places) made ∙ i.places;
            shapes = ap (map shape_of) is ∙ shapes_room v.tables t 0 ∙ i.shapes;
            alike = alike_twice c.args.rows.now.tables v.tables c.match-arrives_in.rows.tables i.alike (subst (AreAllAlike v.tables) (sym is) (roomed_alike v.tables t 0));
          }
      | in_default b ↦
          record {
            places = ap (λ (x : RowsValue). x.places) b.rows-is ∙ i.places;
            shapes = ap (λ (x : RowsValue). map shape_of x.tables) b.rows-is ∙ i.shapes;
            alike = subst (λ (x : RowsValue). AreAllAlike c.args.rows.now.tables x.tables) (sym b.rows-is) i.alike;
          }
    ]
