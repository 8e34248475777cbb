use Rattle.archetype_store.proofs.Common.{true, false, refl, ap, ◌∙◌, on_ok_weaker, on_err_weaker, IfOk-weaker, kind_number, lent, with_home, table_at, store_seen, RowsValue, rows_seen, StoreValue}
use Rattle.archetype_store.proofs.ArchetypeColumns.{home_there, value_lent}
use Rattle.archetype_store.proofs.TableIndex.{set_indexed_if}
use Rattle.archetype_store.proofs.StoreKept.{lent_alike, seen_as, alike_held, alike_slots, store_kept}
use Rattle.archetype_store.proofs.StoreColumns.{column_is, column_there, cells_are}
use Rattle.archetype_store.proofs.store.World.take_column.Goals as goal

pub unreachable-requires : goal.unreachable-requires
unreachable-requires c = column_there c.self.invariant c.args.self.now c.self.view_is c.args.archetype (kind_number c.args.kind) true c.requires (c.in_default.ensures c.self.inside.rows.tables c.self.invariant.indexed)

pub lend-requires-clause-home : goal.lend-requires-clause-home
lend-requires-clause-home c =
    let T = c.self.inside.rows.tables in
    home_there T c.args.archetype c.in-Some.table (c.in-Some.ensures T c.self.invariant.indexed) (kind_number c.args.kind) (column_is c.self.invariant c.args.self.now c.self.view_is c.args.archetype (kind_number c.args.kind) true c.requires)

pub returns-clause-cells : goal.returns-clause-cells
returns-clause-cells c =
    IfOk-weaker c.lend.result _ _ (λ column h. h ∙ cells_are c.self.invariant c.args.self.now c.self.view_is c.args.archetype (kind_number c.args.kind) c.in-Some.table (c.in-Some.ensures c.self.inside.rows.tables c.self.invariant.indexed) c.prove_rows.ensures) c.lend.ensures.cells

pub invariant_of-self : goal.invariant_of-self
invariant_of-self c =
    let book = c.self.inside.ids in
    let v = c.self.inside.rows in
    let a = rows_seen v in
    let h = c.self.invariant in
    let T = v.tables in
    let at = c.in-Some.ensures T h.indexed in
    let u = c.lend.new.self in
    let k = kind_number c.args.kind in
    let alike = lent_alike c.lend.result v u c.args.archetype c.in-Some.table k at c.lend.ensures.away c.lend.ensures.err in
    let indexed = set_indexed_if c.lend.result T u.tables c.in-Some.table (lent (table_at T c.in-Some.table) k) c.self.inside.index refl refl
    (on_ok_weaker c.lend.result (λ h. ap (λ (x : RowsValue). x.tables) h) c.lend.ensures.away) (on_err_weaker c.lend.result (λ h. ap (λ (x : RowsValue). x.tables) h) c.lend.ensures.err) h.indexed in
    store_kept h (λ slots. slots) book u (alike_slots book a (rows_seen u) alike.0) _ (alike_held book a (rows_seen u) alike.0 alike.1 h.held) indexed h.shape

pub returns-clause-away : goal.returns-clause-away
returns-clause-away c =
    let book = c.self.inside.ids in
    let v = c.self.inside.rows in
    let world = (store_seen book v c.self.inside.resources c.self.inside.clock).state in
    let T = c.self.inside.rows.tables in
    let at = c.in-Some.ensures T c.self.invariant.indexed in
    on_ok_weaker c.lend.result
    (λ h. ap (λ (x : RowsValue). seen_as book world (rows_seen x)) h ∙ ap (seen_as book world) (value_lent T v.places c.args.archetype c.in-Some.table (kind_number c.args.kind) at)
    ∙ ap (λ (x : StoreValue). let y : StoreValue = record { state = x.state; layout = with_home false c.args.archetype (kind_number c.args.kind) x.layout } in y) c.self.view_is) c.lend.ensures.away

pub returns-clause-err : goal.returns-clause-err
returns-clause-err c =
    let world = (store_seen c.self.inside.ids c.self.inside.rows c.self.inside.resources c.self.inside.clock).state in
    on_err_weaker c.lend.result (λ h. ap (λ (x : RowsValue). seen_as c.self.inside.ids world (rows_seen x)) h ∙ c.self.view_is) c.lend.ensures.err
