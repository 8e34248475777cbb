use Rattle.archetype_store.proofs.Common.{false, length, refl, sym, ap, ap₂, subst, ◌∙◌, AllByRecursion, length-map, TableRow, homed, layout_of, archetype_at, IsFilled, homed_in, slots_with, IsPast, IsIndexed, table_at, widths, RowsValue, rows_seen, StoreValue}
use Rattle.archetype_store.proofs.ArchetypeColumns.{away_there, entities_there, there_filled, value_homed}
use Rattle.archetype_store.proofs.ColumnSlots.{rows_homed, slots_homed, world_homed}
use Rattle.archetype_store.proofs.TableIndex.{set_indexed}
use Rattle.archetype_store.proofs.StoreKept.{store_kept, store_state}
use Rattle.archetype_store.proofs.StoreColumns.{column_is, column_there}
use Rattle.archetype_store.proofs.store.World.put_column.Goals as goal

pub unreachable-requires : goal.unreachable-requires
unreachable-requires c = column_there c.self.invariant c.args.self.now c.self.view_is c.args.archetype c.args.column.kind false c.requires.away (c.in_default.ensures c.self.inside.rows.tables c.self.invariant.indexed)

pub home-requires-clause-away : goal.home-requires-clause-away
home-requires-clause-away c =
    let T = c.self.inside.rows.tables in
    away_there T c.args.archetype c.in-Some.table (c.in-Some.ensures T c.self.invariant.indexed) c.args.column.kind (column_is c.self.invariant c.args.self.now c.self.view_is c.args.archetype c.args.column.kind false c.requires.away)

pub home-requires-clause-same_length : goal.home-requires-clause-same_length
home-requires-clause-same_length c =
    let T = c.self.inside.rows.tables in
    let at = c.in-Some.ensures T c.self.invariant.indexed in
    c.requires.same_length ∙ ap (λ (v : StoreValue). length (archetype_at v.layout c.args.archetype).entities) (sym c.self.view_is)
    ∙ ap length (entities_there T c.args.archetype c.in-Some.table at) ∙ length-map (table_at T c.in-Some.table).rows (λ (row : TableRow). row.entity)

pub invariant_of-self : goal.invariant_of-self
invariant_of-self c =
    let book = c.self.inside.ids in
    let v = c.self.inside.rows in
    let a = rows_seen v in
    let h = c.self.invariant in
    let T = v.tables in
    let at = c.in-Some.ensures T c.self.invariant.indexed in
    let u = c.home.new.self in
    let n = c.args.archetype in
    let k = c.args.column.kind in
    let cells = c.args.column.cells in
    let filled = subst (λ (x : RowsValue). IsFilled a n k cells (rows_seen x)) (sym c.home.ensures) (value_homed T v.places n c.in-Some.table at c.args.column c.prove_rows.ensures.whole) in
    let t = table_at T c.in-Some.table in
    let past = subst (λ (x : StoreValue). AllByRecursion (IsPast x.state.clock) cells) (sym c.self.view_is) c.requires.past in
    let es = (archetype_at (layout_of T) n).entities in
    let indexed = subst (λ (x : RowsValue). IsIndexed x.tables c.self.inside.index) (sym c.home.ensures)
    (set_indexed T c.in-Some.table (homed t c.args.column) c.self.inside.index refl (there_filled t.kinds k cells t.rows) h.indexed) in
    store_kept h (slots_with es k cells) book u (slots_homed book a (rows_seen u) n k cells filled h.held) _ (rows_homed book a (rows_seen u) n k cells filled h.held) indexed (world_homed widths _ es k cells c.prove_widths.ensures past h.shape)

pub returns : goal.returns
returns c =
    let book = c.self.inside.ids in
    let v = c.self.inside.rows in
    let a = rows_seen v in
    let h = c.self.invariant in
    let T = v.tables in
    let at = c.in-Some.ensures T c.self.invariant.indexed in
    let u = c.home.new.self in
    let n = c.args.archetype in
    let k = c.args.column.kind in
    let cells = c.args.column.cells in
    let filled = subst (λ (x : RowsValue). IsFilled a n k cells (rows_seen x)) (sym c.home.ensures) (value_homed T v.places n c.in-Some.table at c.args.column c.prove_rows.ensures.whole) in
    let es = (archetype_at (layout_of T) n).entities in
    ap₂ (λ state layout. let x : StoreValue = record { state = state; layout = layout } in x) (store_state h (slots_with es k cells) book u (slots_homed book a (rows_seen u) n k cells filled h.held) _ refl) filled.layout
    ∙ ap (λ (x : StoreValue). homed_in x n k cells) c.self.view_is
