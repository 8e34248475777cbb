use Rattle.archetype_store.proofs.Common.{true, sym, ap, subst, ◌∙◌, IfOk-weaker, kind_number, IsWorld, widths, with_rows, HasRows, store_seen, StorageValue, archetypes_of, row_of}
use Rattle.archetype_store.proofs.ArchetypeColumns.{home_there}
use Rattle.archetype_store.proofs.ColumnStandings.{alike_value}
use Rattle.archetype_store.proofs.TableIndex.{alike_indexed}
use Rattle.archetype_store.proofs.StoreKept.{seen_as}
use Rattle.archetype_store.proofs.StoreColumns.{column_is, column_there, cells_are}
use Rattle.archetype_store.proofs.store.World.share_column.Goals as goal

pub unreachable-requires : goal.unreachable-requires
unreachable-requires c = column_there c.self.invariant c.args.self.now c.self.view_is c.args.archetype (kind_number c.args.kind) true c.requires (c.in_default.ensures c.self.inside.rows.tables c.self.invariant.indexed)

pub share-requires-clause-home : goal.share-requires-clause-home
share-requires-clause-home c =
    let T = c.self.inside.rows.tables in
    home_there T c.args.archetype c.in-Some.table (c.in-Some.ensures T c.self.invariant.indexed) (kind_number c.args.kind) (column_is c.self.invariant c.args.self.now c.self.view_is c.args.archetype (kind_number c.args.kind) true c.requires)

pub returns-clause-cells : goal.returns-clause-cells
returns-clause-cells c =
    IfOk-weaker c.share.result _ _ (λ column h. h ∙ cells_are c.self.invariant c.args.self.now c.self.view_is c.args.archetype (kind_number c.args.kind) c.in-Some.table (c.in-Some.ensures c.self.inside.rows.tables c.self.invariant.indexed) c.prove_rows.ensures) c.share.ensures.cells

pub invariant_of-self : goal.invariant_of-self
invariant_of-self c =
    let book = c.self.inside.ids in
    let v = c.self.inside.rows in
    let world = (store_seen book v c.self.inside.resources c.self.inside.clock).state in
    let u = c.share.new.self in
    let same = ap (archetypes_of u.tables) c.share.ensures.places ∙ alike_value v.tables u.tables v.places c.share.ensures.alike in
    record {
      held = subst (HasRows book) (sym same) c.self.invariant.held;
      indexed = alike_indexed v.tables u.tables c.self.inside.index c.share.ensures.alike c.self.invariant.indexed;
      shape = subst (λ (x : StorageValue). IsWorld widths (record { slots = with_rows (row_of x.rows) book; resources = world.resources; clock = world.clock })) (sym same) c.self.invariant.shape;
    }

pub returns-clause-same : goal.returns-clause-same
returns-clause-same c =
    let v = c.self.inside.rows in
    let world = (store_seen c.self.inside.ids v c.self.inside.resources c.self.inside.clock).state in
    let same = ap (archetypes_of c.share.new.self.tables) c.share.ensures.places ∙ alike_value v.tables c.share.new.self.tables v.places c.share.ensures.alike in
    ap (seen_as c.self.inside.ids world) same ∙ c.self.view_is
