use Rattle.archetype_store.proofs.Common.{true, ◌∙◌, kind_number}
use Rattle.archetype_store.proofs.ArchetypeColumns.{home_there}
use Rattle.archetype_store.proofs.StoreColumns.{column_is, column_there, cells_are}
use Rattle.archetype_store.proofs.store.World.column.Goals as goal

pub unreachable-requires : goal.unreachable-requires
unreachable-requires c = column_there c.self.invariant c.args.self.now c.self.view_is c.args.archetype (kind_number c.args.kind) true c.requires (c.in_default.ensures c.self.inside.rows.tables c.self.invariant.indexed)

pub column-requires-clause-home : goal.column-requires-clause-home
column-requires-clause-home c =
    let T = c.self.inside.rows.tables in
    home_there T c.args.archetype c.in-Some.table (c.in-Some.ensures T c.self.invariant.indexed) (kind_number c.args.kind) (column_is c.self.invariant c.args.self.now c.self.view_is c.args.archetype (kind_number c.args.kind) true c.requires)

pub returns-clause-cells : goal.returns-clause-cells
returns-clause-cells c =
    c.column.ensures.cells ∙ cells_are c.self.invariant c.args.self.now c.self.view_is c.args.archetype (kind_number c.args.kind) c.in-Some.table (c.in-Some.ensures c.self.inside.rows.tables c.self.invariant.indexed) c.prove_rows.ensures
