use Rattle.archetype_store.proofs.Common.{◌<◌, sym, ap, subst, ◌∙◌, arith, kind_number, cell_at, row_in}
use Rattle.archetype_store.proofs.PlacedRow.{placed_within, row_below, cell_home_there, cell_of_row}
use Rattle.archetype_store.proofs.PlacesAfterRowChange.{row_seen}
use Rattle.archetype_store.proofs.TableCells.{cell_in_column, rows_in_column}
use Rattle.archetype_store.proofs.entity_rows.Rows.cell.Goals as goal

pub index-there-requires : goal.index-there-requires
index-there-requires c = omega (arith, placed_within c.self.invariant c.args.self.now c.self.view_is c.args.index c.in-Some.place (sym c.place.ensures ∙ c.in-Some.is), c.self.inside.tables.ok.0)

pub column-requires : goal.column-requires
column-requires c =
    cell_home_there c.self.invariant c.args.self.now c.self.view_is c.args.index c.in-Some.place (sym c.place.ensures ∙ c.in-Some.is) c.index-there.result.now c.index-there.ensures
    (kind_number c.args.kind) c.requires

pub returns-in_default-clause-cell : goal.returns-in_default-clause-cell
returns-in_default-clause-cell c =
    let v = c.args.self.now in
    sym (ap (λ r. cell_at r (kind_number c.args.kind)) (row_seen v.tables v.places c.args.index ∙ ap (row_in v.tables c.args.index) (sym c.place.ensures ∙ c.in_default.is)))

pub returns-in-None-clause-cell : goal.returns-in-None-clause-cell
returns-in-None-clause-cell c =
    let told = sym c.place.ensures ∙ c.in-Some.is in
    sym (c.in-None.ensures.cell c.number-row.result)
    ∙ cell_of_row c.self.invariant c.args.self.now c.self.view_is c.args.index c.in-Some.place told c.index-there.result.now c.index-there.ensures c.number-row.result
    (c.number-row.ensures c.in-Some.place told) (kind_number c.args.kind)

pub returns-in-Some-column-clause-cell : goal.returns-in-Some-column-clause-cell
returns-in-Some-column-clause-cell c =
    let told = sym c.place.ensures ∙ c.in-Some.is in
    sym (cell_in_column c.index-there.result.now (kind_number c.args.kind) c.in-Some-column.column.now c.in-Some-column.ensures c.number-row.result)
    ∙ cell_of_row c.self.invariant c.args.self.now c.self.view_is c.args.index c.in-Some.place told c.index-there.result.now c.index-there.ensures c.number-row.result
    (c.number-row.ensures c.in-Some.place told) (kind_number c.args.kind)

pub returns-in-Some-column-clause-there : goal.returns-in-Some-column-clause-there
returns-in-Some-column-clause-there c =
    let told = sym c.place.ensures ∙ c.in-Some.is in
    let below = row_below c.self.invariant c.args.self.now c.self.view_is c.args.index c.in-Some.place told c.index-there.result.now c.index-there.ensures c.number-row.result (c.number-row.ensures c.in-Some.place told) in
    record {
      kind_is = c.in-Some-column.ensures.kind_is;
      within = subst (λ n. c.number-row.result < n) (sym (rows_in_column c.index-there.result.now (kind_number c.args.kind) c.in-Some-column.column.now c.in-Some-column.ensures)) below;
    }
