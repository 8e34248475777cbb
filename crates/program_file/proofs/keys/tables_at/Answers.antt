use Rattle.std.proofs.Common.{List}
use Rattle.toml.specs.Data.{Members, table}
use Rattle.toml.specs.View.{table_view}
use Rattle.program_file.specs.Keys.{HasTables}
use Rattle.program_file.proofs.Refusals.{NoneIs-exit, list-refused}
use Rattle.program_file.proofs.keys.tables_at.Goals as goal

-- an item is no table
pub returns-in_err-table_of-clause-refused : goal.returns-in_err-table_of-clause-refused
returns-in_err-table_of-clause-refused c =
    let key = c.args.key.now in
    let owner = table_view c.args.table.now in
    NoneIs-exit (λ (all : List Members). HasTables key all owner) c.from_residual-in_err-table_of.result c.in_err-table_of.field-0.0 c.from_residual-in_err-table_of.ensures.1
    (list-refused table key owner c.in_ok-item-items.item-items.now c.loop-item.item-index c.item-item.result c.item-item.result c.in_err-table_of.field-0.0
    c.in_ok-item-items.ensures.ok c.loop-item-test.true c.item-item.is c.in_err-table_of.ensures.refused)
