use Rattle.toml.specs.View.{table_view}
use Rattle.std.proofs.Common.{codes}
use Rattle.program_file.specs.Tables.{IsChainIn}
use Rattle.program_file.proofs.Refusals.{NoneIs-exit}
use Rattle.program_file.proofs.Unread.{names-part}
use Rattle.program_file.proofs.program_file.ChainTable.read.Goals as goal

-- no chain has such items
pub returns-in_err-names_at-clause-refused : goal.returns-in_err-names_at-clause-refused
returns-in_err-names_at-clause-refused c =
    let table = table_view c.args.table.now in
    NoneIs-exit (IsChainIn table) c.from_residual-in_err-names_at.result c.in_err-names_at.field-0.0 c.from_residual-in_err-names_at.ensures.1
    (names-part (IsChainIn table) (codes "items") table (λ chain. chain.items.items) c.in_err-names_at.field-0.0 (λ chain h. h.items) c.in_err-names_at.ensures.refused)
