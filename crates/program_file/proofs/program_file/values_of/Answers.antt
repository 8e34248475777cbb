use Rattle.std.proofs.Common.{rules}
use Rattle.toml.specs.View.{table_view}
use Rattle.kinds.specs.declared.res.Res.TheVariants.{Round}
use Rattle.program_file.specs.Tables.{AreValuesIn}
use Rattle.program_file.proofs.Refusals.{NoneIs-exit}
use Rattle.program_file.proofs.Unread.{value-refused}
use Rattle.program_file.proofs.program_file.values_of.Goals as goal

-- a resource has no value
pub returns-in_err-values-clause-refused : goal.returns-in_err-values-clause-refused
returns-in_err-values-clause-refused c =
    let table = table_view c.args.table.now in
    NoneIs-exit (AreValuesIn table) c.from_residual-in_err-values.result c.in_err-values.field-0.0 c.from_residual-in_err-values.ensures.1
    (value-refused table c.loop-number.number Round _ c.in_err-values.field-0.0 (search rules) (search rules) c.in_err-values.ensures.refused)
