use Rattle.std.proofs.Common.{rules}
use Rattle.toml.specs.View.{table_view}
use Rattle.program_file.proofs.Refusals.{names-refused}
use Rattle.program_file.proofs.keys.names_at.Goals as goal

-- a text is no name
pub returns-clause-refused : goal.returns-clause-refused
returns-clause-refused c =
    names-refused c.args.key.now (table_view c.args.table.now) c.in_ok-names.names.items c.are_names.result c.if-are_names.false (search rules) c.in_ok-names.ensures.ok
