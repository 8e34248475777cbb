use Rattle.kinds.specs.Kind.{kind_number}
use Rattle.body.proofs.FieldRows.{written-fields}
use Rattle.body.proofs.view_column.ViewColumn.write_field.Goals as goal

pub returns : goal.returns
returns c =
    written-fields c.args.self.now c.in-Written.column c.write_field.new.self (kind_number c.args.kind) c.args.tick c.args.place c.args.from c.args.values.now c.in-Written.is c.write_field.ensures c.requires.kind
