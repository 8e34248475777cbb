use Rattle.std.proofs.Common.{◌+◌, slice_get, refl}
use Rattle.body.specs.HeldColumns.{held_seen}
use Rattle.body.proofs.FieldRows.{word-read}
use Rattle.body.proofs.view_column.ViewColumn.read_field.Goals as goal

pub returns-clause-values : goal.returns-clause-values
returns-clause-values c = λ i l. word-read (slice_get (held_seen c.args.self.now).cells (c.args.from + i)) c.args.place _ _ refl (rw c.column.ensures at c.read_field.ensures.values i l)
