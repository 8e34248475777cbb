use Rattle.std.proofs.Common.{slice_get}
use Rattle.std.proofs.lemmas.Int.{to_z-of_z}
use Rattle.body.specs.HeldColumns.{held_seen}
use Rattle.body.proofs.FieldRows.{word-read}
use Rattle.body.proofs.view_column.ViewColumn.word.Goals as goal

pub returns : goal.returns
returns c = word-read (slice_get (held_seen c.args.self.now).cells c.args.at) c.args.place c.word.result _ (search to_z-of_z) (rw c.column.ensures at c.word.ensures)
