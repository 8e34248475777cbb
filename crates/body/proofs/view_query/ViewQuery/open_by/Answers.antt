use Rattle.std.proofs.Common.{map}
use Rattle.body.specs.HeldColumns.{held_seen, slots_seen}
use Rattle.body.proofs.SheetOpens.{untouched-of}
use Rattle.body.proofs.view_query.ViewQuery.open_by.Goals as goal

pub returns-clause-untouched : goal.returns-clause-untouched
returns-clause-untouched c =
    untouched-of c.args.tick c.of.result.value (map slots_seen c.args.slots.items) c.args.rows (map held_seen c.args.columns.items) (map held_seen c.of-taken.result.value.items) c.requires.fresh
