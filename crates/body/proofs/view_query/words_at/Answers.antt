use Rattle.std.proofs.Common.{◌∙◌, map, ap}
use Rattle.kinds.specs.Components.{widths}
use Rattle.kinds.specs.Kind.{kind_number}
use Rattle.body.specs.HeldColumns.{slots_seen}
use Rattle.body.specs.Sheet.{slot_in}
use Rattle.body.proofs.FieldRows.{held-there}
use Rattle.body.proofs.SheetCalls.{cell-read}
use Rattle.body.proofs.view_query.words_at.Goals as goal

pub returns-clause-words : goal.returns-clause-words
returns-clause-words c =
    cell-read (map slots_seen c.args.slots.now) c.args.columns.now c.args.at (kind_number c.args.kind) c.in_ok-slot.slot c.index-columns-slot.result c.words.result
    c.in_ok-slot.ensures c.requires.readable c.index-columns-slot.is c.words.ensures.words

pub returns-clause-width : goal.returns-clause-width
returns-clause-width c =
    let k = kind_number c.args.kind in
    c.words.ensures.width ∙ ap widths (held-there c.args.columns.now (slot_in (map slots_seen c.args.slots.now) c.args.at.archetype k) k c.in_ok-slot.slot c.args.at.place c.index-columns-slot.result c.in_ok-slot.ensures c.requires.readable c.index-columns-slot.is).kind
