use Rattle.std.proofs.Common.{map, ◌∙◌}
use Rattle.kinds.specs.Kind.{kind_number}
use Rattle.body.specs.HeldColumns.{held_seen, slots_seen}
use Rattle.body.proofs.SheetCalls.{row-readable, sheet-read}
use Rattle.body.proofs.view_query.ViewQuery.words.Goals as goal

pub words_at-requires-clause-readable : goal.words_at-requires-clause-readable
words_at-requires-clause-readable c =
    let p = c.self.inside.source in
    let slots = map slots_seen p.slots.items in
    let taken = map held_seen c.self.inside.taken.value.items in
    let columns = map held_seen c.self.inside.columns.items in
    let terms = p.query.value in
    rw (c.deref.ensures.value, c.deref-2.ensures.value)
    (row-readable p.tick terms slots p.rows taken columns c.self.invariant c.args.self.now c.self.view_is c.args.row c.at-at.result (kind_number c.args.kind) c.requires c.at-at.ensures)

pub returns-clause-words : goal.returns-clause-words
returns-clause-words c =
    let p = c.self.inside.source in
    let slots = map slots_seen p.slots.items in
    let taken = map held_seen c.self.inside.taken.value.items in
    let columns = map held_seen c.self.inside.columns.items in
    let terms = p.query.value in
    rw (c.deref.ensures.value, c.deref-2.ensures.value) at c.words_at.ensures.words
    ∙ sheet-read p.tick terms slots p.rows taken columns c.self.invariant c.args.self.now c.self.view_is c.args.row c.at-at.result (kind_number c.args.kind) c.requires c.at-at.ensures
