use Rattle.std.proofs.Common.{map, ap, ◌∙◌}
use Rattle.std.proofs.lemmas.Int.{to_z-of_z}
use Rattle.kinds.specs.Kind.{kind_number}
use Rattle.body.specs.Fields.{field_of}
use Rattle.body.specs.HeldColumns.{held_seen, slots_seen}
use Rattle.body.proofs.SheetCalls.{row-readable, sheet-read}
use Rattle.body.proofs.view_query.ViewQuery.word.Goals as goal

pub word_in-requires-clause-readable : goal.word_in-requires-clause-readable
word_in-requires-clause-readable c =
    let p = c.self.inside.source in
    let slots = map slots_seen p.slots.items in
    let taken = map held_seen c.self.inside.taken.value.items in
    let columns = map held_seen c.self.inside.columns.items in
    let terms = p.query.value in
    rw (c.deref.ensures.value, c.deref-2.ensures.value)
    (row-readable p.tick terms slots p.rows taken columns c.self.invariant c.args.self.now c.self.view_is c.args.row c.at-at.result (kind_number c.args.kind) c.requires c.at-at.ensures)

pub returns : goal.returns
returns c =
    let p = c.self.inside.source in
    let slots = map slots_seen p.slots.items in
    let taken = map held_seen c.self.inside.taken.value.items in
    let columns = map held_seen c.self.inside.columns.items in
    let terms = p.query.value in
    let read = rw (c.deref.ensures.value, c.deref-2.ensures.value) at c.word_in.ensures in
    (search to_z-of_z) ∙ read
    ∙ ap (field_of c.args.place) (sheet-read p.tick terms slots p.rows taken columns c.self.invariant c.args.self.now c.self.view_is c.args.row c.at-at.result (kind_number c.args.kind) c.requires c.at-at.ensures)
