use Rattle.std.proofs.Common.{map}
use Rattle.kinds.specs.Value.{value_number, value_words}
use Rattle.body.specs.HeldColumns.{held_seen, slots_seen}
use Rattle.body.proofs.SheetCalls.{row-writable, sheet-after, sheet-set}
use Rattle.body.proofs.view_query.ViewQuery.write.Goals as goal

pub set_in-requires-clause-writable : goal.set_in-requires-clause-writable
set_in-requires-clause-writable c =
    let p = c.self.inside.source in
    let slots = map slots_seen p.slots.items in
    let taken = map held_seen c.self.inside.taken.value.items in
    let columns = map held_seen c.self.inside.columns.items in
    let terms = p.query.value in
    rw (c.deref.ensures.value)
    (row-writable p.tick terms slots p.rows taken columns c.self.invariant c.args.self.now c.self.view_is c.args.row c.at-at.result (value_number c.args.value) c.requires.row c.at-at.ensures c.requires.mut_term)

pub invariant_of-self : goal.invariant_of-self
invariant_of-self c =
    let p = c.self.inside.source in
    let slots = map slots_seen p.slots.items in
    let taken = map held_seen c.self.inside.taken.value.items in
    let columns = map held_seen c.self.inside.columns.items in
    let terms = p.query.value in
    let changed = rw (c.deref.ensures.value) at c.set_in.ensures in
    sheet-after p.tick terms slots p.rows taken columns c.self.invariant c.args.self.now c.self.view_is c.args.row c.at-at.result (value_number c.args.value) (value_words c.args.value)
    (map held_seen c.set_in.new.columns.items) c.requires.row c.at-at.ensures c.requires.mut_term changed

pub returns : goal.returns
returns c =
    let p = c.self.inside.source in
    let slots = map slots_seen p.slots.items in
    let taken = map held_seen c.self.inside.taken.value.items in
    let columns = map held_seen c.self.inside.columns.items in
    let terms = p.query.value in
    let changed = rw (c.deref.ensures.value) at c.set_in.ensures in
    sheet-set p.tick terms slots p.rows taken columns c.self.invariant c.args.self.now c.self.view_is c.args.row c.at-at.result (value_number c.args.value) (value_words c.args.value)
    (map held_seen c.set_in.new.columns.items) c.requires.row c.at-at.ensures c.requires.mut_term changed
