use Rattle.std.proofs.Common.{◌≡◌, ◌+◌, ◌<◌, map, length, get_or, subst, arith}
use Rattle.std.proofs.lemmas.List.{length-map}
use Rattle.kinds.specs.Kind.{kind_number}
use Rattle.body.specs.HeldColumns.{held_seen, slots_seen}
use Rattle.body.proofs.FieldRows.{turn-within, turn-writable}
use Rattle.body.proofs.ListedRows.{query-turn, listed-written, nothing-listed}
use Rattle.body.proofs.SheetCalls.{rows-within}
use Rattle.body.proofs.view_query.ViewQuery.write_rows.Goals as goal

pub returns-then-count-eq0 : goal.returns-then-count-eq0
returns-then-count-eq0 c = nothing-listed (kind_number c.args.kind) c.args.place c.args.listed.now c.args.values.now c.args.self.now (omega arith)

pub at-first-requires : goal.at-first-requires
at-first-requires c =
    let p = c.self.inside.source in
    let slots = map slots_seen p.slots.items in
    let taken = map held_seen c.self.inside.taken.value.items in
    let columns = map held_seen c.self.inside.columns.items in
    let terms = p.query.value in
    let s = c.args.self.now in
    let ns = c.args.listed.now in
    let some : 0 < length ns = omega arith in
    rows-within p.tick terms slots p.rows taken columns c.self.invariant s c.self.view_is (get_or ns 0 0) (c.requires.rows 0 some)

pub write_column-requires-clause-archetype : goal.write_column-requires-clause-archetype
write_column-requires-clause-archetype c = λ there.
    let p = c.self.inside.source in
    let slots = map slots_seen p.slots.items in
    let taken = map held_seen c.self.inside.taken.value.items in
    let columns = map held_seen c.self.inside.columns.items in
    let terms = p.query.value in
    let s = c.args.self.now in
    let ns = c.args.listed.now in
    let n = c.at-first.result.archetype in
    let k = kind_number c.args.kind in
    let at = query-turn p.tick terms slots p.rows taken columns c.self.invariant s c.self.view_is ns c.at-first.result c.requires.turn c.at-first.ensures c.requires.rows in
    let some : 0 < length ns = omega arith in
    let within = turn-within p.tick terms slots p.rows taken columns c.self.invariant s c.self.view_is n k (get_or ns 0 0) (c.at-first.result.place + 0) (c.requires.rows 0 some) (at 0 some) in
    rw (c.deref.ensures.value) (omega (arith, within, length-map p.slots.items slots_seen))

pub write_column-requires-clause-writable : goal.write_column-requires-clause-writable
write_column-requires-clause-writable c = λ i l.
    let p = c.self.inside.source in
    let slots = map slots_seen p.slots.items in
    let taken = map held_seen c.self.inside.taken.value.items in
    let columns = map held_seen c.self.inside.columns.items in
    let terms = p.query.value in
    let s = c.args.self.now in
    let ns = c.args.listed.now in
    let n = c.at-first.result.archetype in
    let k = kind_number c.args.kind in
    let at = query-turn p.tick terms slots p.rows taken columns c.self.invariant s c.self.view_is ns c.at-first.result c.requires.turn c.at-first.ensures c.requires.rows in
    let low : i < length ns = subst (λ m. i < m) c.requires.room l in
    rw (c.deref.ensures.value)
    (turn-writable p.tick terms slots p.rows taken columns c.self.invariant s c.self.view_is n k (get_or ns i 0) (c.at-first.result.place + i) (c.requires.rows i low) (at i low) c.requires.mut_term)

pub invariant_of-self : goal.invariant_of-self
invariant_of-self c =
    let p = c.self.inside.source in
    let slots = map slots_seen p.slots.items in
    let taken = map held_seen c.self.inside.taken.value.items in
    let columns = map held_seen c.self.inside.columns.items in
    let terms = p.query.value in
    let s = c.args.self.now in
    let ns = c.args.listed.now in
    let n = c.at-first.result.archetype in
    let k = kind_number c.args.kind in
    let at = query-turn p.tick terms slots p.rows taken columns c.self.invariant s c.self.view_is ns c.at-first.result c.requires.turn c.at-first.ensures c.requires.rows in
    (listed-written p.tick terms slots p.rows taken columns (map held_seen c.write_column.new.columns.items) c.self.invariant s c.self.view_is n k c.args.place c.at-first.result.place ns c.args.values.now
    (omega (arith, c.requires.room)) c.requires.rows (λ i l. at i (subst (λ m. i < m) c.requires.room l)) c.requires.mut_term (rw (c.deref.ensures.value) at c.write_column.ensures)).sheet

pub returns : goal.returns
returns c =
    let p = c.self.inside.source in
    let slots = map slots_seen p.slots.items in
    let taken = map held_seen c.self.inside.taken.value.items in
    let columns = map held_seen c.self.inside.columns.items in
    let terms = p.query.value in
    let s = c.args.self.now in
    let ns = c.args.listed.now in
    let n = c.at-first.result.archetype in
    let k = kind_number c.args.kind in
    let at = query-turn p.tick terms slots p.rows taken columns c.self.invariant s c.self.view_is ns c.at-first.result c.requires.turn c.at-first.ensures c.requires.rows in
    (listed-written p.tick terms slots p.rows taken columns (map held_seen c.write_column.new.columns.items) c.self.invariant s c.self.view_is n k c.args.place c.at-first.result.place ns c.args.values.now
    (omega (arith, c.requires.room)) c.requires.rows (λ i l. at i (subst (λ m. i < m) c.requires.room l)) c.requires.mut_term (rw (c.deref.ensures.value) at c.write_column.ensures)).seen
