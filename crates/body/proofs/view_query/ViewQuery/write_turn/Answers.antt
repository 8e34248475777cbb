use Rattle.std.proofs.Common.{◌+◌, ◌<◌, ◌≤◌, map, length, take, subst, arith}
use Rattle.std.proofs.lemmas.List.{length-map, length-take-le}
use Rattle.kinds.specs.Kind.{kind_number}
use Rattle.body.specs.HeldColumns.{held_seen, slots_seen}
use Rattle.body.proofs.FieldRows.{all-within, in-turn, turn-within, turn-writable, fields-written}
use Rattle.body.proofs.view_query.ViewQuery.write_turn.Goals as goal

pub in_turn-count-requires-clause-within : goal.in_turn-count-requires-clause-within
in_turn-count-requires-clause-within c =
    let p = c.self.inside.source in
    let slots = map slots_seen p.slots.items in
    let taken = map held_seen c.self.inside.taken.value.items in
    let columns = map held_seen c.self.inside.columns.items in
    let terms = p.query.value in
    let s = c.args.self.now in
    let many : c.args.from + length c.args.values.now ≤ length p.rows =
    all-within p.tick terms slots p.rows taken columns c.self.invariant s c.self.view_is c.args.from (length c.args.values.now) c.requires.some c.requires.rows in
    many

pub at-first-requires : goal.at-first-requires
at-first-requires c =
    let p = c.self.inside.source in
    let slots = map slots_seen p.slots.items in
    let taken = map held_seen c.self.inside.taken.value.items in
    let columns = map held_seen c.self.inside.columns.items in
    let terms = p.query.value in
    let s = c.args.self.now in
    let many : c.args.from + length c.args.values.now ≤ length p.rows =
    all-within p.tick terms slots p.rows taken columns c.self.invariant s c.self.view_is c.args.from (length c.args.values.now) c.requires.some c.requires.rows in
    let some = c.requires.some in
    omega arith

pub write_column-requires-clause-archetype : goal.write_column-requires-clause-archetype
write_column-requires-clause-archetype c = λ there.
    let p = c.self.inside.source in
    let slots = map slots_seen p.slots.items in
    let taken = map held_seen c.self.inside.taken.value.items in
    let columns = map held_seen c.self.inside.columns.items in
    let terms = p.query.value in
    let s = c.args.self.now in
    let many : c.args.from + length c.args.values.now ≤ length p.rows =
    all-within p.tick terms slots p.rows taken columns c.self.invariant s c.self.view_is c.args.from (length c.args.values.now) c.requires.some c.requires.rows in
    let k = kind_number c.args.kind in
    let n = c.at-first.result.archetype in
    let few = c.in_turn-count.ensures.most in
    let inside = c.requires.rows in
    let at = in-turn p.rows c.args.from c.in_turn-count.result c.at-first.result c.in_turn-count.ensures.turn c.at-first.ensures (omega arith) in
    let some = c.in_turn-count.ensures.some in
    let within = turn-within p.tick terms slots p.rows taken columns c.self.invariant s c.self.view_is n k (c.args.from + 0) (c.at-first.result.place + 0) (omega arith) (at 0 some) in
    rw (c.deref.ensures.value) (omega (arith, within, length-map p.slots.items slots_seen))

pub write_column-requires-clause-writable : goal.write_column-requires-clause-writable
write_column-requires-clause-writable c = λ i l.
    let p = c.self.inside.source in
    let slots = map slots_seen p.slots.items in
    let taken = map held_seen c.self.inside.taken.value.items in
    let columns = map held_seen c.self.inside.columns.items in
    let terms = p.query.value in
    let s = c.args.self.now in
    let many : c.args.from + length c.args.values.now ≤ length p.rows =
    all-within p.tick terms slots p.rows taken columns c.self.invariant s c.self.view_is c.args.from (length c.args.values.now) c.requires.some c.requires.rows in
    let k = kind_number c.args.kind in
    let n = c.at-first.result.archetype in
    let few = c.in_turn-count.ensures.most in
    let inside = c.requires.rows in
    let at = in-turn p.rows c.args.from c.in_turn-count.result c.at-first.result c.in_turn-count.ensures.turn c.at-first.ensures (omega arith) in
    let low : i < c.in_turn-count.result = subst (λ m. i < m) (length-take-le c.in_turn-count.result c.args.values.now few) l in
    rw (c.deref.ensures.value)
    (turn-writable p.tick terms slots p.rows taken columns c.self.invariant s c.self.view_is n k (c.args.from + i) (c.at-first.result.place + i) (omega arith) (at i low) c.requires.mut_term)

pub invariant_of-self : goal.invariant_of-self
invariant_of-self c =
    let p = c.self.inside.source in
    let slots = map slots_seen p.slots.items in
    let taken = map held_seen c.self.inside.taken.value.items in
    let columns = map held_seen c.self.inside.columns.items in
    let terms = p.query.value in
    let s = c.args.self.now in
    let many : c.args.from + length c.args.values.now ≤ length p.rows =
    all-within p.tick terms slots p.rows taken columns c.self.invariant s c.self.view_is c.args.from (length c.args.values.now) c.requires.some c.requires.rows in
    let k = kind_number c.args.kind in
    let n = c.at-first.result.archetype in
    let few = c.in_turn-count.ensures.most in
    let inside = c.requires.rows in
    let at = in-turn p.rows c.args.from c.in_turn-count.result c.at-first.result c.in_turn-count.ensures.turn c.at-first.ensures (omega arith) in
    let values = take c.in_turn-count.result c.args.values.now in
    let taken_many = length-take-le c.in_turn-count.result c.args.values.now few in
    let changed = rw (c.deref.ensures.value) at c.write_column.ensures in
    (fields-written p.tick terms slots p.rows taken columns (map held_seen c.write_column.new.columns.items) c.self.invariant s c.self.view_is n k c.args.place c.args.from c.at-first.result.place values
    (λ i l. at i (subst (λ m. i < m) taken_many l)) (omega arith) c.requires.mut_term changed).sheet

pub returns-clause-written : goal.returns-clause-written
returns-clause-written c =
    let p = c.self.inside.source in
    let slots = map slots_seen p.slots.items in
    let taken = map held_seen c.self.inside.taken.value.items in
    let columns = map held_seen c.self.inside.columns.items in
    let terms = p.query.value in
    let s = c.args.self.now in
    let many : c.args.from + length c.args.values.now ≤ length p.rows =
    all-within p.tick terms slots p.rows taken columns c.self.invariant s c.self.view_is c.args.from (length c.args.values.now) c.requires.some c.requires.rows in
    let k = kind_number c.args.kind in
    let n = c.at-first.result.archetype in
    let few = c.in_turn-count.ensures.most in
    let inside = c.requires.rows in
    let at = in-turn p.rows c.args.from c.in_turn-count.result c.at-first.result c.in_turn-count.ensures.turn c.at-first.ensures (omega arith) in
    let values = take c.in_turn-count.result c.args.values.now in
    let taken_many = length-take-le c.in_turn-count.result c.args.values.now few in
    let changed = rw (c.deref.ensures.value) at c.write_column.ensures in
    (fields-written p.tick terms slots p.rows taken columns (map held_seen c.write_column.new.columns.items) c.self.invariant s c.self.view_is n k c.args.place c.args.from c.at-first.result.place values
    (λ i l. at i (subst (λ m. i < m) taken_many l)) (omega arith) c.requires.mut_term changed).seen
