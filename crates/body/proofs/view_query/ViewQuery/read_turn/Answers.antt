use Rattle.std.proofs.Common.{◌+◌, ◌<◌, ◌≤◌, pos, map, length, drop, subst, ◌∙◌, arith}
use Rattle.std.proofs.lemmas.List.{length-map, length-take-le, get_or_append_left}
use Rattle.kinds.specs.Kind.{kind_number}
use Rattle.body.specs.HeldColumns.{held_seen, slots_seen}
use Rattle.body.proofs.FieldRows.{all-within, in-turn, turn-read, turn-within, turn-readable}
use Rattle.body.proofs.view_query.ViewQuery.read_turn.Goals as goal

pub in_turn-count-requires-clause-within : goal.in_turn-count-requires-clause-within
in_turn-count-requires-clause-within c =
    let p = c.self.inside.source in
    let slots = map slots_seen p.slots.items in
    let taken = map held_seen c.self.inside.taken.value.items in
    let columns = map held_seen c.self.inside.columns.items in
    let terms = p.query.value in
    let s = c.args.self.now in
    let many : c.args.from + length c.args.values.now ≤ length p.rows =
    all-within p.tick terms slots p.rows taken columns c.self.invariant s c.self.view_is c.args.from (length c.args.values.now) c.requires.some c.requires.rows in
    many

pub at-first-requires : goal.at-first-requires
at-first-requires c =
    let p = c.self.inside.source in
    let slots = map slots_seen p.slots.items in
    let taken = map held_seen c.self.inside.taken.value.items in
    let columns = map held_seen c.self.inside.columns.items in
    let terms = p.query.value in
    let s = c.args.self.now in
    let many : c.args.from + length c.args.values.now ≤ length p.rows =
    all-within p.tick terms slots p.rows taken columns c.self.invariant s c.self.view_is c.args.from (length c.args.values.now) c.requires.some c.requires.rows in
    let some = c.requires.some in
    omega arith

pub read_column-requires-clause-archetype : goal.read_column-requires-clause-archetype
read_column-requires-clause-archetype c = λ there.
    let p = c.self.inside.source in
    let slots = map slots_seen p.slots.items in
    let taken = map held_seen c.self.inside.taken.value.items in
    let columns = map held_seen c.self.inside.columns.items in
    let terms = p.query.value in
    let s = c.args.self.now in
    let many : c.args.from + length c.args.values.now ≤ length p.rows =
    all-within p.tick terms slots p.rows taken columns c.self.invariant s c.self.view_is c.args.from (length c.args.values.now) c.requires.some c.requires.rows in
    let k = kind_number c.args.kind in
    let n = c.at-first.result.archetype in
    let few = c.in_turn-count.ensures.most in
    let inside = c.requires.rows in
    let at = in-turn p.rows c.args.from c.in_turn-count.result c.at-first.result c.in_turn-count.ensures.turn c.at-first.ensures (omega arith) in
    let some = c.in_turn-count.ensures.some in
    let within = turn-within p.tick terms slots p.rows taken columns c.self.invariant s c.self.view_is n k (c.args.from + 0) (c.at-first.result.place + 0) (omega arith) (at 0 some) in
    rw (c.deref.ensures.value) (omega (arith, within, length-map p.slots.items slots_seen))

pub read_column-requires-clause-readable : goal.read_column-requires-clause-readable
read_column-requires-clause-readable c = λ i l.
    let p = c.self.inside.source in
    let slots = map slots_seen p.slots.items in
    let taken = map held_seen c.self.inside.taken.value.items in
    let columns = map held_seen c.self.inside.columns.items in
    let terms = p.query.value in
    let s = c.args.self.now in
    let many : c.args.from + length c.args.values.now ≤ length p.rows =
    all-within p.tick terms slots p.rows taken columns c.self.invariant s c.self.view_is c.args.from (length c.args.values.now) c.requires.some c.requires.rows in
    let k = kind_number c.args.kind in
    let n = c.at-first.result.archetype in
    let few = c.in_turn-count.ensures.most in
    let inside = c.requires.rows in
    let at = in-turn p.rows c.args.from c.in_turn-count.result c.at-first.result c.in_turn-count.ensures.turn c.at-first.ensures (omega arith) in
    let low : i < c.in_turn-count.result = subst (λ m. i < m) (length-take-le c.in_turn-count.result c.args.values.now few) l in
    rw (c.deref.ensures.value, c.deref-2.ensures.value)
    (turn-readable p.tick terms slots p.rows taken columns c.self.invariant s c.self.view_is n k (c.args.from + i) (c.at-first.result.place + i) (omega arith) (at i low))

pub returns-clause-values : goal.returns-clause-values
returns-clause-values c = λ i low.
    let p = c.self.inside.source in
    let slots = map slots_seen p.slots.items in
    let taken = map held_seen c.self.inside.taken.value.items in
    let columns = map held_seen c.self.inside.columns.items in
    let terms = p.query.value in
    let s = c.args.self.now in
    let many : c.args.from + length c.args.values.now ≤ length p.rows =
    all-within p.tick terms slots p.rows taken columns c.self.invariant s c.self.view_is c.args.from (length c.args.values.now) c.requires.some c.requires.rows in
    let k = kind_number c.args.kind in
    let n = c.at-first.result.archetype in
    let few = c.in_turn-count.ensures.most in
    let inside = c.requires.rows in
    let at = in-turn p.rows c.args.from c.in_turn-count.result c.at-first.result c.in_turn-count.ensures.turn c.at-first.ensures (omega arith) in
    let taken_many = length-take-le c.in_turn-count.result c.args.values.now few in
    let there : i < length c.read_column.new.values = (let e = c.read_column.ensures.length in omega arith) in
    get_or_append_left c.read_column.new.values (drop c.in_turn-count.result c.args.values.now) (pos 0) i there
    ∙ rw (c.deref.ensures.value, c.deref-2.ensures.value) at (c.read_column.ensures.values i (omega arith))
    ∙ turn-read p.tick terms slots p.rows taken columns c.self.invariant s c.self.view_is n k (c.args.from + i) (c.at-first.result.place + i) (omega arith) (at i low) c.args.place
