use Rattle.std.proofs.Common.{◌+◌, ◌-◌, ◌<◌, map, length, ap, ◌∙◌, arith}
use Rattle.model.specs.shown.Input.{words_of}
use Rattle.kinds.specs.Kind.{kind_number}
use Rattle.body.specs.Fields.{field_of}
use Rattle.body.specs.HeldColumns.{slots_seen}
use Rattle.body.specs.Sheet.{slot_in}
use Rattle.body.proofs.FieldRows.{held-there}
use Rattle.body.proofs.view_query.read_column.Goals as goal

pub read_field-requires : goal.read_field-requires
read_field-requires c =
    let k = kind_number c.args.kind in
    let last = length c.args.values.now - 1 in
    let some : last < length c.args.values.now = omega arith in
    let within = (held-there c.args.columns.now (slot_in (map slots_seen c.args.slots.now) c.args.archetype k) k c.in-Some.slot (c.args.from + last) c.index-columns-slot.result c.in-Some.ensures (c.requires.readable last some) c.index-columns-slot.is).within in
    omega arith

pub returns-in-Some-clause-values : goal.returns-in-Some-clause-values
returns-in-Some-clause-values c = λ i l.
    let k = kind_number c.args.kind in
    c.read_field.ensures.values i l
    ∙ ap (λ o. field_of c.args.place (words_of o))
    (held-there c.args.columns.now (slot_in (map slots_seen c.args.slots.now) c.args.archetype k) k c.in-Some.slot (c.args.from + i) c.index-columns-slot.result c.in-Some.ensures (c.requires.readable i l) c.index-columns-slot.is).cell_is
