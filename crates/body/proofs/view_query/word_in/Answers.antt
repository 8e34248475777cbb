use Rattle.std.proofs.Common.{map, ap, ◌∙◌}
use Rattle.std.proofs.lemmas.Int.{to_z-of_z}
use Rattle.kinds.specs.Kind.{kind_number}
use Rattle.model.specs.shown.Input.{words_of}
use Rattle.body.specs.Fields.{field_of}
use Rattle.body.specs.HeldColumns.{held_seen, slots_seen}
use Rattle.body.specs.Sheet.{slot_in, slot_cell}
use Rattle.body.proofs.FieldRows.{held-there}
use Rattle.body.proofs.view_query.word_in.Goals as goal

pub word-requires : goal.word-requires
word-requires c =
    let k = kind_number c.args.kind in
    (held-there c.args.columns.now (slot_in (map slots_seen c.args.slots.now) c.args.at.archetype k) k c.in-Some.slot c.args.at.place c.index-columns-slot.result c.in-Some.ensures c.requires.readable c.index-columns-slot.is).within

pub returns-in-Some : goal.returns-in-Some
returns-in-Some c =
    let k = kind_number c.args.kind in
    (search to_z-of_z) ∙ c.word.ensures
    ∙ ap (λ o. field_of c.args.place (words_of o))
    (held-there c.args.columns.now (slot_in (map slots_seen c.args.slots.now) c.args.at.archetype k) k c.in-Some.slot c.args.at.place c.index-columns-slot.result c.in-Some.ensures c.requires.readable c.index-columns-slot.is).cell_is

pub returns-in-None : goal.returns-in-None
returns-in-None c = ap (λ s. field_of c.args.place (words_of (slot_cell s (map held_seen c.args.columns.now) c.args.at.place))) c.in-None.ensures
