use Rattle.std.proofs.Common.{map, unwrap_or, [], ap, ◌∙◌}
use Rattle.std.proofs.lemmas.Int.{to_z-of_z}
use Rattle.kinds.specs.Kind.{kind_number}
use Rattle.kinds.specs.Components.{widths}
use Rattle.model.specs.Lists.{update_at}
use Rattle.model.specs.shown.Input.{words_of}
use Rattle.body.specs.Fields.{words_with}
use Rattle.body.specs.HeldColumns.{held_seen, slots_seen}
use Rattle.body.specs.Seen.{with_words}
use Rattle.body.specs.Sheet.{Sheet, seen_at}
use Rattle.body.proofs.FieldRows.{field-told}
use Rattle.body.proofs.SheetCalls.{row-writable, sheet-read, sheet-after, sheet-set}
use Rattle.body.proofs.view_query.ViewQuery.write_word.Goals as goal

pub write_word_in-requires-clause-writable : goal.write_word_in-requires-clause-writable
write_word_in-requires-clause-writable c =
    let p = c.self.inside.source in
    let slots = map slots_seen p.slots.items in
    let taken = map held_seen c.self.inside.taken.value.items in
    let columns = map held_seen c.self.inside.columns.items in
    let terms = p.query.value in
    rw (c.deref.ensures.value)
    (row-writable p.tick terms slots p.rows taken columns c.self.invariant c.args.self.now c.self.view_is c.args.row c.at-at.result (kind_number c.args.kind) c.requires.row c.at-at.ensures c.requires.mut_term)

pub invariant_of-self : goal.invariant_of-self
invariant_of-self c =
    let p = c.self.inside.source in
    let slots = map slots_seen p.slots.items in
    let taken = map held_seen c.self.inside.taken.value.items in
    let columns = map held_seen c.self.inside.columns.items in
    let terms = p.query.value in
    let k = kind_number c.args.kind in
    let changed = field-told slots columns (map held_seen c.write_word_in.new.columns.items) c.at-at.result k (widths k) p.tick c.args.place c.args.value _ (search to_z-of_z) (rw (c.deref.ensures.value) at c.write_word_in.ensures) in
    sheet-after p.tick terms slots p.rows taken columns c.self.invariant c.args.self.now c.self.view_is c.args.row c.at-at.result k
    (words_with (widths k) c.args.place c.args.value (unwrap_or (words_of (seen_at slots columns c.at-at.result k)) []))
    (map held_seen c.write_word_in.new.columns.items) c.requires.row c.at-at.ensures c.requires.mut_term changed

pub returns : goal.returns
returns c =
    let p = c.self.inside.source in
    let slots = map slots_seen p.slots.items in
    let taken = map held_seen c.self.inside.taken.value.items in
    let columns = map held_seen c.self.inside.columns.items in
    let terms = p.query.value in
    let k = kind_number c.args.kind in
    let s = c.args.self.now in
    let changed = field-told slots columns (map held_seen c.write_word_in.new.columns.items) c.at-at.result k (widths k) p.tick c.args.place c.args.value _ (search to_z-of_z) (rw (c.deref.ensures.value) at c.write_word_in.ensures) in
    sheet-set p.tick terms slots p.rows taken columns c.self.invariant s c.self.view_is c.args.row c.at-at.result k
    (words_with (widths k) c.args.place c.args.value (unwrap_or (words_of (seen_at slots columns c.at-at.result k)) []))
    (map held_seen c.write_word_in.new.columns.items) c.requires.row c.at-at.ensures c.requires.mut_term changed
    ∙ ap (λ o. let x : Sheet = record {
      terms = s.terms;
      rows = s.rows;
      cells = update_at c.args.row (with_words s.terms k (words_with (widths k) c.args.place c.args.value (unwrap_or o []))) s.cells;
      taken = s.taken;
      tick = s.tick;
      places = s.places;
    } in x) (sheet-read p.tick terms slots p.rows taken columns c.self.invariant s c.self.view_is c.args.row c.at-at.result k c.requires.row c.at-at.ensures)
