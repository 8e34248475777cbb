use Rattle.archetype_store.proofs.Common.{◌≡◌, true, map, ap, ap₂, ◌∙◌, rules, value_number, value_words, row_at, insert_component, is_alive, component_of, with_slots}
use Rattle.archetype_store.specs.declared.change.Fate.TheVariants as the
use Rattle.archetype_store.proofs.OneChange.{can_insert, slots_with_row}
use Rattle.archetype_store.proofs.store.World.insert.Goals as goal

pub change_one-requires-clause-can : goal.change_one-requires-clause-can
change_one-requires-clause-can g c =
    let v = c.into_value.result in
    let alive : is_alive c.args.self.now.state.slots c.args.e ≡ true = search rules in
    can_insert c.args.self.now.state c.args.e alive c.prove_shape.ensures (the.Lives c.put_component.new.components) c.args.tick v c.requires.past
    (c.in_ok-put_component.ensures ∙ ap (insert_component c.args.tick (value_number v) (value_words v)) c.in_ok-row.ensures)

pub returns-clause-ok : goal.returns-clause-ok
returns-clause-ok g c =
    let w = c.args.self.now.state in
    let alive : is_alive w.slots c.args.e ≡ true = search rules in
    let row = row_at w.slots c.args.e.index in
    let left = c.in_ok-put_component.ensures ∙ ap (insert_component c.args.tick (value_number c.into_value.result) (value_words c.into_value.result)) c.in_ok-row.ensures
    ∙ ap₂ (λ kind words. insert_component c.args.tick kind words row) c.into_value.ensures.number c.into_value.ensures.words in
    c.in_ok-change_one.ensures.ok ∙ ap (λ slots. with_slots (λ _. slots) w)
    (slots_with_row w c.args.e alive (insert_component c.args.tick g.C.Component.NUMBER (g.C.Component.words c.args.component)) (map component_of c.put_component.new.components.items) left)
