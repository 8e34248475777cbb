use Rattle.archetype_store.proofs.Common.{◌≡◌, true, false, map, is_some, ap, ◌∙◌, rules, kind_number, remove_component, is_alive, component_of, cell_of, with_slots}
use Rattle.archetype_store.specs.declared.change.Fate.TheVariants as the
use Rattle.archetype_store.proofs.OneChange.{can_remove, slots_with_row, slots_without}
use Rattle.archetype_store.proofs.store.World.remove.Goals as goal

pub returns-then-not-has-clause-ok : goal.returns-then-not-has-clause-ok
returns-then-not-has-clause-ok c =
    let w = c.args.self.now.state in
    let kind = kind_number c.args.kind in
    let alive : is_alive w.slots c.args.e ≡ true = search rules in
    let none : is_some (cell_of w.slots c.args.e kind) ≡ false = search rules in
    ap (λ slots. with_slots (λ _. slots) w) (slots_without w c.args.e alive kind none)

pub change_one-requires-clause-can : goal.change_one-requires-clause-can
change_one-requires-clause-can c =
    let kind = kind_number c.args.kind in
    let alive : is_alive c.args.self.now.state.slots c.args.e ≡ true = search rules in
    can_remove c.args.self.now.state c.args.e alive c.prove_shape.ensures (the.Lives c.take_component.new.components) kind
    (c.take_component.ensures ∙ ap (λ k. remove_component k (map component_of c.in_ok-row.row.items)) c.number.ensures ∙ ap (remove_component kind) c.in_ok-row.ensures)

pub returns-clause-ok : goal.returns-clause-ok
returns-clause-ok c =
    let w = c.args.self.now.state in
    let kind = kind_number c.args.kind in
    let alive : is_alive w.slots c.args.e ≡ true = search rules in
    let left = c.take_component.ensures ∙ ap (λ k. remove_component k (map component_of c.in_ok-row.row.items)) c.number.ensures ∙ ap (remove_component kind) c.in_ok-row.ensures in
    c.in_ok-change_one.ensures.ok ∙ ap (λ slots. with_slots (λ _. slots) w) (slots_with_row w c.args.e alive (remove_component kind) (map component_of c.take_component.new.components.items) left)
