use Rattle.std.proofs.Common.{◌≡◌, List, sym, ◌∙◌, subst, arith}
use Rattle.model.specs.state.State.{Slot}
use Rattle.model.specs.state.Ids.{grant}
use Rattle.entity_table.specs.Ids.{IsCounted}
use Rattle.entity_table.proofs.TakenBack.{fresh_last, other_vacant, last_dropped, counted_last, within_back, room_back, written_back, counted_back}
use Rattle.entity_table.proofs.table.EntityTable.take_back.Goals as goal

pub returns-then-e-eq1 : goal.returns-then-e-eq1
returns-then-e-eq1 c =
    let xs = c.args.before.value in
    let ys = c.self.inside.places.items in
    let held = c.self.inside.places.ok.0 in
    c.pop.ensures.rest ∙ last_dropped xs ys _ (fresh_last xs c.args.e c.requires.book c.requires.id c.if-e-eq1.true) (c.self.view_is ∙ sym c.requires.granted) (omega arith)

pub invariant_of-self : goal.invariant_of-self
invariant_of-self c =
    let xs = c.args.before.value in
    let ys = c.self.inside.places.items in
    let h = fresh_last xs c.args.e c.requires.book c.requires.id c.if-e-eq1.true in
    let same : ys ≡ grant 1 xs = c.self.view_is ∙ sym c.requires.granted in
    let held = c.self.inside.places.ok.0 in
    subst (λ (zs : List Slot). IsCounted zs c.self.inside.vacant c.self.inside.living) (sym (c.pop.ensures.rest ∙ last_dropped xs ys _ h same (omega arith)))
    (counted_last xs ys c.self.inside.vacant c.self.inside.living c.requires.book h same c.self.invariant)

pub index_mut-place-requires : goal.index_mut-place-requires
index_mut-place-requires c =
    let xs = c.args.before.value in
    let was = other_vacant xs c.args.e c.requires.book c.requires.id c.if-e-eq1.false in
    let held = c.self.inside.places.ok.0 in
    let within = within_back xs c.self.inside.places.items c.args.e c.self.inside.vacant c.self.inside.living c.requires.book was (c.self.view_is ∙ sym c.requires.granted) c.self.invariant in
    omega arith

pub push-requires : goal.push-requires
push-requires c =
    let xs = c.args.before.value in
    let was = other_vacant xs c.args.e c.requires.book c.requires.id c.if-e-eq1.false in
    room_back xs c.self.inside.places.items c.args.e c.self.inside.vacant c.self.inside.living c.requires.book was (c.self.view_is ∙ sym c.requires.granted) c.self.invariant

pub returns : goal.returns
returns c =
    let xs = c.args.before.value in
    let was = other_vacant xs c.args.e c.requires.book c.requires.id c.if-e-eq1.false in
    written_back xs c.self.inside.places.items c.args.e c.self.inside.vacant c.self.inside.living c.requires.book was (c.self.view_is ∙ sym c.requires.granted) c.self.invariant
    c.index_mut-place.result.now c.take_back.new.self c.index_mut-place.ensures.value c.take_back.ensures

pub invariant_of-self-else-e-eq1 : goal.invariant_of-self-else-e-eq1
invariant_of-self-else-e-eq1 c =
    let xs = c.args.before.value in
    let was = other_vacant xs c.args.e c.requires.book c.requires.id c.if-e-eq1.false in
    let ys = c.self.inside.places.items in
    let same : ys ≡ grant 1 xs = c.self.view_is ∙ sym c.requires.granted in
    subst (λ (zs : List Slot). IsCounted zs c.push.new.self c.self.inside.living)
    (sym (written_back xs ys c.args.e c.self.inside.vacant c.self.inside.living c.requires.book was same c.self.invariant
    c.index_mut-place.result.now c.take_back.new.self c.index_mut-place.ensures.value c.take_back.ensures))
    (counted_back xs ys c.args.e c.self.inside.vacant c.self.inside.living c.requires.book was same c.self.invariant c.push.new.self c.push.ensures.numbers c.push.ensures.room)
