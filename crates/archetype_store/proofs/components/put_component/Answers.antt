use Rattle.archetype_store.proofs.Common.{◌≡◌, length, get_or, set, map, pos, sym, ap, ◌∙◌, get_or_default, length-set, position-Some, Position, value_number, StampedValue, component_of}
use Rattle.smallvec.proofs.SmallVecLemmas.{items-with_items}
use Rattle.archetype_store.proofs.Rows.{is_from, put-none}
use Rattle.archetype_store.proofs.RowPlaces.{replaced_by, put_over, put_at}
use Rattle.archetype_store.proofs.components.put_component.Goals as goal

-- what a read behind the end of a list would give
abbrev nothing : StampedValue
nothing = record { value = record { kind = Position; first = pos 0; second = pos 0 }; stamp = record { added = 0; changed = 0 } }

pub returns-in_ok-push-in-None : goal.returns-in_ok-push-in-None
returns-in_ok-push-in-None c =
    let here = put-none c.args.tick c.args.value c.args.components.now.items (rw (c.deref.ensures, c.number.ensures) at (sym c.place_of.ensures ∙ c.in-None.is)) in
    rw (c.in_ok-push-in-None.ensures.ok, c.added.ensures) here

pub returns-then-number : goal.returns-then-number
returns-then-number c =
    let xs = c.args.components.now.items in
    let p = c.in-Some.place in
    let s : StampedValue = get_or c.deref-in-Some.result.now p nothing in
    let found = rw (c.deref.ensures, c.number.ensures) at (sym c.place_of.ensures ∙ c.in-Some.is) in
    let within = (position-Some (is_from (value_number c.args.value)) xs p s found).0 in
    let is : s ≡ get_or xs p s = ap (λ ys. get_or ys p nothing) c.deref-in-Some.ensures ∙ get_or_default xs p nothing s within in
    let put = replaced_by c.args.tick c.args.value s in
    ap (map component_of) (items-with_items c.args.components.now (set c.deref_mut.result.now p put) (length-set c.deref_mut.result.now p put ∙ ap length c.deref_mut.ensures.value))
    ∙ ap (λ ys. map component_of (set ys p put)) c.deref_mut.ensures.value
    ∙ put_over c.args.tick c.args.value xs p s found is (rw (c.number-in-Some.ensures, c.number-in-Some-2.ensures) at c.if-number.true)

pub returns-in_ok-insert-in-Some : goal.returns-in_ok-insert-in-Some
returns-in_ok-insert-in-Some c =
    let xs = c.args.components.now.items in
    let p = c.in-Some.place in
    let s : StampedValue = get_or c.deref-in-Some.result.now p nothing in
    let found = rw (c.deref.ensures, c.number.ensures) at (sym c.place_of.ensures ∙ c.in-Some.is) in
    let within = (position-Some (is_from (value_number c.args.value)) xs p s found).0 in
    let is : s ≡ get_or xs p s = ap (λ ys. get_or ys p nothing) c.deref-in-Some.ensures ∙ get_or_default xs p nothing s within in
    let here = put_at c.args.tick c.args.value xs p s found is (rw (c.number-in-Some.ensures, c.number-in-Some-2.ensures) at c.if-number.false) in
    rw (c.in_ok-insert-in-Some.ensures.ok, c.added-else-number.ensures) here
