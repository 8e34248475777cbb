use Rattle.archetype_store.proofs.Common.{◌≡◌, ◌-◌, Some, length, sym, ap, subst, ◌∙◌, arith, length-map, slice_get, TableRow, IsHolder, holder_in}
use Rattle.archetype_store.proofs.PlacedRow.{placed_within, row_below, goes, owned_there, last_within}
use Rattle.archetype_store.proofs.entity_rows.Rows.leave.Goals as goal

pub index_mut-there-requires : goal.index_mut-there-requires
index_mut-there-requires c = omega (arith, placed_within c.self.invariant c.args.self.now c.self.view_is c.args.e.index c.in-Some.place (sym c.place.ensures ∙ c.in-Some.is), c.self.inside.tables.ok.0)

pub swap_remove-requires-clause-within : goal.swap_remove-requires-clause-within
swap_remove-requires-clause-within c =
    let told = sym c.place.ensures ∙ c.in-Some.is in
    row_below c.self.invariant c.args.self.now c.self.view_is c.args.e.index c.in-Some.place told c.index_mut-there.result.now c.index_mut-there.ensures.value c.number-row.result (c.number-row.ensures c.in-Some.place told)

pub last_of-moved-requires : goal.last_of-moved-requires
last_of-moved-requires c =
    let told = sym c.place.ensures ∙ c.in-Some.is in
    let there = c.index_mut-there.result.now in
    let below = row_below c.self.invariant c.args.self.now c.self.view_is c.args.e.index c.in-Some.place told there c.index_mut-there.ensures.value c.number-row.result (c.number-row.ensures c.in-Some.place told) in
    let many = ap length c.entities.ensures.entities ∙ length-map there.rows (λ (r : TableRow). r.entity) in
    omega arith

pub swap_remove-requires-clause-owned : goal.swap_remove-requires-clause-owned
swap_remove-requires-clause-owned c =
    let told = sym c.place.ensures ∙ c.in-Some.is in
    owned_there c.self.invariant c.args.self.now c.self.view_is c.args.e c.in-Some.place told (subst (λ o. IsHolder c.args.e.generation (holder_in o)) told c.requires.theirs) c.requires.owned
    c.index_mut-there.result.now c.index_mut-there.ensures.value

pub index_mut-requires : goal.index_mut-requires
index_mut-requires c =
    let told = sym c.place.ensures ∙ c.in-Some.is in
    let last = subst (λ xs. slice_get xs (length xs - 1) ≡ Some c.last_of-moved.result) c.entities.ensures.entities c.last_of-moved.ensures in
    let known = last_within c.self.invariant c.args.self.now c.self.view_is c.args.e c.in-Some.place told (subst (λ o. IsHolder c.args.e.generation (holder_in o)) told c.requires.theirs) c.requires.owned
    c.index_mut-there.result.now c.index_mut-there.ensures.value c.last_of-moved.result last in
    omega (arith, c.self.inside.row_numbers.ok.0)

pub invariant_of-self : goal.invariant_of-self
invariant_of-self c =
    let told = sym c.place.ensures ∙ c.in-Some.is in
    let last = subst (λ xs. slice_get xs (length xs - 1) ≡ Some c.last_of-moved.result) c.entities.ensures.entities c.last_of-moved.ensures in
    (goes c.self.invariant c.args.self.now c.self.view_is c.args.e c.in-Some.place told (subst (λ o. IsHolder c.args.e.generation (holder_in o)) told c.requires.theirs) c.requires.owned
    c.index_mut-there.result.now c.index_mut-there.ensures.value c.number-row.result (c.number-row.ensures c.in-Some.place told) c.requires.theirs c.last_of-moved.result last c.swap_remove.new.self c.swap_remove.ensures).0

pub returns-in-Some : goal.returns-in-Some
returns-in-Some c =
    let told = sym c.place.ensures ∙ c.in-Some.is in
    let last = subst (λ xs. slice_get xs (length xs - 1) ≡ Some c.last_of-moved.result) c.entities.ensures.entities c.last_of-moved.ensures in
    (goes c.self.invariant c.args.self.now c.self.view_is c.args.e c.in-Some.place told (subst (λ o. IsHolder c.args.e.generation (holder_in o)) told c.requires.theirs) c.requires.owned
    c.index_mut-there.result.now c.index_mut-there.ensures.value c.number-row.result (c.number-row.ensures c.in-Some.place told) c.requires.theirs c.last_of-moved.result last c.swap_remove.new.self c.swap_remove.ensures).1
