use Rattle.std.proofs.Common.{◌≡◌, ◌<◌, true, [], ◌∷◌, ◌++◌, length, get_or, vec_len, vec_capacity, if◌then◌else◌, is_ok, ap, ap₂, sym, ◌∙◌, arith}
use Rattle.std.proofs.lemmas.List.{get_or_default}
use Rattle.model.specs.state.State.{Slot, fresh_slot}
use Rattle.model.specs.state.Ids.{vacant_indices, granted_slot}
use Rattle.entity_table.proofs.Edits.{set-written}
use Rattle.entity_table.proofs.Grants.{GrantsLeast, grants_least, GrantsNext, grants_next}
use Rattle.entity_table.proofs.granting.grant_one.Goals as goal
use Rattle.entity_table.proofs.granting.grant_one.Goals.{In-Some, In-None}

least : (c : In-Some) → GrantsLeast c.args.places.now.items c.in-Some.index c.pop.new.self.rising
least c = grants_least c.args.places.now.items c.in-Some.index c.pop.new.self.rising (sym c.requires.kept ∙ c.in-Some.ensures.least)

next : (c : In-None) → GrantsNext c.args.places.now.items
next c = grants_next c.args.places.now.items (sym c.requires.kept ∙ c.in-None.ensures.least.0)

pub index_mut-place-requires : goal.index_mut-place-requires
index_mut-place-requires c =
    let within = (least (goal.at.index_mut-place-requires c).In-Some).within in
    let held = c.args.places.now.ok.0 in
    omega arith

pub returns-in-Some-clause-grants : goal.returns-in-Some-clause-grants
returns-in-Some-clause-grants c =
    let r = least (goal.at.returns-in-Some-clause-grants c).In-Some in
    set-written granted_slot c.args.places.now.items c.in-Some.index c.index_mut-place.result.now c.grant.new.self r.within c.index_mut-place.ensures.value c.grant.ensures
    ∙ sym r.granted

pub returns-in-Some-clause-id : goal.returns-in-Some-clause-id
returns-in-Some-clause-id c =
    let r = least (goal.at.returns-in-Some-clause-id c).In-Some in
    let place = c.index_mut-place.result.now in
    let read : place ≡ get_or c.args.places.now.items c.in-Some.index fresh_slot = c.index_mut-place.ensures.value ∙ get_or_default c.args.places.now.items c.in-Some.index place fresh_slot r.within in
    r.ids ∙ ap (λ g. record { index = c.in-Some.index; generation = g } ∷ []) (ap (λ (s : Slot). s.generation) (sym read) ∙ sym (c.generation.ensures ∙ ap (λ (s : Slot). s.generation) c.grant.ensures))

pub returns-in-Some-clause-kept : goal.returns-in-Some-clause-kept
returns-in-Some-clause-kept c =
    let r = least (goal.at.returns-in-Some-clause-kept c).In-Some in
    sym (ap vacant_indices (returns-in-Some-clause-grants c) ∙ r.left)

pub returns-in-None-clause-grants : goal.returns-in-None-clause-grants
returns-in-None-clause-grants c =
    let r = next (goal.at.returns-in-None-clause-grants c).In-None in
    let none = ap length (c.in-None.ensures.least.0) in
    let ample = c.requires.room in
    let room : vec_len c.args.places.now < vec_capacity c.args.places.now = omega arith in
    let added : is_ok c.push.result ≡ true = c.push.ensures.succeeds room in
    let items = c.args.places.now.items in
    let place : c.grant-in-None.new.self ≡ granted_slot fresh_slot = c.grant-in-None.ensures ∙ ap granted_slot c.fresh-place.ensures in
    c.push.ensures.items ∙ ap₂ (λ b s. if b then (items ++ s ∷ []) else items) added place ∙ sym r.granted

pub returns-in-None-clause-id : goal.returns-in-None-clause-id
returns-in-None-clause-id c =
    let r = next (goal.at.returns-in-None-clause-id c).In-None in
    let held = c.args.places.now.ok.0 in
    r.ids ∙ ap (λ k. record { index = k; generation = 1 } ∷ []) (let e : length c.args.places.now.items ≡ c.len-index.result = omega (arith, c.len-index.ensures) in e)

pub returns-in-None-clause-kept : goal.returns-in-None-clause-kept
returns-in-None-clause-kept c =
    let r = next (goal.at.returns-in-None-clause-kept c).In-None in
    c.in-None.ensures.least.1 ∙ sym (ap vacant_indices (returns-in-None-clause-grants c) ∙ r.left)
