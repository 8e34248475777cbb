use Rattle.archetype_store.proofs.Common.{◌≡◌, ◌<◌, ◌∷◌, [], length, map, ap, sym, subst, ◌∙◌, arith, rules, has_ids, granted_ids, grant, next_id, IsGranted, with_rows, EntityChange, book_changed, with_new, component_of, row_of, IsHolder, HasRows, AllByRecursion, true_from_ne_false, widths, IsComponent, rows_seen, StoreValue}
use Rattle.model.proofs.shape.GivenIds.{length-granted}
use Rattle.entity_table.proofs.Living.{alive-grant}
use Rattle.entity_table.proofs.WithRows.{has_ids-with_rows}
use Rattle.archetype_store.specs.declared.change.Fate.TheVariants as the
use Rattle.archetype_store.proofs.PlacesAfterRowChange.{holder_seen}
use Rattle.archetype_store.proofs.StoreKept.{store_kept, store_state}
use Rattle.archetype_store.proofs.WorldShape.{world-new}
use Rattle.archetype_store.proofs.NewEntity.{alone, id_next, granted_held, slots_new}
use Rattle.archetype_store.proofs.BookChanges.{rows_settled, below_left}
use Rattle.archetype_store.proofs.SlotRows.{holder_there, rows-kept}
use Rattle.archetype_store.proofs.store.World.spawn.Goals as goal
use Rattle.archetype_store.proofs.store.World.spawn.Goals.{After-grant, After-index-entity}

-- whether there are ids
same_ids : (c : After-grant) → has_ids 1 c.self.inside.ids ≡ has_ids 1 c.args.self.now.state.slots
same_ids c = sym (has_ids-with_rows 1 (row_of (rows_seen c.self.inside.rows).rows) c.self.inside.ids) ∙ ap (has_ids 1) (ap (λ (v : StoreValue). v.state.slots) c.self.view_is)

-- the id
id_is : (c : After-index-entity) → granted_ids 1 c.self.inside.ids ≡ c.index-entity.result.now ∷ []
id_is c =
    sym c.in_ok-granted.ensures.ok
    ∙ alone c.in_ok-granted.granted.items c.index-entity.result.now (ap length c.in_ok-granted.ensures.ok ∙ length-granted 1 c.self.inside.ids) c.index-entity.ensures

-- it is granted
granted : (c : After-index-entity) → IsGranted c.grant.new.self c.index-entity.result.now
granted c =
    let one : 0 < length c.in_ok-granted.granted.items = omega (arith, ap length c.in_ok-granted.ensures.ok, length-granted 1 c.self.inside.ids) in
    subst (IsGranted c.grant.new.self) (sym c.index-entity.ensures) (c.in_ok-granted.ensures.each 0 c.index-entity.result.now one)

-- the rows of the book after the grant
kept : (c : After-index-entity) → HasRows c.grant.new.self (rows_seen c.self.inside.rows)
kept c = rw c.in_ok-granted.ensures.granted (rows-kept c.self.inside.ids (grant 1 c.self.inside.ids) (rows_seen c.self.inside.rows) (alive-grant 1 c.self.inside.ids) c.self.invariant.held)

pub returns-in_err-granted-clause-spent : goal.returns-in_err-granted-clause-spent
returns-in_err-granted-clause-spent c =
    let same = same_ids (goal.at.returns-in_err-granted-clause-spent c).After-grant in
    let spent = rw same at c.in_err-granted.ensures.spent in
    search rules

pub index-entity-requires : goal.index-entity-requires
index-entity-requires c =
    let held = c.in_ok-granted.granted.ok.0 in
    omega (arith, ap length c.in_ok-granted.ensures.ok, length-granted 1 c.self.inside.ids)

pub change_rows-requires-clause-below : goal.change_rows-requires-clause-below
change_rows-requires-clause-below c = below_left (record { entity = c.index-entity.result.now; fate = the.Lives c.args.components } ∷ []) (c.requires.rising, tt)

pub change_rows-requires-clause-theirs : goal.change_rows-requires-clause-theirs
change_rows-requires-clause-theirs c =
    let a = (goal.at.change_rows-requires-clause-theirs c).After-index-entity in
    let v = c.self.inside.rows in
    let e = c.index-entity.result.now in
    (subst (IsHolder e.generation) (holder_seen v.tables v.places e.index) (holder_there c.grant.new.self (rows_seen v) (kept a) e (granted a).generation), tt)

pub settle_all-requires-clause-held : goal.settle_all-requires-clause-held
settle_all-requires-clause-held c =
    granted_held c.grant.new.self c.index-entity.result.now (the.Lives c.args.components) (granted (goal.at.settle_all-requires-clause-held c).After-index-entity)

pub invariant_of-self-in-Ok-1 : goal.invariant_of-self-in-Ok-1
invariant_of-self-in-Ok-1 c =
    let a = (goal.at.invariant_of-self-in-Ok-1 c).After-index-entity in
    let book = c.self.inside.ids in
    let v = c.self.inside.rows in
    let u = c.change_rows.new.rows in
    let h = c.self.invariant in
    let e = c.index-entity.result.now in
    let fate = the.Lives c.args.components in
    let row = map component_of c.args.components.items in
    let change : EntityChange = record { entity = e; fate = fate } in
    let is = ap (with_rows (row_of (rows_seen u).rows)) (c.settle_all.ensures ∙ ap (book_changed (change ∷ [])) c.in_ok-granted.ensures.granted)
    ∙ slots_new book (rows_seen v) (rows_seen u) e fate h.held (id_is a) c.in-Ok.ensures.ok in
    let enough = has_ids-with_rows 1 (row_of (rows_seen v).rows) book ∙ true_from_ne_false (has_ids 1 book) (λ none. let f = c.in_ok-granted.ensures.spent.1 none in cc) in
    let can = subst (λ (x : StoreValue). AllByRecursion (IsComponent widths x.state.clock) row) (sym c.self.view_is) c.requires.components in
    let held = subst (λ slots. HasRows slots (rows_seen u)) (sym c.settle_all.ensures)
    (rows_settled c.grant.new.self (rows_seen v) (rows_seen u) (kept a) (change ∷ []) (tt, tt) (granted_held c.grant.new.self e fate (granted a)) c.in-Ok.ensures.ok) in
    store_kept h (with_new row) c.settle_all.new.book u is _ held c.change_rows.ensures.indexed (world-new _ row enough c.requires.rising can h.shape)

pub take_back-requires-clause-id : goal.take_back-requires-clause-id
take_back-requires-clause-id c = ap (granted_ids 1) c.of-before.ensures ∙ id_is (goal.at.take_back-requires-clause-id c).After-index-entity

pub returns-in-Ok-clause-id : goal.returns-in-Ok-clause-id
returns-in-Ok-clause-id c =
    id_next c.self.inside.ids (row_of (rows_seen c.self.inside.rows).rows) c.index-entity.result.now (id_is (goal.at.returns-in-Ok-clause-id c).After-index-entity)
    ∙ ap (λ (v : StoreValue). next_id v.state.slots) c.self.view_is

pub returns-in-Ok-clause-ok : goal.returns-in-Ok-clause-ok
returns-in-Ok-clause-ok c =
    let a = (goal.at.returns-in-Ok-clause-ok c).After-index-entity in
    let u = c.change_rows.new.rows in
    let e = c.index-entity.result.now in
    let fate = the.Lives c.args.components in
    let row = map component_of c.args.components.items in
    let change : EntityChange = record { entity = e; fate = fate } in
    let is = ap (with_rows (row_of (rows_seen u).rows)) (c.settle_all.ensures ∙ ap (book_changed (change ∷ [])) c.in_ok-granted.ensures.granted)
    ∙ slots_new c.self.inside.ids (rows_seen c.self.inside.rows) (rows_seen u) e fate c.self.invariant.held (id_is a) c.in-Ok.ensures.ok in
    store_state c.self.invariant (with_new row) c.settle_all.new.book u is _ c.self.view_is

pub returns-in-Ok-clause-spent : goal.returns-in-Ok-clause-spent
returns-in-Ok-clause-spent c =
    let same = same_ids (goal.at.returns-in-Ok-clause-spent c).After-grant in
    let spent = rw same at c.in_ok-granted.ensures.spent in
    search rules

pub returns-in-Err-clause-spent : goal.returns-in-Err-clause-spent
returns-in-Err-clause-spent c =
    let same = same_ids (goal.at.returns-in-Err-clause-spent c).After-grant in
    let spent = rw same at c.in_ok-granted.ensures.spent in
    search rules
