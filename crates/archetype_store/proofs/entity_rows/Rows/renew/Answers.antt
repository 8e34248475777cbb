use Rattle.archetype_store.proofs.Common.{refl, EntityLocation}
use Rattle.archetype_store.proofs.PlacedRow.{row_below, renews}
use Rattle.archetype_store.proofs.entity_rows.Rows.renew.Goals as goal

pub renew-requires-clause-within : goal.renew-requires-clause-within
renew-requires-clause-within c =
    let p : EntityLocation = record { generation = c.args.e.generation; table = c.args.table } in
    row_below c.self.invariant c.args.self.now c.self.view_is c.args.e.index p c.requires.can.here c.index_mut-there.result.now c.index_mut-there.ensures.value c.number-row.result (c.number-row.ensures p c.requires.can.here)

pub invariant_of-self : goal.invariant_of-self
invariant_of-self c =
    let p : EntityLocation = record { generation = c.args.e.generation; table = c.args.table } in
    (renews c.self.invariant c.args.self.now c.self.view_is c.args.e p c.requires.can.here refl c.requires.owned c.index_mut-there.result.now c.index_mut-there.ensures.value
    c.number-row.result (c.number-row.ensures p c.requires.can.here) c.args.components.now c.requires.can c.renew.new.self c.renew.ensures).0

pub returns : goal.returns
returns c =
    let p : EntityLocation = record { generation = c.args.e.generation; table = c.args.table } in
    (renews c.self.invariant c.args.self.now c.self.view_is c.args.e p c.requires.can.here refl c.requires.owned c.index_mut-there.result.now c.index_mut-there.ensures.value
    c.number-row.result (c.number-row.ensures p c.requires.can.here) c.args.components.now c.requires.can c.renew.new.self c.renew.ensures).1
