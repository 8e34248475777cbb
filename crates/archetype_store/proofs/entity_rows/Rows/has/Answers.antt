use Rattle.archetype_store.proofs.Common.{sym, ap, ◌∙◌, arith, has, kinds_of, row_in}
use Rattle.column_store.proofs.Made.{any-map}
use Rattle.archetype_store.proofs.PlacedRow.{placed_within, kinds_there}
use Rattle.archetype_store.proofs.PlacesAfterRowChange.{row_seen}
use Rattle.archetype_store.proofs.entity_rows.Rows.has.Goals as goal

pub index-there-requires : goal.index-there-requires
index-there-requires c =
    let told = sym c.place.ensures ∙ c.in-Some.is in
    omega (arith, placed_within c.self.invariant c.args.self.now c.self.view_is c.args.index c.in-Some.place told, c.self.inside.tables.ok.0)

pub returns-in-None : goal.returns-in-None
returns-in-None c =
    let v = c.args.self.now in
    sym (ap (λ r. kinds_of r c.args.number) (row_seen v.tables v.places c.args.index ∙ ap (row_in v.tables c.args.index) (sym c.place.ensures ∙ c.in-None.is)))

pub returns-in-Some : goal.returns-in-Some
returns-in-Some c =
    let told = sym c.place.ensures ∙ c.in-Some.is in
    c.has_kind.ensures ∙ any-map c.args.number c.kinds.result.now ∙ ap (has c.args.number) c.kinds.ensures.kinds
    ∙ kinds_there c.self.invariant c.args.self.now c.self.view_is c.args.index c.in-Some.place told c.index-there.result.now c.index-there.ensures c.args.number
