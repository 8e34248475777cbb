use Rattle.archetype_store.proofs.Common.{map, sym, ap, ◌∙◌, arith, component_of, row_in}
use Rattle.archetype_store.proofs.PlacedRow.{placed_within, row_below, row_home_there, components_of_row}
use Rattle.archetype_store.proofs.PlacesAfterRowChange.{row_seen}
use Rattle.archetype_store.proofs.TablesAfterRowChange.{on_both}
use Rattle.archetype_store.proofs.entity_rows.Rows.components.Goals as goal

pub index-there-requires : goal.index-there-requires
index-there-requires c =
    let told = sym c.place.ensures ∙ c.in-Some.is in
    omega (arith, placed_within c.self.invariant c.args.self.now c.self.view_is c.args.index c.in-Some.place told, c.self.inside.tables.ok.0)

pub read-requires-clause-within : goal.read-requires-clause-within
read-requires-clause-within c =
    let p = c.in-Some.place in
    let told = sym c.place.ensures ∙ c.in-Some.is in
    row_below c.self.invariant c.args.self.now c.self.view_is c.args.index p told c.index-there.result.now c.index-there.ensures c.number-row.result (c.number-row.ensures p told)

pub read-requires-clause-home : goal.read-requires-clause-home
read-requires-clause-home c =
    let told = sym c.place.ensures ∙ c.in-Some.is in
    row_home_there c.self.invariant c.args.self.now c.self.view_is c.args.index c.in-Some.place told c.index-there.result.now c.index-there.ensures c.requires

pub returns-in-None : goal.returns-in-None
returns-in-None c =
    let v = c.args.self.now in
    ap (map component_of) c.clear.ensures.items ∙ sym (row_seen v.tables v.places c.args.index ∙ ap (row_in v.tables c.args.index) (sym c.place.ensures ∙ c.in-None.is))

pub returns-in-Some : goal.returns-in-Some
returns-in-Some c =
    let p = c.in-Some.place in
    let told = sym c.place.ensures ∙ c.in-Some.is in
    on_both c.read.result (components_of_row c.self.invariant c.args.self.now c.self.view_is c.args.index p told c.index-there.result.now c.index-there.ensures c.number-row.result (c.number-row.ensures p told) c.read.new.components.items) c.read.ensures.cells c.read.ensures.kinds
