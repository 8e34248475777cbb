use Rattle.archetype_store.proofs.Common.{◌≡◌, Some, sym, ap, ◌∙◌, get_or_read, number_of_row, RowsValue, place_of, entity_in_row}
use Rattle.archetype_store.proofs.RowNumbers.{number_within}
use Rattle.archetype_store.proofs.entity_rows.Rows.number.Goals as goal

pub returns : goal.returns
returns c p at =
    let T = c.self.inside.tables.items in
    let P = c.self.inside.places.items in
    let N = c.self.inside.row_numbers.items in
    let here : place_of P c.args.index ≡ Some p = ap (λ (v : RowsValue). place_of v.places c.args.index) c.self.view_is ∙ at in
    let row : c.index.result.now ≡ number_of_row N c.args.index = get_or_read N c.args.index c.index.result.now (number_within T P N c.self.invariant.stored.whole c.self.invariant.known c.args.index p here) c.index.ensures 0 in
    ap (λ (v : RowsValue). entity_in_row v.tables p.table c.index.result.now) (sym c.self.view_is) ∙ ap (entity_in_row T p.table) row ∙ c.self.invariant.known.there c.args.index p here
