use Rattle.archetype_store.proofs.Common.{[], length, sym, ap, subst, ◌∙◌, get_or_default, TableValue, empty_table, RowsValue, CanJoin, AreOwned}
use Rattle.archetype_store.specs.Rows.{with_row}
use Rattle.archetype_store.proofs.RowsChanged.{joined_kept}
use Rattle.archetype_store.proofs.entity_rows.Rows.join.Goals as goal

pub invariant_of-self : goal.invariant_of-self
invariant_of-self c =
    let T = c.self.inside.tables.items in
    let e = c.args.e in
    let ss = c.args.components.now in
    let can = subst (λ (v : RowsValue). CanJoin v e c.args.table ss) (sym c.self.view_is) c.requires.can in
    let owned = subst (λ (v : RowsValue). AreOwned v.tables) (sym c.self.view_is) c.requires.owned in
    let is = c.index_mut-there.ensures.value ∙ get_or_default T c.args.table c.index_mut-there.result.now (empty_table []) can.there in
    joined_kept T c.self.inside.places.items c.self.inside.row_numbers.items c.self.inside.shared e c.args.table c.len-row.result ss c.push.new.self c.self.invariant owned can
    (c.push.ensures ∙ ap (with_row e ss) is) (c.len-row.ensures ∙ ap (λ (t : TableValue). length t.rows) is)
