use Rattle.archetype_store.proofs.Common.{◌≡◌, ◌<◌, true, [], length, sym, ap, subst, ◌∙◌, get_or_default, is_there, TableValue, empty_table, homed, RowsValue, table_at}
use Rattle.archetype_store.proofs.RowsChanged.{homed_kept}
use Rattle.archetype_store.proofs.entity_rows.Rows.home.Goals as goal

pub invariant_of-self : goal.invariant_of-self
invariant_of-self c =
    let T = c.self.inside.tables.items in
    let within = subst (λ (v : RowsValue). c.args.table < length v.tables) (sym c.self.view_is) c.requires.within in
    let peopled = subst (λ (v : RowsValue). is_there (table_at v.tables c.args.table).rows ≡ true) (sym c.self.view_is) c.requires.peopled in
    let is = c.index_mut-there.ensures.value ∙ get_or_default T c.args.table c.index_mut-there.result.now (empty_table []) within in
    homed_kept T c.self.inside.places.items c.self.inside.row_numbers.items c.self.inside.shared c.args.table c.args.column c.home.new.self within peopled (c.home.ensures ∙ ap (λ (t : TableValue). homed t c.args.column) is) c.self.invariant
