use Rattle.archetype_store.proofs.Common.{[], ◌<◌, length, sym, ap, subst, ◌∙◌, get_or_default, TableValue, empty_table, RowsValue, shape_of, AreOwned}
use Rattle.archetype_store.proofs.RowsChanged.{roomed_kept}
use Rattle.archetype_store.proofs.entity_rows.Rows.release.Goals as goal

pub invariant_of-self : goal.invariant_of-self
invariant_of-self c =
    let T = c.self.inside.tables.items in
    let owned = subst (λ (v : RowsValue). AreOwned v.tables) (sym c.self.view_is) c.requires.owned in
    let within = subst (λ (v : RowsValue). c.args.table < length v.tables) (sym c.self.view_is) c.requires.within in
    let is = c.index_mut-there.ensures.value ∙ get_or_default T c.args.table c.index_mut-there.result.now (empty_table []) within in
    roomed_kept T c.self.inside.places.items c.self.inside.row_numbers.items c.self.inside.shared c.args.table c.release.new.self c.self.invariant owned
    (ap shape_of c.release.ensures ∙ ap shape_of is) (ap (λ (t : TableValue). t.rows) c.release.ensures ∙ ap (λ (t : TableValue). t.rows) is)
