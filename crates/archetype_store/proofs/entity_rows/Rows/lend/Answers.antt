use Rattle.archetype_store.proofs.Common.{◌≡◌, ◌<◌, true, [], length, set, sym, ap, subst, ◌∙◌, get_or_default, on_ok_weaker, on_err_weaker, kind_number, is_there, TableValue, empty_table, lent, RowsValue, table_at}
use Rattle.std.proofs.lemmas.List.{set-get_or}
use Rattle.archetype_store.proofs.RowsChanged.{lent_kept}
use Rattle.archetype_store.proofs.entity_rows.Rows.lend.Goals as goal

pub invariant_of-self : goal.invariant_of-self
invariant_of-self c =
    let T = c.self.inside.tables.items in
    let k = kind_number c.args.kind in
    let within = subst (λ (v : RowsValue). c.args.table < length v.tables) (sym c.self.view_is) c.requires.within in
    let peopled = subst (λ (v : RowsValue). is_there (table_at v.tables c.args.table).rows ≡ true) (sym c.self.view_is) c.requires.peopled in
    let is = c.index_mut-there.ensures.value ∙ get_or_default T c.args.table c.index_mut-there.result.now (empty_table []) within in
    lent_kept c.lend.result T (set T c.args.table c.lend.new.self) c.self.inside.places.items c.self.inside.row_numbers.items c.self.inside.shared c.args.table k within peopled
    (on_ok_weaker c.lend.result (λ h. ap (set T c.args.table) (h ∙ ap (λ (t : TableValue). lent t k) is)) c.lend.ensures.away)
    (on_err_weaker c.lend.result (λ h. ap (set T c.args.table) (h ∙ is) ∙ set-get_or T c.args.table (empty_table [])) c.lend.ensures.err) c.self.invariant
