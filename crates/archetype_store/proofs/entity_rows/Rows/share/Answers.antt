use Rattle.archetype_store.proofs.Common.{◌<◌, [], length, set, sym, subst, ◌∙◌, get_or_default, TableValue, empty_table, IsAlike, RowsValue, AreAllAlike}
use Rattle.archetype_store.proofs.ColumnStandings.{alike_set}
use Rattle.archetype_store.proofs.RowsChanged.{alike_kept}
use Rattle.archetype_store.proofs.entity_rows.Rows.share.Goals as goal

pub invariant_of-self : goal.invariant_of-self
invariant_of-self c =
    let T = c.self.inside.tables.items in
    let within = subst (λ (v : RowsValue). c.args.table < length v.tables) (sym c.self.view_is) c.requires.within in
    let is = c.index_mut-there.ensures.value ∙ get_or_default T c.args.table c.index_mut-there.result.now (empty_table []) within in
    let alike = alike_set T c.args.table c.share.new.self (subst (λ (t : TableValue). IsAlike t c.share.new.self) is c.share.ensures.alike) in
    alike_kept T _ c.self.inside.places.items c.self.inside.row_numbers.items c.self.inside.shared _ alike (λ e. absurd (cc)) c.self.invariant

pub returns-clause-alike : goal.returns-clause-alike
returns-clause-alike c =
    let T = c.self.inside.tables.items in
    let within = subst (λ (v : RowsValue). c.args.table < length v.tables) (sym c.self.view_is) c.requires.within in
    let is = c.index_mut-there.ensures.value ∙ get_or_default T c.args.table c.index_mut-there.result.now (empty_table []) within in
    let alike = alike_set T c.args.table c.share.new.self (subst (λ (t : TableValue). IsAlike t c.share.new.self) is c.share.ensures.alike) in
    subst (λ (v : RowsValue). AreAllAlike v.tables (set T c.args.table c.share.new.self)) c.self.view_is alike
