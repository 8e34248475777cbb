use Rattle.archetype_store.proofs.Common.{◌<◌, [], length, sym, subst, ◌∙◌, get_or_default, kind_number, IsHome, RowsValue, TableValue, empty_table, standing_of, table_at}
use Rattle.archetype_store.proofs.TableCells.{home_not_away}
use Rattle.archetype_store.proofs.entity_rows.Rows.column.Goals as goal

pub column-requires : goal.column-requires
column-requires c =
    let within = subst (λ (v : RowsValue). c.args.table < length v.tables) (sym c.self.view_is) c.requires.within in
    let is = c.index-there.ensures ∙ get_or_default c.self.inside.tables.items c.args.table c.index-there.result.now (empty_table []) within in
    let home = subst (λ (v : RowsValue). IsHome (standing_of (table_at v.tables c.args.table) (kind_number c.args.kind))) (sym c.self.view_is) c.requires.home in
    home_not_away (standing_of c.index-there.result.now (kind_number c.args.kind)) (subst (λ (t : TableValue). IsHome (standing_of t (kind_number c.args.kind))) (sym is) home)
