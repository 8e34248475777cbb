use Rattle.archetype_store.proofs.Common.{sym, subst, RowsValue, AreOwned}
use Rattle.archetype_store.proofs.RowsChanged.{grown_kept}
use Rattle.archetype_store.proofs.entity_rows.Rows.table_for.Goals as goal

pub invariant_of-self : goal.invariant_of-self
invariant_of-self c =
    let T = c.self.inside.tables.items in
    let owned = subst (λ (v : RowsValue). AreOwned v.tables) (sym c.self.view_is) c.requires.owned in
    grown_kept T c.table_for.new.tables.items c.self.inside.places.items c.self.inside.row_numbers.items c.self.inside.shared c.table_for.ensures.grown owned c.self.invariant
