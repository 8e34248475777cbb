use Rattle.archetype_store.proofs.Common.{map, sym, ap, subst, ◌∙◌, owned, layout_of, AreAllHome, RowsValue, AreHome, AreAllAlike}
use Rattle.archetype_store.proofs.ColumnStandings.{home_tables}
use Rattle.archetype_store.proofs.TableCopies.{copied_alike, copied_kept}
use Rattle.archetype_store.proofs.entity_rows.Rows.copy.Goals as goal

pub copied_tables-requires : goal.copied_tables-requires
copied_tables-requires c =
    subst AreHome (sym c.deref.ensures.value) (home_tables c.self.inside.tables.items c.self.invariant.stored.empty (subst (λ (v : RowsValue). AreAllHome (layout_of v.tables)) (sym c.self.view_is) c.requires))

pub invariant_of-result : goal.invariant_of-result
invariant_of-result c =
    let home = home_tables c.self.inside.tables.items c.self.invariant.stored.empty (subst (λ (v : RowsValue). AreAllHome (layout_of v.tables)) (sym c.self.view_is) c.requires) in
    let tables = c.in_ok-tables.ensures ∙ ap (map owned) c.deref.ensures.value in
    let places = c.in_ok-places.ensures.items ∙ c.as_slice.ensures.value in
    let numbers = c.in_ok-row_numbers.ensures.items ∙ c.as_slice-2.ensures.value in
    copied_kept c.self.inside.tables.items _ c.self.inside.places.items _ tables places home c.self.inside.row_numbers.items _ numbers c.self.inside.shared c.self.invariant

pub returns-clause-alike : goal.returns-clause-alike
returns-clause-alike c =
    let home = home_tables c.self.inside.tables.items c.self.invariant.stored.empty (subst (λ (v : RowsValue). AreAllHome (layout_of v.tables)) (sym c.self.view_is) c.requires) in
    let tables = c.in_ok-tables.ensures ∙ ap (map owned) c.deref.ensures.value in
    let places = c.in_ok-places.ensures.items ∙ c.as_slice.ensures.value in
    let alike = copied_alike c.self.inside.tables.items c.in_ok-tables.tables.items c.self.inside.places.items c.in_ok-places.places.items tables places home in
    subst (λ (v : RowsValue). AreAllAlike v.tables c.in_ok-tables.tables.items) c.self.view_is alike
