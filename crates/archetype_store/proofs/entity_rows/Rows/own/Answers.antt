use Rattle.archetype_store.proofs.Common.{false, rules, sym, subst, layout_of, AreAllHome, RowsValue, AreOwned}
use Rattle.archetype_store.proofs.ColumnStandings.{alike_self, home_tables, owned_are_unshared, unshared_are_owned}
use Rattle.archetype_store.proofs.RowsChanged.{alike_kept}
use Rattle.archetype_store.proofs.entity_rows.Rows.own.Goals as goal

pub own_tables-requires : goal.own_tables-requires
own_tables-requires c =
    home_tables c.self.inside.tables.items c.self.invariant.stored.empty (subst (λ (v : RowsValue). AreAllHome (layout_of v.tables)) (sym c.self.view_is) c.requires)

pub returns-then-not-self-clause-ok : goal.returns-then-not-self-clause-ok
returns-then-not-self-clause-ok c =
    let home = home_tables c.self.inside.tables.items c.self.invariant.stored.empty (subst (λ (v : RowsValue). AreAllHome (layout_of v.tables)) (sym c.self.view_is) c.requires) in
    subst (λ (v : RowsValue). AreOwned v.tables) c.self.view_is (unshared_are_owned c.self.inside.tables.items home (c.self.invariant.stored.unshared (search rules)))

pub returns-then-not-self-clause-alike : goal.returns-then-not-self-clause-alike
returns-then-not-self-clause-alike c = alike_self c.args.self.now.tables

pub invariant_of-self : goal.invariant_of-self
invariant_of-self c =
    alike_kept c.self.inside.tables.items c.own_tables.new.tables.items c.self.inside.places.items c.self.inside.row_numbers.items c.self.inside.shared c.self.inside.shared c.own_tables.ensures.alike
    (λ none. let is_shared = c.if-not-self.false in absurd (search rules)) c.self.invariant

pub invariant_of-self-2 : goal.invariant_of-self-2
invariant_of-self-2 c =
    alike_kept c.self.inside.tables.items c.own_tables.new.tables.items c.self.inside.places.items c.self.inside.row_numbers.items c.self.inside.shared false c.own_tables.ensures.alike (λ _. owned_are_unshared c.own_tables.new.tables.items c.in_ok-own_tables.ensures.ok) c.self.invariant
