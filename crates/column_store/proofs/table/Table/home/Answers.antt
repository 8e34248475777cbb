use Rattle.column_store.proofs.Common.{◌≡◌, None, Some, length, refl, map, set, sym, ap, subst, ◌∙◌, kind_number, owned_slot, table_of, IsKindPlace, TableValue, homed, standing_of, Away, IsTable}
use Rattle.column_store.proofs.ColumnRows.{length-rows_of}
use Rattle.column_store.proofs.Lists.{set-changed}
use Rattle.column_store.proofs.Roomy.{no_spare}
use Rattle.column_store.proofs.table.Table.home.Goals as goal

pub unreachable-requires : goal.unreachable-requires
unreachable-requires c =
    let ns = map kind_number c.self.inside.columns.kinds.items in
    let es = c.self.inside.entities.list in
    let ps = c.self.inside.columns.slots.items in
    let none : standing_of (table_of ns es ps) c.args.column.kind ≡ None = (rw c.kind.ensures at c.in_default.ensures).standing es ps in
    let away : standing_of (table_of ns es ps) c.args.column.kind ≡ Some Away = subst (λ (t : TableValue). standing_of t c.args.column.kind ≡ Some Away) (sym c.self.view_is) c.requires.away in
    cc (none, away)

pub invariant_of-self : goal.invariant_of-self
invariant_of-self c =
    let ns = map kind_number c.self.inside.columns.kinds.items in
    let es = c.self.inside.entities.list in
    let ps = c.self.inside.columns.slots.items in
    let at : IsKindPlace ns es ps c.args.column.kind c.in-Some.place = (rw c.kind.ensures at c.in-Some.ensures) es ps c.self.invariant.kept.table in
    let many = c.requires.same_length ∙ sym (ap (λ (t : TableValue). length t.rows) c.self.view_is) ∙ length-rows_of es ps in
    let is = set-changed (λ _. owned_slot c.args.column) ps c.in-Some.place (owned_slot c.args.column) c.of.result at.within c.of.ensures in
    no_spare ns c.self.inside.entities (set ps c.in-Some.place c.of.result) (subst (IsTable ns es) (sym is) (at.homes_table c.args.column refl many))

pub returns : goal.returns
returns c =
    let ns = map kind_number c.self.inside.columns.kinds.items in
    let es = c.self.inside.entities.list in
    let ps = c.self.inside.columns.slots.items in
    let at : IsKindPlace ns es ps c.args.column.kind c.in-Some.place = (rw c.kind.ensures at c.in-Some.ensures) es ps c.self.invariant.kept.table in
    let many = c.requires.same_length ∙ sym (ap (λ (t : TableValue). length t.rows) c.self.view_is) ∙ length-rows_of es ps in
    let is = set-changed (λ _. owned_slot c.args.column) ps c.in-Some.place (owned_slot c.args.column) c.of.result at.within c.of.ensures in
    ap (table_of ns es) is ∙ at.homes c.args.column refl many ∙ ap (λ (t : TableValue). homed t c.args.column) c.self.view_is
