use Rattle.column_store.proofs.Common.{◌≡◌, true, map, sym, ap, subst, ◌∙◌, list_all, kind_number, TableValue, is_home, owned}
use Rattle.column_store.proofs.Copied.{copied_table, copied_value}
use Rattle.column_store.proofs.Edited.{all_home}
use Rattle.column_store.proofs.Roomy.{no_spare}
use Rattle.column_store.proofs.table.Table.copy.Goals as goal

pub copy-requires : goal.copy-requires
copy-requires c = all_home c.self.inside.columns.slots.items (subst (λ (t : TableValue). list_all is_home t.standings ≡ true) (sym c.self.view_is) c.requires)

pub invariant_of-result : goal.invariant_of-result
invariant_of-result c =
    let columns = c.self.inside.columns in
    no_spare _ _ _
    (copied_table (map kind_number columns.kinds.items) _ c.self.inside.entities.list _ columns.slots.items _ (ap (map kind_number) c.in_ok-columns.ensures.kinds) c.in_ok-entities.ensures
    c.in_ok-columns.ensures.slots c.self.invariant.kept.table)

pub returns : goal.returns
returns c =
    let columns = c.self.inside.columns in
    copied_value (map kind_number columns.kinds.items) _ c.self.inside.entities.list _ columns.slots.items _ (ap (map kind_number) c.in_ok-columns.ensures.kinds) c.in_ok-entities.ensures
    c.in_ok-columns.ensures.slots
    ∙ ap owned c.self.view_is
