use Rattle.archetype_store.proofs.Common.{map, ap, ◌∙◌, kind_number, stamped_number}
use Rattle.archetype_store.proofs.KindOrder.{made_is}
use Rattle.archetype_store.proofs.tables.made_for.Goals as goal

pub returns : goal.returns
returns c =
    made_is c.in_ok-table.table c.deref.result.now (map stamped_number c.args.components.now)
    (ap (map kind_number) c.deref.ensures.value ∙ c.in_ok-kinds.ensures) c.requires c.in_ok-table.ensures
