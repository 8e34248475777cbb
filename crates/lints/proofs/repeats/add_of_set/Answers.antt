use Rattle.program_file.specs.declared.program_file.ItemTable.{ItemTable}
use Rattle.lints.specs.Repeats.{IsOfItem, IsOfSetItem}
use Rattle.lints.specs.declared.lint.Holder.TheVariants.{Set}
use Rattle.lints.proofs.Growing.{adds_at}
use Rattle.lints.proofs.repeats.add_of_set.Goals as goal

pub returns : goal.returns
unfolding IsOfSetItem
returns c = adds_at (λ (item : ItemTable). IsOfItem item (Set c.args.number)) c.args.sets.now c.args.number c.index-sets-number.result _ _ c.requires c.index-sets-number.is c.in_ok-add_of_item.ensures
