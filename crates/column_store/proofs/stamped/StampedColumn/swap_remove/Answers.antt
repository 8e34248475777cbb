use Rattle.column_store.proofs.StampedEdits.{removed-view, removed-lengths, words-within}
use Rattle.column_store.proofs.stamped.StampedColumn.swap_remove.Goals as goal

pub swap_remove-requires : goal.swap_remove-requires
swap_remove-requires c = words-within c.self.inside.column c.self.inside.stamps.items c.args.self.now _ c.args.place c.self.invariant c.self.view_is c.requires

pub invariant_of-self : goal.invariant_of-self
invariant_of-self c =
    removed-lengths c.self.inside.column c.swap_remove.new.self c.self.inside.stamps.items c.swap_remove-2.new.self.items c.args.self.now _ c.args.place _ c.self.invariant c.self.view_is c.requires
    c.swap_remove.ensures c.swap_remove-2.ensures.items

pub returns : goal.returns
returns c =
    removed-view c.self.inside.column c.swap_remove.new.self c.self.inside.stamps.items c.swap_remove-2.new.self.items c.args.self.now _ _ c.args.place _ c.self.invariant c.self.view_is c.requires
    c.swap_remove.ensures c.swap_remove-2.ensures.items c.swap_remove-2.ensures.capacity
