use Rattle.archetype_store.proofs.Common.{rules}
use Rattle.archetype_store.specs.declared.change.Fate.TheVariants as the
use Rattle.archetype_store.proofs.OneChange.{can_change}
use Rattle.archetype_store.proofs.store.World.despawn.Goals as goal

pub change_one-requires-clause-can : goal.change_one-requires-clause-can
change_one-requires-clause-can c = can_change c.args.self.now.state c.args.e (search rules) the.Dies tt tt
