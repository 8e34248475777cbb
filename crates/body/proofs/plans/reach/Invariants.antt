use Rattle.std.proofs.Common.{◌+◌, ◌-◌, List, length}
use Rattle.std.specs.List.{AllByRecursion}
use Rattle.archetype_store.specs.Layout.{Archetype}
use Rattle.body.specs.KeptPlans.{AreOver}
use Rattle.body.proofs.plans.reach.Given as goal

-- those that are there stay
abbrev pub invariant-loop-alloc : goal.invariant-loop-alloc
invariant-loop-alloc l = (forms : List Archetype) → AllByRecursion (λ plans. AreOver forms plans.items) l.fn.systems.items → AllByRecursion (λ plans. AreOver forms plans.items) l.systems.items

abbrev pub decreases-loop-alloc : goal.decreases-loop-alloc
decreases-loop-alloc l = l.system + 1 - length l.systems.items
