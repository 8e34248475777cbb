use Rattle.std.proofs.Common.{◌≡◌, ◌++◌, true, drop}
use Rattle.query_plan.specs.Candidates.{numbers_where}
use Rattle.query_plan.proofs.plan.all_archetypes.Given as goal

-- the numbers so far, and those from here on
abbrev pub invariant-loop-archetype : goal.invariant-loop-archetype
invariant-loop-archetype l = l.archetypes.items ++ numbers_where (λ kinds. true) l.archetype (drop l.archetype l.world.layout) ≡ numbers_where (λ kinds. true) 0 l.world.layout
