use Rattle.std.proofs.Common.{◌≡◌, ◌++◌, map, drop}
use Rattle.query_plan.specs.Candidates.{picked_at}
use Rattle.query_plan.specs.Picks.{pick_seen}
use Rattle.query_plan.proofs.picks.picks_in.Given as goal

-- the columns so far are picked, and those of the archetypes from here on are to come
abbrev pub invariant-loop-archetype : goal.invariant-loop-archetype
invariant-loop-archetype l = map pick_seen l.picks.items ++ picked_at l.query l.world.layout (drop l.archetype-index l.archetypes) ≡ picked_at l.query l.world.layout l.archetypes
