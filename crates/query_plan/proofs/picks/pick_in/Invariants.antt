use Rattle.std.proofs.Common.{◌≡◌, ◌++◌, map, take}
use Rattle.kinds.specs.Kind.{kind_number}
use Rattle.query_plan.specs.Picks.{picked_in, pick_seen}
use Rattle.query_plan.proofs.picks.pick_in.Given as goal

-- the columns of the kinds so far are picked
abbrev pub invariant-loop-kind : goal.invariant-loop-kind
invariant-loop-kind l = map pick_seen l.picks.items ≡ map pick_seen l.fn.picks.items ++ picked_in l.query l.archetype (take l.kind-index (map kind_number l.kinds))
