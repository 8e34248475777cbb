use Rattle.std.proofs.Common.{◌≡◌, ◌++◌, map, take}
use Rattle.findings.specs.Sets.{held_by}
use Rattle.findings.proofs.sets.put_in.Given as goal

-- the item is in the sets of the names so far
abbrev pub invariant-loop-name : goal.invariant-loop-name
invariant-loop-name l = l.hierarchy ≡ record l.fn.hierarchy { inside = l.fn.hierarchy.inside ++ held_by l.sets l.item (map (λ name. name.now) (take l.name-index l.names)) }
