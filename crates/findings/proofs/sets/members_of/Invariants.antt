use Rattle.std.proofs.Common.{◌≡◌, map, take}
use Rattle.findings.proofs.sets.members_of.Given as goal

-- the lists so far
abbrev pub invariant-loop-list : goal.invariant-loop-list
invariant-loop-list l = map (λ numbers. numbers.items) l.members.items ≡ take l.list-index l.lists
