use Rattle.std.proofs.Common.{◌≡◌, length}
use Rattle.system_set.proofs.members.places_by_set.Given as goal

-- there is a list for each item so far
abbrev pub invariant-loop : goal.invariant-loop
invariant-loop l = length l.lists.items ≡ l.counter

-- and for all items
abbrev pub invariant-loop-place : goal.invariant-loop-place
invariant-loop-place l = length l.lists.items ≡ l.fn.items
