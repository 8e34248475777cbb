use Rattle.archetype_store.proofs.Common.{◌≡◌, [], take}
use Rattle.archetype_store.proofs.SortedSets.{numbers_added}
use Rattle.archetype_store.proofs.kind_sets.sets_of.Given as goal

-- the numbers so far are added
abbrev pub invariant-loop-number : goal.invariant-loop-number
invariant-loop-number l = l.sets ≡ numbers_added (take l.number-index l.number-items) []
