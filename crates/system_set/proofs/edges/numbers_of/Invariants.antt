use Rattle.std.proofs.Common.{ℕ, ◌<◌, ◌≡◌, ◌↔◌, true}
use Rattle.model.specs.Lists.{IsIn}
use Rattle.system_set.specs.Pairs.{is_marked}
use Rattle.system_set.proofs.edges.numbers_of.Given as goal

abbrev pub invariant-loop-item : goal.invariant-loop-item
invariant-loop-item l = (n : ℕ) → IsIn n l.numbers.items ↔ ((n < l.item) × (is_marked l.marks n ≡ true))
