use Rattle.std.proofs.Common.{ℕ, ◌<◌, ◌/◌, false, ◌≡◌}
use Rattle.number_set.specs.Members.{contains}
use Rattle.number_set.proofs.number_set.are_empty.Given as goal

abbrev pub invariant-loop-index : goal.invariant-loop-index
invariant-loop-index l = (n : ℕ) → n / 64 < l.index → contains l.words n ≡ false
