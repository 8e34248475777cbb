use Rattle.std.proofs.Common.{ℕ, ◌≡◌, true, take}
use Rattle.model.specs.Lists.{IsIn}
use Rattle.system_set.specs.Edges.{has_member}
use Rattle.system_set.proofs.edges.is_led_to.Given as goal

-- none so far has the system as its member
abbrev pub invariant-loop-second : goal.invariant-loop-second
invariant-loop-second l = (k : ℕ) → IsIn k (take l.second-index l.seconds) → has_member l.sets l.rows k l.system ≡ true → ⊥
