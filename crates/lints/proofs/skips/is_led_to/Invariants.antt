use Rattle.std.proofs.Common.{ℕ, ◌<◌, ◌≡◌, false}
use Rattle.lints.specs.Skips.{leads_to}
use Rattle.lints.proofs.skips.is_led_to.Given as goal

-- none of those so far leads there
abbrev pub invariant-loop-from : goal.invariant-loop-from
invariant-loop-from l = (n : ℕ) → n < l.from → leads_to l.code n l.place ≡ false
