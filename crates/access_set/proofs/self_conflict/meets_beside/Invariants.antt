-- It meets none of the others so far.
use Rattle.std.proofs.Common.{ℕ, true, ◌<◌, ◌≡◌, ◌≢◌, get_or}
use Rattle.access_set.specs.Footprints.{footprints_meet, no_kinds}
use Rattle.access_set.proofs.self_conflict.meets_beside.Given as goal

abbrev pub invariant-loop-other : goal.invariant-loop-other
invariant-loop-other l = (m : ℕ) → m < l.other → l.number ≢ m → footprints_meet (get_or l.footprints l.number no_kinds) (get_or l.footprints m no_kinds) ≡ true → ⊥
