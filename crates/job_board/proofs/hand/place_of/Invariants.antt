use Rattle.std.proofs.Common.{◌≢◌, ℕ, ◌<◌}
use mathlib.Core.Option.{some}
use lib.ListN.{get_elem?}
use Rattle.job_board.proofs.hand.place_of.Given as goal

abbrev pub invariant-loop-place : goal.invariant-loop-place
invariant-loop-place l = (at k : ℕ) → at < l.place → get_elem? l.held.items at ≢ some (l.number, k)
