use Rattle.std.proofs.Common.{◌≡◌, ℕ, List}
use Rattle.job_board.specs.Ends.{lead_view, lead_slots}
use Rattle.job_board.specs.Views.{having_read}
use Rattle.worker_pool.proofs.desk.collect_one.Given as goal

abbrev pub invariant-loop : goal.invariant-loop
invariant-loop g l = ((gained : List (ℕ × ℕ)) × (lead_view l.lead ≡ having_read (lead_view l.fn.lead) gained)) × (lead_slots l.lead ≡ lead_slots l.fn.lead)
