use Rattle.std.proofs.Common.{ℕ, ◌≡◌, List}
use Rattle.job_board.specs.Views.{having_read}
use Rattle.job_board.specs.Ends.{lead_view, lead_slots}
use Rattle.job_board.proofs.lead.Lead.collect_wait.Given as goal

abbrev pub invariant-loop : goal.invariant-loop
invariant-loop g l = ((gained : List (ℕ × ℕ)) × (lead_view l.self ≡ having_read (lead_view l.fn.self) gained)) × (lead_slots l.self ≡ lead_slots l.fn.self)
