use Rattle.std.proofs.Common.{◌∙◌, ◌++◌}
use Rattle.job_board.specs.Ends.{lead_view}
use Rattle.job_board.proofs.Contents.{reads_then}
use Rattle.job_board.proofs.Leads.{collected_after}
use Rattle.job_board.proofs.lead.Lead.collect_wait.Goals as goal

pub loop-preserved : goal.loop-preserved
loop-preserved g c = let old = c.loop.invariant in let new = c.in_default.ensures.collected in (
  (old.0.0 ++ new.0, reads_then _ (lead_view c.loop.self) (lead_view c.try_collect.new.self) old.0.0 new.0 old.0.1 new.1),
  c.in_default.ensures.slots ∙ old.1,
)

pub returns-in-Some-try_collect-clause-collected : goal.returns-in-Some-try_collect-clause-collected
returns-in-Some-try_collect-clause-collected g c = let old = c.loop.invariant in let t = c.in-Some-try_collect.ensures.collected in
    let it = collected_after g.T.Task.answers (lead_view c.args.self.now) (lead_view c.loop.self) (lead_view c.try_collect.new.self) old.0.0 t.0 c.in-Some-try_collect.collected.0 t.1 c.in-Some-try_collect.collected.1 old.0.1 (t.2, t.3, t.4) in
    (old.0.0 ++ t.0, t.1, it.0, it.1, it.2)
