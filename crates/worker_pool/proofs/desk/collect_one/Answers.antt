use Rattle.std.proofs.Common.{◌++◌, ◌∙◌}
use Rattle.job_board.specs.Ends.{lead_view}
use Rattle.job_board.proofs.Contents.{reads_then}
use Rattle.job_board.proofs.Leads.{collected_after}
use Rattle.worker_pool.proofs.desk.collect_one.Goals as goal

pub loop-preserved : goal.loop-preserved
loop-preserved g c = let old = c.loop.invariant in let new = c.in_default.ensures.collected in
    ((old.0.0 ++ new.0, reads_then _ (lead_view c.loop.lead) (lead_view c.try_collect.new.self) old.0.0 new.0 old.0.1 new.1), c.in_default.ensures.slots ∙ old.1)

pub returns-in-Some-clause-collected : goal.returns-in-Some-clause-collected
returns-in-Some-clause-collected g c = let old = c.loop.invariant in let t = c.in-Some.ensures.collected in
    let it = collected_after g.T.Task.answers (lead_view c.args.lead.now) (lead_view c.loop.lead) (lead_view c.try_collect.new.self) old.0.0 t.0 c.in-Some.collected.0 t.1 c.in-Some.collected.1 old.0.1 (t.2, t.3, t.4) in
    (old.0.0 ++ t.0, t.1, it.0, it.1, it.2)
