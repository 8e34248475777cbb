use Rattle.std.proofs.Common.{◌∙◌}
use Rattle.trace_checker.proofs.Verdicts.{verdicts_more}
use Rattle.trace_checker.proofs.check.check_all.Goals as goal

-- what is said of the next trace stands behind what is said of those before it
pub loop-trace-preserved : goal.loop-trace-preserved
loop-trace-preserved c =
    let inv = c.loop-trace.invariant in
    record {
      schedule = c.check.ensures.schedule ∙ inv.schedule;
      said = verdicts_more c.args.built.now c.args.traces.now c.loop-trace.trace-index _ c.trace-item.result c.loop-trace.verdicts.items c.push.new.self.items c.in_ok-check.field-0 c.trace-item.is c.loop-trace-test.true inv.said c.in_ok-check.ensures.verdict c.in_ok-push.ensures.items;
    }
