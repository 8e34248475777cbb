-- The text of a run is written behind that of those before it.
use Rattle.std.proofs.Common.{arith, length, ap}
use Rattle.trace_checker.proofs.Writing.{text_more, text_too_long}
use Rattle.trace_checker.proofs.write.text_of_traces.Goals as goal

pub returns-then-as_bytes-limit-clause-long : goal.returns-then-as_bytes-limit-clause-long
returns-then-as_bytes-limit-clause-long c told =
    text_too_long c.args.traces.now c.loop-trace.trace-index _ c.trace-item.result _ _ _ _ _ c.trace-item.is c.loop-trace-test.true c.loop-trace.invariant.count c.loop-trace.invariant.written c.in_ok-push_run.ensures
    (ap length c.as_bytes.ensures.value) c.if-as_bytes-limit.true

pub loop-trace-preserved : goal.loop-trace-preserved
loop-trace-preserved c = record {
  count = omega (arith, c.loop-trace.invariant.count);
  written = text_more c.args.traces.now c.loop-trace.trace-index _ c.trace-item.result _ _ _ c.trace-item.is c.loop-trace-test.true c.loop-trace.invariant.count c.loop-trace.invariant.written c.in_ok-push_run.ensures;
  within = omega (arith, ap length c.as_bytes.ensures.value, c.if-as_bytes-limit.false);
}
