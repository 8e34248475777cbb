use Rattle.std.proofs.Common.{inl, inr}
use Rattle.ecsview.proofs.Traces.{none_says, replayed_as}
use Rattle.ecsview.proofs.traced.accepted_with.Goals as goal

-- the file is accepted, and so is its trace
pub returns-in-None-clause-answered : goal.returns-in-None-clause-answered
returns-in-None-clause-answered g c =
    inr (
      c.if-not-asking.false,
      inl (record {
        file = c.in_ok-shown.shown;
        told = c.in_ok-shown.ensures;
        replayed = replayed_as c.args.loaded c.as_slice.result.now (g.T.Read.remaining c.args.trace.now) c.as_slice.ensures.value (none_says c.judge_trace-bytes.result.fault c.in-None.is c.judge_trace-bytes.ensures.replayed);
        line = c.in_ok-with_line-in-None.ensures;
      }),
    )
