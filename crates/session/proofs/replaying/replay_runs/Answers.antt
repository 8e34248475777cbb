use Rattle.std.proofs.Common.{map, Some, ◌∙◌, arith}
use Rattle.engine.specs.Meanings.{meanings}
use Rattle.session.proofs.Retaken.{rerun_more}
use Rattle.session.proofs.replaying.replay_runs.Goals as goal

pub loop-trace-preserved : goal.loop-trace-preserved
loop-trace-preserved g c =
    let s = c.args.built.now in
    let inv = c.loop-trace.invariant in
    record {
      replayed = rerun_more s (meanings g.B.Body.meaning s (map Some c.args.bodies.now)) (meanings g.B.Body.meaning s (map Some c.loop-trace.bodies)) c.args.state c.loop-trace.state _ c.args.traces.now c.loop-trace.trace-index c.trace-item.result
          c.loop-trace-test.true c.trace-item.is inv.meant inv.replayed c.in-Ok.ensures.replayed;
      suits = c.in-Ok.ensures.suits;
      meant = c.replay_by.ensures.meanings ∙ inv.meant;
      same = c.replay_by.ensures.schedule ∙ inv.same;
      count = omega arith;
    }
