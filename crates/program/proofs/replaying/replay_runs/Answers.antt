use Rattle.std.proofs.Common.{◌≡◌, ◌+◌, sym, ◌∙◌, subst, arith}
use Rattle.program.specs.Replayed.{IsRefusedAmong, IsRefusedRun}
use Rattle.program.specs.Setup.{meanings_of_scripts}
use Rattle.program.proofs.Replays.{refused-next, refused_as, replayed-more, stops_so}
use Rattle.program.proofs.replaying.replay_runs.Goals as goal

-- the run of the next trace
pub loop-trace-preserved : goal.loop-trace-preserved
loop-trace-preserved c =
    let s = c.args.built.now in
    let inv = c.loop-trace.invariant in
    record {
      schedule = c.replay_by.ensures.schedule ∙ inv.schedule;
      replayed = replayed-more s (meanings_of_scripts s c.args.bodies.now) (meanings_of_scripts s c.loop-trace.bodies) c.args.state c.loop-trace.state _ c.args.traces.now c.loop-trace.trace-index c.trace-item.result
          c.loop-trace-test.true c.trace-item.is inv.meant inv.replayed c.in-Ok.ensures.replayed;
      suits = c.in-Ok.ensures.suits;
      meant = c.replay_by.ensures.meanings ∙ inv.meant;
      count = omega arith;
    }

pub fault_of_replay-requires : goal.fault_of_replay-requires
fault_of_replay-requires c =
    let s = c.args.built.now in
    stops_so s (meanings_of_scripts s c.loop-trace.bodies) c.loop-trace.state c.trace-item.result c.in-Err.fault c.in-Err.ensures.replayed

-- the run that is refused
pub returns-in-Err-clause-refused : goal.returns-in-Err-clause-refused
returns-in-Err-clause-refused c =
    let s = c.args.built.now in
    let inv = c.loop-trace.invariant in
    let bodies = meanings_of_scripts s c.args.bodies.now in
    let others = meanings_of_scripts s c.loop-trace.bodies in
    let run = c.trace-item.result in
    let is = c.in-Err.ensures.replayed in
    let number = c.loop-trace.number + 1 in
    let refused : IsRefusedRun s others c.loop-trace.state run number c.fault_of_replay.result
    = subst (IsRefusedRun s others c.loop-trace.state run number) (sym c.fault_of_replay.ensures)
    (refused_as s others c.loop-trace.state run number c.in-Err.fault (stops_so s others c.loop-trace.state run c.in-Err.fault is) is) in
    refused-next s bodies others c.args.state c.loop-trace.state c.args.traces.now c.loop-trace.trace-index number run c.fault_of_replay.result
    c.loop-trace-test.true c.trace-item.is inv.meant (omega arith) inv.replayed refused
