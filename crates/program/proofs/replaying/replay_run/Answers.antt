use Rattle.std.proofs.Common.{subst, sym}
use Rattle.program.specs.Replayed.{IsRefusedRun}
use Rattle.program.specs.Setup.{meanings_of_scripts}
use Rattle.program.proofs.Replays.{refused_as, stops_so}
use Rattle.program.proofs.replaying.replay_run.Goals as goal

pub fault_of_replay-requires : goal.fault_of_replay-requires
fault_of_replay-requires c = stops_so c.args.built.now (meanings_of_scripts c.args.built.now c.args.bodies.now) c.args.state c.args.trace.now c.in-Err.fault c.in-Err.ensures.replayed

pub returns-in-Err-clause-refused : goal.returns-in-Err-clause-refused
returns-in-Err-clause-refused c =
    let s = c.args.built.now in
    let meant = meanings_of_scripts s c.args.bodies.now in
    let is = c.in-Err.ensures.replayed in
    subst (IsRefusedRun s meant c.args.state c.args.trace.now c.args.run) (sym c.fault_of_replay.ensures)
    (refused_as s meant c.args.state c.args.trace.now c.args.run c.in-Err.fault (stops_so s meant c.args.state c.args.trace.now c.in-Err.fault is) is)
