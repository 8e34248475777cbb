use Rattle.std.proofs.Common.{◌≡◌, map, take, Some}
use Rattle.engine.specs.Meanings.{Suits}
use Rattle.program.specs.Replayed.{AreReplayed}
use Rattle.program.specs.Setup.{meanings_of_scripts, script_suits}
use Rattle.program.proofs.replaying.replay_runs.Given as goal

-- the runs so far are replayed, by bodies that mean what they meant
abbrev pub invariant-loop-trace : goal.invariant-loop-trace
invariant-loop-trace l = record {
  schedule : l.checker ≡ l.built;
  replayed : AreReplayed l.built (meanings_of_scripts l.built l.fn.bodies) l.fn.state (take l.trace-index l.traces) l.state;
  suits : Suits script_suits l.built (map Some l.bodies) l.state;
  meant : meanings_of_scripts l.built l.bodies ≡ meanings_of_scripts l.built l.fn.bodies;
  count : l.number ≡ l.trace-index;
}
