use Rattle.std.proofs.Common.{◌≡◌, map, take, reverse, Some, string_bytes}
use Rattle.engine.specs.Deferred.{run_with}
use Rattle.engine.specs.Meanings.{meanings}
use Rattle.model.specs.runs.Meaning.{serial}
use Rattle.findings.specs.Worlds.{worlds_text}
use Rattle.trace_checker.specs.Standing.{StandsBetween}
use Rattle.findings.proofs.worlds.worlds_in.Given as goal

-- the steps so far are taken, and their worlds are told; the bodies mean what they meant and suit the state, no column is away, and what systems have
-- deferred is for the schedule, with its ids in hand
abbrev pub invariant-loop-step : goal.invariant-loop-step
invariant-loop-step g l = record {
  count : l.number ≡ l.step-index;
  meaning : serial l.built (meanings g.B.Body.meaning l.built (map Some l.fn.bodies)) l.fn.first.state.state (reverse (take l.step-index l.steps)) ≡ Some (run_with l.run.state.state l.run.deferred);
  told : string_bytes l.text ≡ worlds_text l.built (meanings g.B.Body.meaning l.built (map Some l.fn.bodies)) l.fn.first.state.state l.before (reverse (take l.step-index l.steps));
  stands : StandsBetween g.B.Body.fits l.built (map Some l.bodies) l.run.deferred l.run.state;
  meant : meanings g.B.Body.meaning l.built (map Some l.bodies) ≡ meanings g.B.Body.meaning l.built (map Some l.fn.bodies);
}
