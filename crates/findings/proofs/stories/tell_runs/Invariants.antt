use Rattle.std.proofs.Common.{◌≡◌, ◌+◌, ℕ, List, map, drop, take, length, Some, string_bytes}
use Rattle.engine.specs.Meanings.{Suits}
use Rattle.program.specs.Replayed.{AreReplayed}
use Rattle.program.specs.Setup.{meanings_of_scripts, script_suits}
use Rattle.findings.specs.Stories.{IsStory}
use Rattle.findings.proofs.stories.tell_runs.Given as goal

-- the runs so far are replayed, and those that are left, told behind them, make the story of all
abbrev pub invariant-loop-trace : goal.invariant-loop-trace
invariant-loop-trace l = record {
  count : l.before ≡ l.fn.begun.runs + l.trace-index;
  suits : Suits script_suits l.built (map Some l.bodies) l.state;
  meant : meanings_of_scripts l.built l.bodies ≡ meanings_of_scripts l.built l.fn.bodies;
  ran : AreReplayed l.built (meanings_of_scripts l.built l.fn.bodies) l.fn.first (take l.trace-index l.traces) l.state;
  rest : (whole : List ℕ) → IsStory l.built (meanings_of_scripts l.built l.fn.bodies) l.fn.begun.asked l.before l.state (drop l.trace-index l.traces) (string_bytes l.text) whole
      → IsStory l.built (meanings_of_scripts l.built l.fn.bodies) l.fn.begun.asked l.fn.begun.runs l.fn.first l.traces (string_bytes l.fn.begun.text) whole;
}
