use Rattle.std.proofs.Common.{◌≡◌}
use Rattle.engine.specs.Meanings.{HasMemories}
use Rattle.program.specs.Setup.{meanings_of_scripts}
use Rattle.findings.specs.Behind.{IsBehind}
use Rattle.findings.proofs.behind.state_behind.Given as goal

-- the state is behind the runs so far, and the scripts mean what they meant
abbrev pub invariant-loop-before : goal.invariant-loop-before
invariant-loop-before l = record {
  behind : IsBehind l.built (meanings_of_scripts l.built l.fn.bodies) l.fn.first l.before l.state;
  memories : HasMemories l.built l.state;
  meanings : meanings_of_scripts l.built l.bodies ≡ meanings_of_scripts l.built l.fn.bodies;
}
