use Rattle.std.proofs.Common.{◌≡◌, map, take, Some}
use Rattle.engine.specs.Meanings.{HasMemories, Suits}
use Rattle.program.specs.Replayed.{AreReplayed}
use Rattle.program.specs.Setup.{meanings_of_scripts, script_suits}
use Rattle.findings.specs.Parting.{IsRunTo}
use Rattle.findings.proofs.Partings.{IsSoFar}
use Rattle.findings.proofs.diverging.parting_of.Given as goal

-- the runs so far are replayed, the scripts suit both states and mean what they meant, and what is told is so
abbrev pub invariant-loop-run : goal.invariant-loop-run
invariant-loop-run l = record {
  suits : Suits script_suits l.built (map Some l.bodies) l.left;
  beside : HasMemories l.built l.beside;
  meant : meanings_of_scripts l.built l.bodies ≡ meanings_of_scripts l.built l.fn.bodies;
  ran : AreReplayed l.built (meanings_of_scripts l.built l.fn.bodies) l.fn.first (take l.run l.one) l.left;
  ran_beside : AreReplayed l.built (meanings_of_scripts l.built l.fn.bodies) l.fn.second (take l.run l.other) l.beside;
  told : IsSoFar (IsRunTo l.built (meanings_of_scripts l.built l.fn.bodies)) (IsRunTo l.built (meanings_of_scripts l.built l.fn.bodies)) (λ state. state) l.fn.first l.fn.second l.one l.other l.run l.left l.beside l.told;
}
