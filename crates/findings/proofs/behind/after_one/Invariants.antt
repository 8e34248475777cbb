use Rattle.std.proofs.Common.{◌≡◌}
use Rattle.program.specs.Setup.{meanings_of_scripts}
use Rattle.findings.proofs.behind.after_one.Given as goal

-- the scripts mean what they meant
abbrev pub invariant-loop : goal.invariant-loop
invariant-loop l = meanings_of_scripts l.built l.bodies ≡ meanings_of_scripts l.built l.fn.bodies
