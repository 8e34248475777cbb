use Rattle.lints.specs.Collected.{Adds, Among}
use Rattle.lints.specs.Lints.{IsOfInstruction}
use Rattle.lints.proofs.blocks.add_of_code.Given as goal

-- what is found of the numbers so far is added
abbrev pub invariant-loop-place : goal.invariant-loop-place
invariant-loop-place l = Adds (Among l.place (IsOfInstruction l.code l.at.system l.at.block)) l.initial.found.items l.found.items
