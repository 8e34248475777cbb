use Rattle.lints.specs.Collected.{Adds, Among}
use Rattle.lints.specs.Lints.{IsOfRegister}
use Rattle.lints.proofs.system.add_of_registers.Given as goal

-- what is found of the numbers so far is added
abbrev pub invariant-loop-register : goal.invariant-loop-register
invariant-loop-register l = Adds (Among l.register (IsOfRegister l.blocks l.system)) l.initial.found.items l.found.items
