use Rattle.std.proofs.Common.{◌≡◌, [], map}
use Rattle.program.specs.Said.{item_said, system_said}
use Rattle.program.specs.Setup.{declared_names}
use Rattle.program.proofs.schedule.declare.Given as goal

-- what the tables so far say: the systems that they declare, and a code for each, with its name and its blocks
abbrev pub invariant-loop-row : goal.invariant-loop-row
invariant-loop-row l = record {
  said : l.desc ≡ record { sets = map item_said l.fn.sets.items; systems = map system_said l.yielded; chains = [] };
  blocks : map (λ code. code.blocks) l.codes.items ≡ map (λ row. row.blocks) l.yielded;
  names : map (λ code. code.name.now) l.codes.items ≡ declared_names l.desc;
}
