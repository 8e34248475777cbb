use Rattle.std.proofs.Common.{◌≡◌, ◌+◌, [], length, take}
use Rattle.model.specs.declarations.Declarations.{from_each, items_of}
use Rattle.program.specs.Said.{declared_said}
use Rattle.findings.specs.Sets.{held_by}
use Rattle.findings.proofs.sets.hierarchy_from.Given as goal

-- the items so far are in their sets
abbrev pub invariant-loop-number : goal.invariant-loop-number
invariant-loop-number l = l.hierarchy ≡ record {
  sets = length l.sets;
  items = length l.sets + length l.systems;
  inside = from_each (λ n i. held_by l.sets n i.inside) 0 (take l.number (items_of (declared_said l.sets l.systems [])));
}
