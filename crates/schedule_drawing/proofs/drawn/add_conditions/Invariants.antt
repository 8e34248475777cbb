use Rattle.std.proofs.Common.{◌≡◌, ◌++◌, drop}
use Rattle.schedule_drawing.specs.Drawn.{conditions_from}
use Rattle.schedule_drawing.proofs.drawn.add_conditions.Given as goal

-- the conditions that are left, behind those that are drawn, make all
abbrev pub invariant-loop-condition : goal.invariant-loop-condition
invariant-loop-condition l = l.shapes.items ++ conditions_from l.built l.leaders l.number (drop l.condition-index l.conditions) ≡ l.fn.shapes.items ++ conditions_from l.built l.leaders 0 l.built.conditions
