use Rattle.std.proofs.Common.{◌≡◌, drop}
use Rattle.schedule_drawing.specs.Folding.{first_in_order}
use Rattle.schedule_drawing.proofs.folding.first_held.Given as goal

-- the systems that are left lead to the first
abbrev pub invariant-loop-system : goal.invariant-loop-system
invariant-loop-system l = first_in_order l.built l.holders l.set l.level l.other (drop l.system-index l.order) ≡ first_in_order l.built l.holders l.set l.level l.other l.built.order
