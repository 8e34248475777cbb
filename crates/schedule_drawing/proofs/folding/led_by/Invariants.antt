use Rattle.std.proofs.Common.{◌≡◌, drop}
use Rattle.schedule_drawing.specs.Folding.{led_from}
use Rattle.schedule_drawing.proofs.folding.led_by.Given as goal

-- the systems that are left lead to the count
abbrev pub invariant-loop-system : goal.invariant-loop-system
invariant-loop-system l = led_from l.leaders l.leader l.count (drop l.system-index l.order) ≡ led_from l.leaders l.leader 0 l.built.order
