use Rattle.std.proofs.Common.{◌≡◌, take, get_or, true, false}
use Rattle.std.specs.List.{list_all}
use Rattle.schedule_builder.proofs.schedule_order.are_placed.Given as goal

abbrev pub invariant-loop-system : goal.invariant-loop-system
invariant-loop-system l = list_all (λ m. get_or l.placed m false) (take l.system-index l.systems) ≡ true
