use Rattle.std.proofs.Common.{◌≡◌, ◌-◌, ◌^◌, min, sum, take}
use Rattle.entity_table.proofs.granting.sum_of.Given as goal

abbrev pub invariant-loop-count : goal.invariant-loop-count
invariant-loop-count l = l.total ≡ min (sum (take l.count-index l.counts)) (2 ^ 64 - 1)
