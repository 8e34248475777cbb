-- One stands twice just where one of what is left does.
use Rattle.std.proofs.Common.{◌≡◌, map, length}
use Rattle.kinds.specs.Res.{res_number}
use Rattle.model.specs.access.QueryFaults.{has_twice}
use Rattle.access_set.proofs.self_conflict.has_resource_twice.Given as goal

abbrev pub invariant-loop-resource : goal.invariant-loop-resource
invariant-loop-resource l = has_twice (map res_number l.resources) ≡ has_twice (map res_number l.rest)

abbrev pub decreases-loop-resource : goal.decreases-loop-resource
decreases-loop-resource l = length l.rest
