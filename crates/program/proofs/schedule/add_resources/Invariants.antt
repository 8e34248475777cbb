use Rattle.std.proofs.Common.{◌≡◌, ◌++◌, map, take}
use Rattle.kinds.specs.Res.{res_number}
use Rattle.program.proofs.schedule.add_resources.Given as goal

-- the resources so far after the others
abbrev pub invariant-loop-resource : goal.invariant-loop-resource
invariant-loop-resource l = l.params ≡ record l.fn.params { res = l.fn.params.res ++ map res_number (take l.resource-index l.res) }

abbrev pub invariant-loop-resource-2 : goal.invariant-loop-resource-2
invariant-loop-resource-2 l = l.params ≡ record l.fn.params { res = l.fn.params.res ++ map res_number l.res; res_mut = l.fn.params.res_mut ++ map res_number (take l.resource-index l.res_mut) }
