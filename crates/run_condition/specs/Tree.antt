-- A condition as the definitions have it: over the numbers of resources, kinds and event kinds.
use Rattle.model.specs.access.Condition.{Condition}
use Rattle.kinds.specs.Res.{res_number, event_number}
use Rattle.run_condition.specs.declared.cond.Tree.{Tree}
use Rattle.run_condition.specs.declared.cond.Tree.TheVariants.{RunOnce, ResourceEquals, ResourceAtLeast, ResourceChanged, AnyWith, OnEvent, Not', And', Or'}

-- the condition that the definitions speak of
abbrev pub condition_of : Tree → Condition
condition_of RunOnce = Condition.RunOnce
condition_of (ResourceEquals res value) = Condition.ResourceEquals (res_number res) value
condition_of (ResourceAtLeast res value) = Condition.ResourceAtLeast (res_number res) value
condition_of (ResourceChanged res) = Condition.ResourceChanged (res_number res)
condition_of (AnyWith query) = Condition.AnyWith query
condition_of (OnEvent event) = Condition.OnEvent (event_number event)
condition_of (Not' p c) = Condition.Not (condition_of c)
condition_of (And' p c q d) = Condition.And (condition_of c) (condition_of d)
condition_of (Or' p c q d) = Condition.Or (condition_of c) (condition_of d)
