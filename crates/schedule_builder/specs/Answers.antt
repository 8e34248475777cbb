-- What a fault tells of declared items.
use Rattle.std.specs.Prelude.{map, string_bytes}
use Rattle.model.specs.declarations.Declarations.{Declared}
use Rattle.model.specs.declarations.Refusals.{Refusal, IsRefused}
use Rattle.schedule_builder.specs.declared.fault.BuildFault.{BuildFault}
use Rattle.schedule_builder.specs.declared.fault.BuildFault.TheVariants.{UnknownName, DuplicateName, HierarchyLoop, HierarchyCycle, DependencyLoop, CrossDependency, SetsIntersect, DependencyCycle, SelfConflict, BadQuery, BadConditionQuery, ConditionWrites, OverLimit, Memory}

-- the fault is the refusal that is told of the declared items; a failed allocation says nothing of them
abbrev pub IsAnswered : Declared → BuildFault → Type 0
IsAnswered d (UnknownName name) = IsRefused d (Refusal.UnknownName (string_bytes name))
IsAnswered d (DuplicateName name) = IsRefused d (Refusal.DuplicateName (string_bytes name))
IsAnswered d (HierarchyLoop name) = IsRefused d (Refusal.HierarchyLoop (string_bytes name))
IsAnswered d (HierarchyCycle cycle) = IsRefused d (Refusal.HierarchyCycle (map string_bytes cycle.items))
IsAnswered d (DependencyLoop name) = IsRefused d (Refusal.DependencyLoop (string_bytes name))
IsAnswered d (CrossDependency item holder) = IsRefused d (Refusal.CrossDependency (string_bytes item) (string_bytes holder))
IsAnswered d (SetsIntersect first second system) = IsRefused d (Refusal.SetsIntersect (string_bytes first) (string_bytes second) (string_bytes system))
IsAnswered d (DependencyCycle cycle) = IsRefused d (Refusal.DependencyCycle (map string_bytes cycle.items))
IsAnswered d (SelfConflict name) = IsRefused d (Refusal.SelfConflict (string_bytes name))
IsAnswered d (BadQuery owner query fault) = IsRefused d (Refusal.BadQuery (string_bytes owner) query fault)
IsAnswered d (BadConditionQuery condition query fault) = IsRefused d (Refusal.BadConditionQuery condition query fault)
IsAnswered d (ConditionWrites condition) = IsRefused d (Refusal.ConditionWrites condition)
IsAnswered d (OverLimit limit) = IsRefused d (Refusal.OverLimit limit)
IsAnswered d Memory = Unit {0}
