-- What a refused schedule is told as.
use Rattle.std.specs.Prelude.{ℕ, List, [], ◌∷◌, ◌++◌, take, flat_map, codes, decimal, string_bytes}
use Rattle.std.specs.declared.string.String.{String}
use Rattle.std.specs.declared.alloc.Global.{Global}
use Rattle.schedule_builder.specs.declared.fault.BuildFault.{BuildFault}
use Rattle.schedule_builder.specs.declared.fault.Word.{Word}
use Rattle.schedule_builder.specs.declared.fault.Word.TheVariants.{Nothing, Name, Number, Condition, Cycle}
use Rattle.schedule_builder.specs.declared.fault.BuildFault.TheVariants.{UnknownName, DuplicateName, HierarchyLoop, HierarchyCycle, DependencyLoop, CrossDependency, SetsIntersect, DependencyCycle, SelfConflict, BadQuery, BadConditionQuery, ConditionWrites, OverLimit, Memory}

-- a name with a space before it
abbrev pub spaced_name : String Global → List ℕ
spaced_name name = 32 ∷ string_bytes name

-- the names of a cycle, and the first again at its end
abbrev pub cycle_text : List (String Global) → List ℕ
cycle_text names = flat_map spaced_name (names ++ take 1 names)

-- the line of a fault, without its end
abbrev pub build_fault_text : BuildFault → List ℕ
build_fault_text (UnknownName name) = codes "refused B1" ++ spaced_name name
build_fault_text (DuplicateName name) = codes "refused B2" ++ spaced_name name
build_fault_text (HierarchyLoop name) = codes "refused B3" ++ spaced_name name
build_fault_text (HierarchyCycle names) = codes "refused B4" ++ cycle_text names.items
build_fault_text (DependencyLoop name) = codes "refused B5" ++ spaced_name name
build_fault_text (DependencyCycle names) = codes "refused B6" ++ cycle_text names.items
build_fault_text (CrossDependency item holder) = codes "refused B7" ++ spaced_name item ++ spaced_name holder
build_fault_text (SetsIntersect first second system) = codes "refused B8" ++ spaced_name first ++ spaced_name second ++ spaced_name system
build_fault_text (SelfConflict name) = codes "refused B9" ++ spaced_name name
build_fault_text (BadQuery owner query fault) = codes "refused B10" ++ spaced_name owner ++ (32 ∷ decimal query) ++ (32 ∷ decimal fault)
build_fault_text (BadConditionQuery condition query fault) = codes "refused B10 #" ++ decimal condition ++ (32 ∷ decimal query) ++ (32 ∷ decimal fault)
build_fault_text (ConditionWrites condition) = codes "refused B11 #" ++ decimal condition
build_fault_text (OverLimit limit) = codes "refused B12" ++ (32 ∷ decimal limit)
build_fault_text Memory = codes "error memory"

-- what a word adds to a line
abbrev pub word_text : Word → List ℕ
word_text Nothing = []
word_text (Name name) = 32 ∷ name.now
word_text (Number number) = 32 ∷ decimal number
word_text (Condition condition) = codes " #" ++ decimal condition
word_text (Cycle names) = cycle_text names.now
