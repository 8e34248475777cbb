-- What the tables of a file declare, from what declares, builds and checks it.
use Rattle.std.proofs.Common.{◌≡◌, List, map, ◌∙◌, ap, sym}
use Rattle.model.specs.declarations.Declarations.{Declared}
use Rattle.model.specs.declarations.Refusals.{IsBuildable}
use Rattle.model.specs.declarations.ScheduleOrder.{HasDeclaredSystems, HasDeclaredEdges, HasLevels, HasDeclaredConditions, HasDeclaredSilences, IsScheduleOrder}
use Rattle.model.specs.steps.Schedule.{Schedule}
use Rattle.body.proofs.States.{map-twice}
use Rattle.schedule_builder.specs.Answers.{IsAnswered}
use Rattle.schedule_builder.specs.declared.fault.BuildFault.{BuildFault}
use Rattle.schedule_builder.specs.declared.fault.BuildFault.TheVariants as build
use Rattle.program_file.specs.declared.program_file.ProgramFile.{ProgramFile}
use Rattle.program_file.specs.declared.program_file.SystemTable.{SystemTable}
use Rattle.program.specs.declared.fault.Fault.{Fault}
use Rattle.program.specs.declared.fault.Fault.TheVariants.{Script, Memory}
use Rattle.program.specs.declared.schedule.Code.{Code}
use Rattle.program.specs.Fault.{fault_of_build}
use Rattle.program.specs.Loaded.{IsNotLoaded}
use Rattle.program.specs.Refused.{IsUnscripted}
use Rattle.program.specs.Said.{declared_by, script_said, scripts_by}
use Rattle.program.specs.Setup.{IsScheduleOf, declared_names}

-- what is built is the schedule of what is declared
pub schedule-of : (d : Declared) (s : Schedule) → IsBuildable d → HasDeclaredSystems d s → HasDeclaredEdges d s → HasLevels d s → IsScheduleOrder s → HasDeclaredConditions d s
    → HasDeclaredSilences d s → IsScheduleOf d s
schedule-of d s buildable systems edges levels order conditions silences =
    record { buildable = buildable; systems = systems; edges = edges; levels = levels; order = order; conditions = conditions; silences = silences }

-- the scripts of codes are those of the tables whose blocks they have
pub scripts-same : (codes : List Code) (rows : List SystemTable) → map (λ (code : Code). code.blocks) codes ≡ map (λ (row : SystemTable). row.blocks) rows → map (λ (code : Code). script_said code.blocks) codes ≡ map (λ (row : SystemTable). script_said row.blocks) rows
scripts-same codes rows e = sym (map-twice (λ (code : Code). code.blocks) script_said codes) ∙ ap (map script_said) e ∙ map-twice (λ (row : SystemTable). row.blocks) script_said rows

-- the builder refuses
pub build-refused : (tables : ProgramFile) (fault : BuildFault) → IsAnswered (declared_by tables) fault → IsNotLoaded tables (fault_of_build fault)
build-refused tables build.Memory h = tt
build-refused tables (build.UnknownName name) h = h
build-refused tables (build.DuplicateName name) h = h
build-refused tables (build.HierarchyLoop name) h = h
build-refused tables (build.HierarchyCycle names) h = h
build-refused tables (build.DependencyLoop name) h = h
build-refused tables (build.CrossDependency item holder) h = h
build-refused tables (build.SetsIntersect first second system) h = h
build-refused tables (build.DependencyCycle names) h = h
build-refused tables (build.SelfConflict name) h = h
build-refused tables (build.BadQuery owner query number) h = h
build-refused tables (build.BadConditionQuery condition query number) h = h
build-refused tables (build.ConditionWrites condition) h = h
build-refused tables (build.OverLimit limit) h = h

-- a script is refused
pub script-refused : (tables : ProgramFile) (s : Schedule) (fault : Fault) → IsScheduleOf (declared_by tables) s → IsUnscripted s (declared_names (declared_by tables)) (scripts_by tables) fault → IsNotLoaded tables fault
script-refused tables s (Script cause system block instruction) is h = (s, is, h)
script-refused tables s Memory is h = tt
script-refused tables s fault is h = absurd h.2
