-- What the tables of a program file declare, where they are accepted, and why they are not.
use Rattle.std.specs.Prelude.{◌≡◌, map}
use Rattle.model.specs.steps.Schedule.{Schedule}
use Rattle.schedule_builder.specs.Answers.{IsAnswered}
use Rattle.program_file.specs.declared.program_file.ProgramFile.{ProgramFile}
use Rattle.program.specs.Refused.{IsUnscripted}
use Rattle.program.specs.Said.{declared_by, scripts_by}
use Rattle.program.specs.Setup.{AreScriptsOf, IsScheduleOf, declared_names}
use Rattle.program.specs.declared.fault.Fault.{Fault}
use Rattle.program.specs.declared.fault.Fault.TheVariants.{Build, Script, Memory}
use Rattle.program.specs.declared.loading.Loaded.{Loaded}

-- the schedule that they declare, the names of its systems, their scripts, which fit, the entities and the resources
pub record IsLoadedOf (tables : ProgramFile) (l : Loaded) : Type 0 where
  pub schedule : IsScheduleOf (declared_by tables) l.built
  pub names : map (λ name. name.now) l.names.items ≡ declared_names (declared_by tables)
  pub scripts : l.bodies.items ≡ scripts_by tables
  pub fitting : AreScriptsOf l.built l.bodies.items
  pub entities : l.entities.items ≡ tables.entities.items
  pub resources : l.resources ≡ tables.resources

-- the builder refuses what they declare, a script is refused by what is built, or an allocation fails
abbrev pub IsNotLoaded : ProgramFile → Fault → Type 0
IsNotLoaded tables (Build fault) = IsAnswered (declared_by tables) fault
IsNotLoaded tables (Script cause system block instruction) =
    (s : Schedule) × IsScheduleOf (declared_by tables) s × IsUnscripted s (declared_names (declared_by tables)) (scripts_by tables) (Script cause system block instruction)
IsNotLoaded tables Memory = Unit {0}
IsNotLoaded tables _ = ⊥
