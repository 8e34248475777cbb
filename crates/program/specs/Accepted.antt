-- A program file that is accepted.
use Rattle.std.specs.Prelude.{ℕ, List, map, Option, IfSome}
use Rattle.model.specs.shown.Outcome.{BodyMeaning}
use Rattle.model.specs.state.Loaded.{loaded}
use Rattle.model.specs.state.State.{State}
use Rattle.model.specs.steps.Schedule.{Schedule}
use Rattle.program_file.specs.declared.program_file.ProgramFile.{ProgramFile}
use Rattle.program.specs.Load.{entity_given}
use Rattle.program.specs.Said.{IsFileOf, IsShortFile, declared_by, scripts_by}
use Rattle.program.specs.Setup.{AreScriptsOf, IsScheduleOf, meanings_of_scripts}

-- it is no longer than a program file may be, and this is what it says: its tables, the schedule that they declare, which the builder accepted, and for each system its script, which fits it
pub record Accepted (bytes : Option (List ℕ)) : Type 0 where
  pub within : IfSome bytes IsShortFile
  pub tables : ProgramFile
  pub read : IfSome bytes (IsFileOf tables)
  pub schedule : Schedule
  pub built : IsScheduleOf (declared_by tables) schedule
  pub fitting : AreScriptsOf schedule (scripts_by tables)

-- what its scripts mean
abbrev pub meant_by : {bytes : Option (List ℕ)} → Accepted bytes → List BodyMeaning
meant_by file = meanings_of_scripts file.schedule (scripts_by file.tables)

-- the state of its entities and resources as loaded
abbrev pub start_of : {bytes : Option (List ℕ)} → Accepted bytes → State
start_of file = loaded file.schedule (map entity_given file.tables.entities.items) file.tables.resources
