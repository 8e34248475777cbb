-- The engine of a program file.
use Rattle.std.specs.Prelude.{ℕ, ◌≡◌, false, List, map, Some}
use Rattle.engine.specs.EngineValue.{EngineValue}
use Rattle.script.specs.declared.script_body.ScriptBody.{ScriptBody}
use Rattle.program.specs.Accepted.{Accepted, start_of}
use Rattle.program.specs.Said.{scripts_by}

-- it has the schedule and the scripts of an accepted file with these bytes, and the state of its entities and resources as loaded
pub record IsEngineOf (bytes : List ℕ) (engine : EngineValue ScriptBody) : Type 0 where
  pub file : Accepted (Some bytes)
  pub is : engine ≡ record { schedule = file.schedule; bodies = map Some (scripts_by file.tables); state = start_of file; spoiled = false }

-- these are the scripts of an accepted file with these bytes
pub record AreScriptsIn (bytes : List ℕ) (scripts : List ScriptBody) : Type 0 where
  pub file : Accepted (Some bytes)
  pub are : scripts ≡ scripts_by file.tables
