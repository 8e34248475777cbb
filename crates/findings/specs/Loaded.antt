-- What a program file declares, where it is accepted.
use Rattle.std.specs.Prelude.{ℕ, ◌≡◌, List, map, Option}
use Rattle.program.specs.Accepted.{Accepted}
use Rattle.program.specs.Said.{declared_by, scripts_by}
use Rattle.program.specs.Setup.{declared_names}
use Rattle.findings.specs.Sets.{AreSetsOf}
use Rattle.findings.specs.declared.loading.Loaded.{Loaded}

-- it is that of an accepted file: its schedule, the names of its systems, its scripts, its entities, its resources and its sets
pub record IsLoaded (bytes : Option (List ℕ)) (l : Loaded) : Type 0 where
  pub file : Accepted bytes
  pub schedule : l.file.built ≡ file.schedule
  pub names : map (λ name. name.now) l.file.names.items ≡ declared_names (declared_by file.tables)
  pub scripts : l.file.bodies.items ≡ scripts_by file.tables
  pub entities : l.file.entities.items ≡ file.tables.entities.items
  pub resources : l.file.resources ≡ file.tables.resources
  pub sets : AreSetsOf (declared_by file.tables) l.sets
