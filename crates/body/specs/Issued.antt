-- The ids that a system is granted at a start, and the commands that it issues.
use Rattle.std.specs.Prelude.{ℕ, List, [], ◌∷◌, ◌++◌, get_or, Option}
use Rattle.model.specs.declared.entities.Entity.{Entity}
use Rattle.model.specs.shown.Outcome.{Command}

-- how many ids the system is granted at each start, where it has Commands, those of this one, and the commands so far
pub record IssuedSeen : Type 0 where
  pub spawns : Option ℕ
  pub granted : List Entity
  pub commands : List Command

-- the id of a slot
abbrev pub granted_in : List Entity → ℕ → Entity
granted_in granted slot = get_or granted slot (record { index = 0; generation = 0 })

-- one more command
abbrev pub with_issued : Command → IssuedSeen → IssuedSeen
with_issued command v = record { spawns = v.spawns; granted = v.granted; commands = v.commands ++ command ∷ [] }
