use Rattle.std.proofs.Common.{take}
use Rattle.std.specs.List.{AllZip}
use Rattle.toml.specs.View.{table_view}
use Rattle.program_file.specs.Tables.{IsEntityIn}
use Rattle.program_file.proofs.program_file.entities_of.Given as goal

-- the entities so far
abbrev pub invariant-loop-number : goal.invariant-loop-number
invariant-loop-number l = AllZip (λ inner components. IsEntityIn (table_view inner.now) components.items) (take l.number-counter l.tables) l.entities.items
