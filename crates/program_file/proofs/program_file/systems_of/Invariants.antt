use Rattle.std.proofs.Common.{take}
use Rattle.std.specs.List.{AllZip}
use Rattle.toml.specs.View.{table_view}
use Rattle.program_file.specs.Tables.{IsSystemIn}
use Rattle.program_file.proofs.program_file.systems_of.Given as goal

-- the systems so far
abbrev pub invariant-loop-number : goal.invariant-loop-number
invariant-loop-number l = AllZip (λ inner system. IsSystemIn (table_view inner.now) system) (take l.number-counter l.tables) l.systems.items
