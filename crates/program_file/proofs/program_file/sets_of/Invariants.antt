use Rattle.std.proofs.Common.{take}
use Rattle.std.specs.List.{AllZip}
use Rattle.toml.specs.View.{table_view}
use Rattle.program_file.specs.Tables.{IsSetIn}
use Rattle.program_file.proofs.program_file.sets_of.Given as goal

-- the sets so far
abbrev pub invariant-loop-number : goal.invariant-loop-number
invariant-loop-number l = AllZip (λ inner set. IsSetIn (table_view inner.now) set) (take l.number-counter l.tables) l.sets.items
