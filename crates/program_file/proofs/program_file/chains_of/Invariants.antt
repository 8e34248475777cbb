use Rattle.std.proofs.Common.{take}
use Rattle.std.specs.List.{AllZip}
use Rattle.toml.specs.View.{table_view}
use Rattle.program_file.specs.Tables.{IsChainIn}
use Rattle.program_file.proofs.program_file.chains_of.Given as goal

-- the chains so far
abbrev pub invariant-loop-number : goal.invariant-loop-number
invariant-loop-number l = AllZip (λ inner chain. IsChainIn (table_view inner.now) chain) (take l.number-counter l.tables) l.chains.items
