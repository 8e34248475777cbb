use Rattle.archetype_store.proofs.Common.{◌≡◌, ◌++◌, drop, numbered}
use Rattle.archetype_store.proofs.shapes.numbers_at.Given as goal

-- those so far, and those of the tables from here on
abbrev pub invariant-loop-table : goal.invariant-loop-table
invariant-loop-table l = l.archetypes.items ++ numbered l.numbers (drop l.table-index l.tables) ≡ numbered l.numbers l.tables
