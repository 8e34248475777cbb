use Rattle.std.proofs.Common.{◌≡◌, map, take}
use Rattle.toml.specs.Data.{table}
use Rattle.toml.specs.View.{view, table_view}
use Rattle.program_file.proofs.keys.tables_at.Given as goal

-- the tables so far
abbrev pub invariant-loop-item : goal.invariant-loop-item
invariant-loop-item l = map table (map (λ inner. table_view inner.now) l.tables.items) ≡ map view (take l.item-index l.item-items)
