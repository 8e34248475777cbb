use Rattle.std.proofs.Common.{◌≡◌, map, take}
use Rattle.toml.specs.Data.{integer}
use Rattle.toml.specs.View.{view}
use Rattle.program_file.proofs.keys.integers_of.Given as goal

-- the integers so far
abbrev pub invariant-loop-item : goal.invariant-loop-item
invariant-loop-item l = map integer l.integers.items ≡ map view (take l.item-index l.item-items)
