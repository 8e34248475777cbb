use Rattle.std.proofs.Common.{◌≡◌, map, take}
use Rattle.toml.specs.Data.{string}
use Rattle.toml.specs.View.{view}
use Rattle.program_file.proofs.keys.texts_at.Given as goal

-- the texts so far
abbrev pub invariant-loop-item : goal.invariant-loop-item
invariant-loop-item l = map string (map (λ text. text.now) l.texts.items) ≡ map view (take l.item-index l.item-items)
