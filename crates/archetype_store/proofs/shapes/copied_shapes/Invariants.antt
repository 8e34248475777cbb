use Rattle.archetype_store.proofs.Common.{◌≡◌, map, take, kept_seen}
use Rattle.archetype_store.proofs.shapes.copied_shapes.Given as goal

-- those so far are copied
abbrev pub invariant-loop-kept : goal.invariant-loop-kept
invariant-loop-kept l = map kept_seen l.copies.items ≡ map kept_seen (take l.kept-index l.shapes)
