use Rattle.archetype_store.proofs.Common.{◌≡◌, ◌++◌, drop, fitting_tables}
use Rattle.archetype_store.proofs.shapes.fitting_of.Given as goal

-- those so far, and those from here on
abbrev pub invariant-loop-number : goal.invariant-loop-number
invariant-loop-number l = l.fitting.items ++ fitting_tables l.shape l.number (drop l.number l.tables) ≡ fitting_tables l.shape 0 l.tables
