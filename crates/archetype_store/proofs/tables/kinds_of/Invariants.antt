use Rattle.archetype_store.proofs.Common.{◌≡◌, map, take, kind_number, stamped_number}
use Rattle.archetype_store.proofs.tables.kinds_of.Given as goal

abbrev pub invariant-loop-component : goal.invariant-loop-component
invariant-loop-component l = map kind_number l.kinds.items ≡ map stamped_number (take l.component-index l.components)
