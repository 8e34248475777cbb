use Rattle.column_store.proofs.Common.{◌≡◌, map, take, empty_column}
use Rattle.column_store.proofs.column_slot.empty_columns.Given as goal

abbrev pub invariant-loop-kind : goal.invariant-loop-kind
invariant-loop-kind l = l.columns.items ≡ map empty_column (take l.kind-index l.kinds)
