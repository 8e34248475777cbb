use Rattle.std.proofs.Common.{◌≤◌}
use Rattle.serde_json.specs.Data.{items_depth}
use Rattle.serde_json.specs.View.{items_view}
use Rattle.diagnostics.proofs.json.marks_value.Given as goal

-- no value is deeper than an object of scalars
abbrev pub invariant-loop-sheet : goal.invariant-loop-sheet
invariant-loop-sheet l = items_depth (items_view l.list.items) ≤ 1
