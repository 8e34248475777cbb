use Rattle.std.proofs.Common.{◌≤◌}
use Rattle.serde_json.specs.Data.{items_depth}
use Rattle.serde_json.specs.View.{items_view}
use Rattle.diagnostics.proofs.json.push_marks.Given as goal

-- no value is deeper than an object of scalars
abbrev pub invariant-loop-labelled : goal.invariant-loop-labelled
invariant-loop-labelled l = items_depth (items_view l.list.items) ≤ 1
