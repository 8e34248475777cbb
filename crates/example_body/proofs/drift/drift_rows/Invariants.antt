use Rattle.std.proofs.Common.{◌≡◌}
use Rattle.example_body.proofs.Rows.{moved_to}
use Rattle.example_body.proofs.drift.drift_rows.Given as goal

abbrev pub invariant-loop-row : goal.invariant-loop-row
invariant-loop-row l =
    let first = l.fn.view in
    record {
      params : l.view.params ≡ first.params;
      shown : l.view.shown ≡ first.shown;
      opening : l.view.opening ≡ first.opening;
      outcome : l.view.outcome ≡ moved_to first.params first.shown first.outcome l.row;
    }
