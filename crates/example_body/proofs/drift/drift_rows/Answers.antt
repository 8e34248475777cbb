use Rattle.std.proofs.Common.{◌<◌, ◌≤◌, length, ap, ◌∙◌, arith, refl}
use Rattle.model.specs.access.Access.{Params}
use Rattle.model.specs.shown.Input.{Shown}
use Rattle.model.specs.shown.Outcome.{Outcome}
use Rattle.body.specs.Seen.{Seen, rows_at}
use Rattle.example_body.proofs.Rows.{after_row, step, began, ended}
use Rattle.example_body.proofs.drift.drift_rows.Goals as goal

pub loop-row-init : goal.loop-row-init
loop-row-init c =
    let first = c.args.view.now in
    record { params = refl; shown = refl; opening = refl; outcome = began first.params first.shown first.outcome c.requires.untouched }

pub loop-row-preserved : goal.loop-row-preserved
loop-row-preserved c =
    let first = c.args.view.now in
    let now = c.loop-row.view in
    let row = c.loop-row.row in
    let kept = c.loop-row.invariant in
    let is = c.drift_row.ensures in
    let here : row < length (rows_at first.shown 0) = (let t = c.loop-row-test.true in let e = c.rows-row-end.ensures in omega arith) in
    record {
      params = ap (λ (s : Seen). s.params) is ∙ kept.params;
      shown = ap (λ (s : Seen). s.shown) is ∙ kept.shown;
      opening = ap (λ (s : Seen). s.opening) is ∙ kept.opening;
      outcome = ap (λ (s : Seen). s.outcome) is
          ∙ ap (λ (p : Params). after_row row p now.shown now.outcome) kept.params
          ∙ ap (λ (s : Shown). after_row row first.params s now.outcome) kept.shown
          ∙ ap (λ (o : Outcome). after_row row first.params first.shown o) kept.outcome
          ∙ step first.params first.shown first.outcome row here;
    }

pub returns-clause-outcome : goal.returns-clause-outcome
returns-clause-outcome c =
    let first = c.args.view.now in
    let all : length (rows_at first.shown 0) ≤ c.loop-row.row = (let t = c.loop-row-test.false in let e = c.rows-row-end.ensures in omega arith) in
    c.loop-row.invariant.outcome ∙ ended first.params first.shown first.outcome c.loop-row.row all c.requires.untouched
