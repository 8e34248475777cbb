use Rattle.std.proofs.Common.{◌≡◌, ◌+◌, ◌∷◌, ◌++◌, [], length, take, drop, ap, subst, sym, ◌∙◌, arith}
use Rattle.std.proofs.lemmas.List.{drop_more, length-take-le, take-append-drop, take_all}
use Rattle.std.specs.List.{AllByRecursion}
use Rattle.model.proofs.lists.Each.{each-append}
use Rattle.model.proofs.lists.Results.{handed_on}
use Rattle.model.proofs.lists.Turns.{seen_next}
use Rattle.model.specs.steps.Schedule.{Recorded}
use Rattle.ecsview.specs.Drawings.{IsLawfulRun}
use Rattle.ecsview.specs.Refusals.{IsBadAmong, IsBadRun}
use Rattle.ecsview.proofs.drawings.check_steps.Goals as goal

-- one run more is lawful
pub loop-trace-preserved : goal.loop-trace-preserved
loop-trace-preserved c =
    let s = c.args.built.now in
    let runs = c.args.traces.now in
    let i = c.loop-trace.trace-index in
    let r = c.trace-item.result in
    let inv = c.loop-trace.invariant in
    record {
      count = let e = inv.count in omega arith;
      lawful = subst (AllByRecursion (IsLawfulRun s)) (sym (seen_next runs i r c.loop-trace-test.true c.trace-item.is))
          (each-append (IsLawfulRun s) (take i runs) (r ∷ []) inv.lawful (c.in_ok-check_run.ensures.lawful, tt));
    }

-- all are
pub returns-clause-lawful : goal.returns-clause-lawful
returns-clause-lawful c =
    subst (AllByRecursion (IsLawfulRun c.args.built.now)) (take_all c.loop-trace.trace-index c.args.traces.now (let f = c.loop-trace-test.false in omega arith)) c.loop-trace.invariant.lawful

-- the run that is refused
pub returns-in_err-check_run-clause-refused : goal.returns-in_err-check_run-clause-refused
returns-in_err-check_run-clause-refused c =
    let s = c.args.built.now in
    let runs = c.args.traces.now in
    let i = c.loop-trace.trace-index in
    let r = c.trace-item.result in
    let inv = c.loop-trace.invariant in
    let told = c.in_err-check_run.field-0.0 in
    let before : length (take i runs) ≡ i = length-take-le i runs (let low = c.loop-trace-test.true in omega arith) in
    handed_on (IsBadAmong s runs) c.from_residual.result told c.from_residual.ensures.1 (record {
      before = take i runs;
      run = r;
      later = drop (i + 1) runs;
      whole = sym (take-append-drop i runs) ∙ ap (λ rest. take i runs ++ rest) (drop_more runs i r c.loop-trace-test.true ∙ ap (λ (x : Recorded). x ∷ drop (i + 1) runs) (sym c.trace-item.is));
      lawful = inv.lawful;
      refused = subst (λ n. IsBadRun s r n told) (let e = inv.count in omega (arith, e, before)) c.in_err-check_run.ensures.refused;
    })
