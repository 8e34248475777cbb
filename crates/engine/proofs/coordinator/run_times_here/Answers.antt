use Rattle.std.proofs.Common.{◌<◌, ◌≡◌, ◌∷◌, [], List, true, false, is_some, length, length-append, sym, ap, ◌∙◌, subst, arith}
use Rattle.std.specs.List.{AllByRecursion}
use Rattle.model.specs.steps.Schedule.{Recorded, recording}
use Rattle.model.specs.shown.Outcome.{BodyMeaning}
use Rattle.model.specs.runs.WideRuns.{IsWideRun, AreWideRuns, IsWideStopped, WideStops}
use Rattle.model.proofs.lists.Results.{handed_on}
use Rattle.engine.specs.Meanings.{meanings}
use Rattle.engine.specs.Stops.{StopsBy}
use Rattle.engine.proofs.JobsOut.{kept_last, kept_fits, meanings_count}
use Rattle.engine.proofs.RunStages.{records_more, runs_more, stopped}
use Rattle.engine.proofs.Stops.{stops_up}
use Rattle.engine.proofs.coordinator.run_times_here.Goals as goal

pub loop-run-preserved : goal.loop-run-preserved
loop-run-preserved g c =
    let meaning = g.B.Body.meaning in
    let fits = g.B.Body.fits in
    let s = c.args.built.now in
    let bodies = meanings meaning s c.args.bodies.now in
    let start = c.args.run.now.state.state in
    let inv = c.loop-run.invariant in
    let now = meanings meaning s c.loop-run.bodies in
    let middle = c.loop-run.run.state.state in
    let traces = c.loop-run.recording.traces.items in
    let later = c.run_alone.new in
    let ok = c.in_ok-run_alone.ensures in
    let meant = kept_last meaning fits false s now later.bodies c.run_alone.ensures.kept (meanings_count meaning fits false s c.loop-run.bodies inv.rest.suits.body_count) ∙ inv.meant in
    let trace = ok.ran.trace in
    let items = ok.ran.more in
    let one : IsWideRun 1 (recording s trace.sets) bodies middle trace.steps later.run.state.state
    = subst (λ (bs : List BodyMeaning). IsWideRun 1 (recording s trace.sets) bs middle trace.steps later.run.state.state) inv.meant ok.ran.ran in
    record {
      count = let e = ap length items in let f = length-append traces (trace ∷ []) in let h = inv.count in omega arith;
      records = subst (AllByRecursion (λ (r : Recorded). is_some r.sets ≡ true)) (sym items) (records_more traces trace inv.records ok.ran.records);
      ran = subst (λ (rs : List Recorded). AreWideRuns 1 s bodies start rs later.run.state.state) (sym items) (runs_more 1 s bodies start traces middle trace later.run.state.state inv.ran one);
      rest = ok.rest;
      following = ok.following;
      meant = meant;
    }

pub returns-in_err-run_alone-clause-stopped : goal.returns-in_err-run_alone-clause-stopped
returns-in_err-run_alone-clause-stopped g c =
    let s = c.args.built.now in
    let bodies = meanings g.B.Body.meaning s c.args.bodies.now in
    let start = c.args.run.now.state.state in
    let inv = c.loop-run.invariant in
    let now = meanings g.B.Body.meaning s c.loop-run.bodies in
    let middle = c.loop-run.run.state.state in
    let traces = c.loop-run.recording.traces.items in
    let told = c.in_err-run_alone.field-0.0 in
    let fewer : length traces < c.args.times = let h = inv.count in omega arith in
    handed_on (StopsBy false (IsWideStopped 1 s bodies c.args.times start)) c.from_residual-in_err-run_alone.result told c.from_residual-in_err-run_alone.ensures.1
    (stops_up false (WideStops 1 s now middle) (IsWideStopped 1 s bodies c.args.times start) told
    (λ met h. stopped 1 s bodies c.args.times start traces middle met inv.ran fewer (subst (λ (bs : List BodyMeaning). WideStops 1 s bs middle met) inv.meant h)) c.in_err-run_alone.ensures.stopped)

pub returns-in_err-run_alone-clause-meanings : goal.returns-in_err-run_alone-clause-meanings
returns-in_err-run_alone-clause-meanings g c =
    let meaning = g.B.Body.meaning in
    let s = c.args.built.now in
    let inv = c.loop-run.invariant in
    kept_last meaning g.B.Body.fits false s (meanings meaning s c.loop-run.bodies) c.run_alone.new.bodies c.run_alone.ensures.kept (meanings_count meaning g.B.Body.fits false s c.loop-run.bodies inv.rest.suits.body_count) ∙ inv.meant

pub returns-in_err-run_alone-clause-fit : goal.returns-in_err-run_alone-clause-fit
returns-in_err-run_alone-clause-fit g c =
    let meaning = g.B.Body.meaning in
    let s = c.args.built.now in
    kept_fits meaning g.B.Body.fits false s (meanings meaning s c.loop-run.bodies) c.run_alone.new.bodies c.run_alone.ensures.kept
