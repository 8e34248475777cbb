use Rattle.std.proofs.Common.{◌<◌, ◌≡◌, ◌∷◌, [], List, Err, IsTrue, true, is_some, length, length-append, refl, sym, ap, ◌∙◌, subst, arith}
use Rattle.std.specs.List.{AllByRecursion}
use Rattle.model.specs.steps.Schedule.{Recorded, recording}
use Rattle.model.specs.shown.Outcome.{BodyMeaning}
use Rattle.model.specs.runs.WideRuns.{IsWideRun, AreWideRuns, IsWideStopped, WideStops}
use Rattle.worker_pool.specs.JobOut.{JobOut}
use Rattle.engine.specs.Jobs.{AreKept}
use Rattle.engine.specs.Meanings.{meanings}
use Rattle.engine.proofs.JobsOut.{kept_last, kept_fits, meanings_count}
use Rattle.engine.proofs.RunStages.{records_more, runs_more, stopped}
use Rattle.engine.specs.Stops.{StopsBy}
use Rattle.engine.proofs.Stops.{either_way, lost_or_kept, one_stop, stops_up}
use Rattle.model.proofs.lists.Results.{handed_on}
use Rattle.engine.proofs.coordinator.run_times.Goals as goal

pub run_turns-requires : goal.run_turns-requires
run_turns-requires g c = λ lifetimes.
    let inv = c.loop-run.invariant in
    (c.type_bounds.send-B, (c.type_bounds.send-M-Signals, (c.type_bounds.send-M-Gate, (c.type_bounds.sync-M-Gate, ((refl, tt), (inv.rest, (inv.empty, inv.following)))))))

pub loop-run-preserved : goal.loop-run-preserved
loop-run-preserved g c =
    let meaning = g.B.Body.meaning in
    let fits = g.B.Body.fits in
    let there = g.M.SpawnThreads.has_scope c.args.mode.now in
    let width = g.M.Mode.width c.args.mode.now in
    let s = c.args.built.now in
    let bodies = meanings meaning s c.args.jobs.now.bodies in
    let start = c.args.run.now.state.state in
    let inv = c.loop-run.invariant in
    let now = meanings meaning s c.loop-run.jobs.bodies in
    let middle = c.loop-run.run.state.state in
    let traces = c.loop-run.recording.traces.items in
    let later = c.run_turns.new in
    let ok = c.in-Ok.ensures in
    let kept = subst (λ (xs : List (JobOut g.row.B.Denot)). AreKept meaning fits there s now later.jobs.bodies xs) ok.empty (ok.kept (λ e. absurd (let clash = e in cc))) in
    let meant = kept_last meaning fits there s now later.jobs.bodies kept (meanings_count meaning fits there s c.loop-run.jobs.bodies inv.rest.suits.body_count) ∙ inv.meant in
    let trace = ok.ran.trace in
    let items = ok.ran.more in
    let one : IsWideRun width (recording s trace.sets) bodies middle trace.steps later.run.state.state
    = subst (λ (bs : List BodyMeaning). IsWideRun width (recording s trace.sets) bs middle trace.steps later.run.state.state) inv.meant ok.ran.ran in
    record {
      count = let e = ap length items in let f = length-append traces (trace ∷ []) in let h = inv.count in omega arith;
      records = subst (AllByRecursion (λ (r : Recorded). is_some r.sets ≡ true)) (sym items) (records_more traces trace inv.records ok.ran.records);
      ran = subst (λ (rs : List Recorded). AreWideRuns width s bodies start rs later.run.state.state) (sym items) (runs_more width s bodies start traces middle trace later.run.state.state inv.ran one);
      rest = ok.rest;
      empty = ok.empty;
      meant = meant;
      following = ok.following;
    }

-- the mode may send what it sends
pub bring_home-requires : goal.bring_home-requires
bring_home-requires g c = λ lifetimes. (c.type_bounds.send-B, (c.type_bounds.send-M-Signals, (c.type_bounds.send-M-Gate, (c.type_bounds.sync-M-Gate, (refl, tt)))))

pub returns-in_err-bring_home-in-Err-clause-stopped : goal.returns-in_err-bring_home-in-Err-clause-stopped
returns-in_err-bring_home-in-Err-clause-stopped g c =
    let meaning = g.B.Body.meaning in
    let fits = g.B.Body.fits in
    let there = g.M.SpawnThreads.has_scope c.args.mode.now in
    let width = g.M.Mode.width c.args.mode.now in
    let s = c.args.built.now in
    let bodies = meanings meaning s c.args.jobs.now.bodies in
    let start = c.args.run.now.state.state in
    let now = meanings meaning s c.loop-run.jobs.bodies in
    let middle = c.loop-run.run.state.state in
    let told = c.in_err-bring_home-in-Err.field-0.0 in
    let lost = c.in_err-bring_home-in-Err.ensures.lost in
    let later = c.run_turns.new.jobs in
    handed_on (StopsBy there (IsWideStopped width s bodies c.args.times start)) c.from_residual-in_err-bring_home-in-Err.result told c.from_residual-in_err-bring_home-in-Err.ensures.1
    (subst (StopsBy there (IsWideStopped width s bodies c.args.times start)) (sym lost.0)
    (either_way there (WideStops width s now middle) (AreKept meaning fits there s now later.bodies later.pool) (IsTrue (g.M.Mode.stands c.args.mode.now)) c.in-Err.stop c.in-Err.ensures.stopped
    (λ wanting. c.in-Err.ensures.kept (λ e. wanting (one_stop e))) (λ kept. absurd (lost.1 s now kept))))

pub returns-in_err-bring_home-in-Err-clause-meanings : goal.returns-in_err-bring_home-in-Err-clause-meanings
returns-in_err-bring_home-in-Err-clause-meanings g c =
    let s = c.args.built.now in
    let now = meanings g.B.Body.meaning s c.loop-run.jobs.bodies in
    let lost = c.in_err-bring_home-in-Err.ensures.lost in
    lost_or_kept c.from_residual-in_err-bring_home-in-Err.result c.in_err-bring_home-in-Err.field-0.0 c.from_residual-in_err-bring_home-in-Err.ensures.1
    (λ wanting. absurd (lost.1 s now (c.in-Err.ensures.kept (λ e. wanting lost.0))))

pub returns-in-Err-clause-stopped : goal.returns-in-Err-clause-stopped
returns-in-Err-clause-stopped g c =
    let meaning = g.B.Body.meaning in
    let fits = g.B.Body.fits in
    let there = g.M.SpawnThreads.has_scope c.args.mode.now in
    let width = g.M.Mode.width c.args.mode.now in
    let s = c.args.built.now in
    let bodies = meanings meaning s c.args.jobs.now.bodies in
    let start = c.args.run.now.state.state in
    let inv = c.loop-run.invariant in
    let now = meanings meaning s c.loop-run.jobs.bodies in
    let middle = c.loop-run.run.state.state in
    let traces = c.loop-run.recording.traces.items in
    let fewer : length traces < c.args.times = let h = inv.count in omega arith in
    stops_up there (WideStops width s now middle) (IsWideStopped width s bodies c.args.times start) c.in-Err.stop
    (λ met h. stopped width s bodies c.args.times start traces middle met inv.ran fewer (subst (λ (bs : List BodyMeaning). WideStops width s bs middle met) inv.meant h)) c.in-Err.ensures.stopped

pub returns-in-Err-clause-meanings : goal.returns-in-Err-clause-meanings
returns-in-Err-clause-meanings g c = λ lost.
    let meaning = g.B.Body.meaning in
    let fits = g.B.Body.fits in
    let there = g.M.SpawnThreads.has_scope c.args.mode.now in
    let s = c.args.built.now in
    let inv = c.loop-run.invariant in
    let now = meanings meaning s c.loop-run.jobs.bodies in
    let kept = c.in-Err.ensures.kept (λ e. lost (ap (λ x. Err x) (one_stop e))) in
    kept_last meaning fits there s now c.bring_home.new.jobs.bodies (c.in_ok-bring_home-in-Err.ensures.kept s now kept) (meanings_count meaning fits there s c.loop-run.jobs.bodies inv.rest.suits.body_count) ∙ inv.meant

pub returns-in_err-bring_home-in-Err-clause-fit : goal.returns-in_err-bring_home-in-Err-clause-fit
returns-in_err-bring_home-in-Err-clause-fit g c =
    let s = c.args.built.now in
    let now = meanings g.B.Body.meaning s c.loop-run.jobs.bodies in
    let lost = c.in_err-bring_home-in-Err.ensures.lost in
    lost_or_kept c.from_residual-in_err-bring_home-in-Err.result c.in_err-bring_home-in-Err.field-0.0 c.from_residual-in_err-bring_home-in-Err.ensures.1
    (λ wanting. absurd (lost.1 s now (c.in-Err.ensures.kept (λ e. wanting lost.0))))

pub returns-in-Err-clause-fit : goal.returns-in-Err-clause-fit
returns-in-Err-clause-fit g c = λ lost.
    let meaning = g.B.Body.meaning in
    let fits = g.B.Body.fits in
    let there = g.M.SpawnThreads.has_scope c.args.mode.now in
    let s = c.args.built.now in
    let now = meanings meaning s c.loop-run.jobs.bodies in
    let kept = c.in-Err.ensures.kept (λ e. lost (ap (λ x. Err x) (one_stop e))) in
    kept_fits meaning fits there s now c.bring_home.new.jobs.bodies (c.in_ok-bring_home-in-Err.ensures.kept s now kept)

pub returns-clause-fit : goal.returns-clause-fit
returns-clause-fit g c = λ lost.
    let rest = c.loop-run.invariant.rest in
    record { body_count = rest.suits.body_count; fit = rest.suits.fit }
