use Rattle.std.proofs.Common.{◌≡◌, List, true, false, length, Some, refl, sym, ◌∙◌, subst}
use Rattle.model.specs.declared.steps.Ready.{Ready}
use Rattle.model.specs.declared.steps.Step.TheVariants.{Start as Begin, Finish}
use Rattle.model.specs.Lists.{IsIn}
use Rattle.model.specs.shown.Outcome.{BodyMeaning}
use Rattle.model.specs.runs.Causes.{interleaved_cause_of}
use Rattle.model.specs.runs.WideRuns.{WideStops}
use Rattle.model.specs.steps.Schedule.{recording}
use Rattle.model.specs.steps.Lawful.{runs}
use Rattle.model.proofs.serial.Recording.{interleaved_cause-recording, interleaved_step-recording}
use Rattle.worker_pool.specs.JobOut.{JobOut}
use Rattle.engine.specs.declared.turn.Turn.{Turn}
use Rattle.engine.specs.Jobs.{woven, AreKept}
use Rattle.engine.specs.Next.{KeepsNext, StopsNext}
use Rattle.engine.specs.Stage.{IsTake, IsTurn}
use Rattle.engine.proofs.JobsOut.{placed_kept}
use Rattle.engine.proofs.RunStages.{stage_start, stage_finish, running_there, stops_start, stops_finish, stops_plain}
use Rattle.engine.proofs.Stops.{none_ok, stops_up}
use Rattle.engine.proofs.Turns.{start_allowed}
use Rattle.engine.proofs.coordinator.do_turn.Goals as goal
use Rattle.model.proofs.lists.Results.{handed_on}

pub start-requires : goal.start-requires
start-requires g c = λ lifetimes.
    let meaning = g.B.Body.meaning in
    let fits = g.B.Body.fits in
    let there = g.M.SpawnThreads.has_scope c.args.mode.now in
    let width = g.M.Mode.width c.args.mode.now in
    let s = c.args.built.now in
    let slots = c.args.jobs.now.bodies in
    let deferred = c.args.run.now.deferred in
    let out = c.args.jobs.now.pool in
    let w = c.args.run.now.state in
    let sets = c.requires.next.0 in
    let bodies = c.requires.next.1 in
    let start = c.requires.next.2 in
    let h = c.requires.next.3 in
    let known = c.requires.next.4 in
    let next = subst (λ (r : Ready). IsTake (recording s sets) h (length out) width r) c.in-Start.is (subst (λ (t : Turn). IsTurn (recording s sets) h (length out) width (Some t)) c.in-Take.is known.following) in
    let allowed = start_allowed meaning fits there s bodies slots out w known.between.placed sets width start h deferred c.in-Start.system c.prove_law.ensures known.between.stage (next.allowed false) in
    (c.type_bounds.send-B, (c.type_bounds.send-M-Signals, (c.type_bounds.send-M-Gate, (c.type_bounds.sync-M-Gate, ((refl, tt), (allowed, ((bodies, known.between.placed), known.between.hand)))))))

pub finish-requires : goal.finish-requires
finish-requires g c = λ lifetimes.
    let width = g.M.Mode.width c.args.mode.now in
    let s = c.args.built.now in
    let out = c.args.jobs.now.pool in
    let sets = c.requires.next.0 in
    let bodies = c.requires.next.1 in
    let h = c.requires.next.3 in
    let known = c.requires.next.4 in
    let next = subst (λ (t : Turn). IsTurn (recording s sets) h (length out) width (Some t)) c.in-Collect.is known.following in
    (c.type_bounds.send-B, (c.type_bounds.send-M-Signals, (c.type_bounds.send-M-Gate, (c.type_bounds.sync-M-Gate, ((refl, tt), (next.0, ((bodies, known.between.placed), known.between.hand.suits)))))))

pub returns-in_err-start-in-Take-clause-stopped : goal.returns-in_err-start-in-Take-clause-stopped
returns-in_err-start-in-Take-clause-stopped g c =
    let meaning = g.B.Body.meaning in
    let fits = g.B.Body.fits in
    let there = g.M.SpawnThreads.has_scope c.args.mode.now in
    let width = g.M.Mode.width c.args.mode.now in
    let s = c.args.built.now in
    let slots = c.args.jobs.now.bodies in
    let deferred = c.args.run.now.deferred in
    let out = c.args.jobs.now.pool in
    let w = c.args.run.now.state in
    let told = c.in_err-start-in-Take.field-0.0 in
    handed_on (StopsNext meaning fits there width s slots deferred out w c.args.turn) c.from_residual-in_err-start-in-Take.result told c.from_residual-in_err-start-in-Take.ensures.1
    (λ sets bodies start h known.
    let next = subst (λ (r : Ready). IsTake (recording s sets) h (length out) width r) c.in-Start.is (subst (λ (t : Turn). IsTurn (recording s sets) h (length out) width (Some t)) c.in-Take.is known.following) in
    stops_up there (λ met. (bodies : List BodyMeaning) → interleaved_cause_of s bodies (Begin c.in-Start.system) (woven w.state deferred out) ≡ Some met) (WideStops width s bodies start) told (λ met e. stops_plain width s sets bodies start met (stops_start width (recording s sets) bodies start h w.state deferred out known.between.stage c.in-Start.system met next (e bodies))) c.in_err-start-in-Take.ensures.stopped)

pub returns-in_err-system-in-Collect-clause-stopped : goal.returns-in_err-system-in-Collect-clause-stopped
returns-in_err-system-in-Collect-clause-stopped g c =
    let meaning = g.B.Body.meaning in
    let fits = g.B.Body.fits in
    let there = g.M.SpawnThreads.has_scope c.args.mode.now in
    let width = g.M.Mode.width c.args.mode.now in
    let s = c.args.built.now in
    let slots = c.args.jobs.now.bodies in
    let deferred = c.args.run.now.deferred in
    let out = c.args.jobs.now.pool in
    let w = c.args.run.now.state in
    let told = c.in_err-system-in-Collect.field-0.0 in
    handed_on (StopsNext meaning fits there width s slots deferred out w c.args.turn) c.from_residual.result told c.from_residual.ensures.1
    (λ sets bodies start h known.
    let next = subst (λ (t : Turn). IsTurn (recording s sets) h (length out) width (Some t)) c.in-Collect.is known.following in
    stops_up there (λ met. (job : JobOut g.row.B.Denot) × IsIn job out × (interleaved_cause_of s bodies (Finish job.system) (woven w.state deferred out) ≡ Some met)) (WideStops width s bodies start) told
    (λ met e. stops_plain width s sets bodies start met (stops_finish width (recording s sets) bodies start h w.state deferred out known.between.stage e.0.system met next.1
    (running_there width (recording s sets) bodies start h w.state deferred out known.between.stage e.0 e.1) (interleaved_cause-recording s sets bodies (Finish e.0.system) (woven w.state deferred out) ∙ e.2))) (c.in_err-system-in-Collect.ensures.stopped bodies known.between.placed))

pub returns-in_err-start-in-Take-clause-kept : goal.returns-in_err-start-in-Take-clause-kept
returns-in_err-start-in-Take-clause-kept g c =
    let meaning = g.B.Body.meaning in
    let fits = g.B.Body.fits in
    let there = g.M.SpawnThreads.has_scope c.args.mode.now in
    let width = g.M.Mode.width c.args.mode.now in
    let s = c.args.built.now in
    let slots = c.args.jobs.now.bodies in
    let deferred = c.args.run.now.deferred in
    let out = c.args.jobs.now.pool in
    let w = c.args.run.now.state in
    let told = c.in_err-start-in-Take.field-0.0 in
    handed_on (KeepsNext meaning fits there (g.M.Mode.stands c.args.mode.now) width s slots deferred out w c.args.turn c.start.new.jobs.bodies c.start.new.jobs.pool) c.from_residual-in_err-start-in-Take.result told c.from_residual-in_err-start-in-Take.ensures.1
    (λ lost sets bodies start h known.
    (let same = c.in_err-start-in-Take.ensures.kept lost in
    subst (λ xs. AreKept meaning fits there s bodies xs c.start.new.jobs.pool) (sym same.0) (subst (λ xs. AreKept meaning fits there s bodies slots xs) (sym same.1) (placed_kept meaning fits there s bodies slots out w known.between.placed))))

pub returns-in_err-system-in-Collect-clause-kept : goal.returns-in_err-system-in-Collect-clause-kept
returns-in_err-system-in-Collect-clause-kept g c =
    let meaning = g.B.Body.meaning in
    let fits = g.B.Body.fits in
    let there = g.M.SpawnThreads.has_scope c.args.mode.now in
    let width = g.M.Mode.width c.args.mode.now in
    let s = c.args.built.now in
    let slots = c.args.jobs.now.bodies in
    let deferred = c.args.run.now.deferred in
    let out = c.args.jobs.now.pool in
    let w = c.args.run.now.state in
    let told = c.in_err-system-in-Collect.field-0.0 in
    handed_on (KeepsNext meaning fits there (g.M.Mode.stands c.args.mode.now) width s slots deferred out w c.args.turn c.finish.new.jobs.bodies c.finish.new.jobs.pool) c.from_residual.result told c.from_residual.ensures.1
    (λ lost sets bodies start h known. c.in_err-system-in-Collect.ensures.kept bodies known.between.placed)

pub returns-in-Start-clause-taken : goal.returns-in-Start-clause-taken
returns-in-Start-clause-taken g c = rw c.plain-in-Start.ensures (λ sets bodies start h known.
    let width = g.M.Mode.width c.args.mode.now in
    let s = c.args.built.now in
    let deferred = c.args.run.now.deferred in
    let out = c.args.jobs.now.pool in
    let w = c.args.run.now.state in
    let next = subst (λ (r : Ready). IsTake (recording s sets) h (length out) width r) c.in-Start.is (subst (λ (t : Turn). IsTurn (recording s sets) h (length out) width (Some t)) c.in-Take.is known.following) in
    let started = c.in_ok-start-in-Take.ensures in
    record {
      may = next.allowed false;
      between = record {
        listed = known.between.listed;
        stage = stage_start width (recording s sets) bodies start h w.state deferred out known.between.stage c.in-Start.system c.start.new.run.state.state c.start.new.run.deferred c.start.new.jobs.pool next
            (interleaved_step-recording s sets bodies (Begin c.in-Start.system) (woven w.state deferred out) ∙ started.started bodies) started.longer;
        placed = started.placed bodies known.between.placed;
        hand = started.hand;
      };
    })

pub returns-in_ok-system-in-Collect-clause-taken : goal.returns-in_ok-system-in-Collect-clause-taken
returns-in_ok-system-in-Collect-clause-taken g c = rw c.plain.ensures (λ sets bodies start h known.
    let width = g.M.Mode.width c.args.mode.now in
    let s = c.args.built.now in
    let deferred = c.args.run.now.deferred in
    let out = c.args.jobs.now.pool in
    let w = c.args.run.now.state in
    let next = subst (λ (t : Turn). IsTurn (recording s sets) h (length out) width (Some t)) c.in-Collect.is known.following in
    let ended = c.in_ok-system-in-Collect.ensures in
    let running = subst (λ n. runs h n ≡ true) ended.running.2 (running_there width (recording s sets) bodies start h w.state deferred out known.between.stage ended.running.0 ended.running.1) in
    record {
      may = record { running = running };
      between = record {
        listed = known.between.listed;
        stage = stage_finish width (recording s sets) bodies start h w.state deferred out known.between.stage c.in_ok-system-in-Collect.system c.finish.new.run.state.state c.finish.new.run.deferred c.finish.new.jobs.pool next.1 running
            (interleaved_step-recording s sets bodies (Finish c.in_ok-system-in-Collect.system) (woven w.state deferred out) ∙ ended.finished bodies known.between.placed) ended.shorter;
        placed = ended.placed bodies known.between.placed;
        hand = ended.hand bodies known.between.placed known.keeps known.between.hand;
      };
    })

-- ---- what starts no system

pub do_plain-requires-clause-next : goal.do_plain-requires-clause-next
do_plain-requires-clause-next g c κs within =
    let meaning = g.B.Body.meaning in
    let fits = g.B.Body.fits in
    let there = g.M.SpawnThreads.has_scope c.args.mode.now in
    let width = g.M.Mode.width c.args.mode.now in
    let s = c.args.built.now in
    let slots = c.args.jobs.now.bodies in
    let deferred = c.args.run.now.deferred in
    let out = c.args.jobs.now.pool in
    let w = c.args.run.now.state in
    let sets = c.requires.next.0 in
    let bodies = c.requires.next.1 in
    let start = c.requires.next.2 in
    let h = c.requires.next.3 in
    let known = c.requires.next.4 in
    (there, width, sets, bodies, start, h, slots, out, record { between = known.between; take = subst (λ (t : Turn). IsTurn (recording s sets) h (length out) width (Some t)) c.in-Take.is known.following })

pub returns-in_err-done-in-Take : goal.returns-in_err-done-in-Take
returns-in_err-done-in-Take g c =
    let meaning = g.B.Body.meaning in
    let fits = g.B.Body.fits in
    let there = g.M.SpawnThreads.has_scope c.args.mode.now in
    let width = g.M.Mode.width c.args.mode.now in
    let s = c.args.built.now in
    let slots = c.args.jobs.now.bodies in
    let deferred = c.args.run.now.deferred in
    let out = c.args.jobs.now.pool in
    let w = c.args.run.now.state in
    let told = c.in_err-done-in-Take.field-0.0 in
    let result = c.from_residual-in_err-done-in-Take.result in
    let is = c.from_residual-in_err-done-in-Take.ensures.1 in
    record {
      taken = none_ok _ _ result is;
      quiet = none_ok _ _ result is;
      counted = none_ok _ _ result is;
      stopped = handed_on (StopsNext meaning fits there width s slots deferred out w c.args.turn) result told is
          (λ sets bodies start h known. c.in_err-done-in-Take.ensures.stopped there width sets bodies start h slots out
          (record { between = known.between; take = subst (λ (t : Turn). IsTurn (recording s sets) h (length out) width (Some t)) c.in-Take.is known.following }));
      kept = handed_on (KeepsNext meaning fits there (g.M.Mode.stands c.args.mode.now) width s slots deferred out w c.args.turn slots out) result told is
          (λ lost sets bodies start h known. placed_kept meaning fits there s bodies slots out w known.between.placed);
    }

pub returns-in_ok-done-in-Take : goal.returns-in_ok-done-in-Take
returns-in_ok-done-in-Take g c =
    let meaning = g.B.Body.meaning in
    let fits = g.B.Body.fits in
    let there = g.M.SpawnThreads.has_scope c.args.mode.now in
    let width = g.M.Mode.width c.args.mode.now in
    let s = c.args.built.now in
    let slots = c.args.jobs.now.bodies in
    let deferred = c.args.run.now.deferred in
    let out = c.args.jobs.now.pool in
    let w = c.args.run.now.state in
    record {
      taken = λ sets bodies start h known. c.in_ok-done-in-Take.ensures.taken there width sets bodies start h slots out
          (record { between = known.between; take = subst (λ (t : Turn). IsTurn (recording s sets) h (length out) width (Some t)) c.in-Take.is known.following });
      quiet = c.in_ok-done-in-Take.ensures.quiet;
      counted = sym (c.in_ok-done-in-Take.ensures.plain c.args.jobs.now.started);
      stopped = tt;
      kept = tt;
    }

-- ---- only a sync point may leave other kind sets

pub returns-in-Start-clause-quiet : goal.returns-in-Start-clause-quiet
returns-in-Start-clause-quiet g c = rw c.plain-in-Start.ensures (λ k is none. absurd (let clash = is in cc))

pub returns-in_ok-system-in-Collect-clause-quiet : goal.returns-in_ok-system-in-Collect-clause-quiet
returns-in_ok-system-in-Collect-clause-quiet g c = rw c.plain.ensures (λ k is none. absurd (let clash = is in cc))
