use Rattle.std.proofs.Common.{ℕ, ◌≡◌, List, [], ◌∷◌, Option, Some, is_some, length, refl, sym, ap, ◌∙◌, subst, subst₂, arith}
use Rattle.model.specs.declared.steps.Step.{Step}
use Rattle.model.specs.steps.Schedule.{Schedule, recording}
use Rattle.model.specs.steps.Lawful.{IsComplete, May}
use Rattle.model.specs.runs.Meaning.{AreSetsOf}
use Rattle.model.specs.runs.WideRuns.{WideStops}
use Rattle.model.proofs.serial.Recording.{begin_run-recording}
use Rattle.executor_core.specs.Stands.{Stand, Stands}
use Rattle.engine.specs.Jobs.{woven, AreKept}
use Rattle.engine.specs.Meanings.{meanings}
use Rattle.engine.specs.Next.{IsBetween, IsNext}
use Rattle.engine.specs.Stops.{CannotOpen, StopsBy}
use Rattle.engine.specs.Starts.{starts_in, starts_with}
use Rattle.engine.proofs.JobsOut.{meanings_count, placed_first, placed_kept}
use Rattle.engine.proofs.RunStages.{stage_open, stage_end, stops_open, none_there, falls}
use Rattle.engine.proofs.Stops.{lost_or_kept, stops_among}
use Rattle.engine.proofs.LevelGrants.{no_elements}
use Rattle.engine.proofs.Turns.{turn_next, placed_open, in_hand_none, rest_end}
use Rattle.executor_core.specs.Stands.{AreMeetings}
use Rattle.engine.specs.Latest.{IsFollowing}
use Rattle.engine.proofs.RunEnd.{following_on, latest_there}
use Rattle.engine.proofs.coordinator.run_turns.Goals as goal
use Rattle.model.proofs.lists.Results.{handed_on}

pub returns-in_err-open-clause-kept : goal.returns-in_err-open-clause-kept
returns-in_err-open-clause-kept g c = λ lost.
    let meaning = g.B.Body.meaning in
    let fits = g.B.Body.fits in
    let there = g.M.SpawnThreads.has_scope c.args.mode.now in
    let s = c.args.built.now in
    let bodies = meanings meaning s c.args.jobs.now.bodies in
    let first = placed_kept meaning fits there s bodies c.args.jobs.now.bodies [] c.args.run.now.state (placed_first meaning fits there s c.args.jobs.now.bodies c.args.run.now.state c.requires.rest.suits c.requires.rest.home) in
    subst (λ xs. AreKept meaning fits there s bodies c.args.jobs.now.bodies xs) (sym c.requires.empty) first

pub returns-in_err-trace-clause-kept : goal.returns-in_err-trace-clause-kept
returns-in_err-trace-clause-kept g c = λ lost.
    let meaning = g.B.Body.meaning in
    let fits = g.B.Body.fits in
    let there = g.M.SpawnThreads.has_scope c.args.mode.now in
    let s = c.args.built.now in
    let bodies = meanings meaning s c.args.jobs.now.bodies in
    let first = placed_kept meaning fits there s bodies c.args.jobs.now.bodies [] c.args.run.now.state (placed_first meaning fits there s c.args.jobs.now.bodies c.args.run.now.state c.requires.rest.suits c.requires.rest.home) in
    subst (λ xs. AreKept meaning fits there s bodies c.args.jobs.now.bodies xs) (sym c.requires.empty) first

pub returns-in_err-open-clause-stopped : goal.returns-in_err-open-clause-stopped
returns-in_err-open-clause-stopped g c =
    let meaning = g.B.Body.meaning in
    let there = g.M.SpawnThreads.has_scope c.args.mode.now in
    let width = g.M.Mode.width c.args.mode.now in
    let s = c.args.built.now in
    let bodies = meanings meaning s c.args.jobs.now.bodies in
    let start = c.args.run.now.state.state in
    let told = c.in_err-open.field-0.0 in
    handed_on (StopsBy there (WideStops width s bodies start)) c.from_residual.result told c.from_residual.ensures.1
    (stops_among there (CannotOpen s start) (WideStops width s bodies start) told (stops_open width s bodies start) c.in_err-open.ensures.stopped)

pub loop-turn-init : goal.loop-turn-init
loop-turn-init g c =
    let meaning = g.B.Body.meaning in
    let fits = g.B.Body.fits in
    let there = g.M.SpawnThreads.has_scope c.args.mode.now in
    let width = g.M.Mode.width c.args.mode.now in
    let s = c.args.built.now in
    let bodies = meanings meaning s c.args.jobs.now.bodies in
    let start = c.args.run.now.state.state in
    let later = c.open.new.self in
    let opened = c.in_ok-open.ensures in
    let trace = c.in_ok-trace.trace in
    let made = c.in_ok-trace.ensures in
    let opening = c.args.recording.now.sets in
    let told : AreSetsOf (Some opening) (Some (woven {B = g.row.B.Denot} later.state.state later.deferred [])) = c.requires.following.there ∙ sym opened.sets in
    record {
      schedule = c.begin.ensures.schedule ∙ ap (λ (x : Stand). x.schedule) c.deref_mut-core.ensures.value ∙ c.requires.following.knows.schedule;
      records = ap (λ (o : Option (List (List ℕ))). is_some o) made.sets;
      stands = subst₂ (Stands c.begin.new.core) (sym made.sets) (sym made.steps) made.stands;
      started = ap starts_in (sym made.steps);
      between = subst₂ (λ (ys : Option (List (List ℕ))) (x : List Step). IsBetween meaning fits there width s ys bodies start x c.args.jobs.now.bodies later.deferred c.args.jobs.now.pool later.state) (sym made.sets) (sym made.steps) (record {
        listed = refl;
        stage = stage_open width (recording s (Some (opening ∷ []))) bodies start later.state.state later.deferred c.args.jobs.now.pool
            (begin_run-recording s (Some (opening ∷ [])) start ∙ opened.opened) told c.requires.empty;
        placed = placed_open meaning fits there s c.args.jobs.now.bodies c.args.jobs.now.pool c.args.run.now.state later.state later.deferred c.requires.empty opened.opened opened.layout c.requires.rest.suits c.requires.rest.home;
        hand = in_hand_none s later.deferred c.args.jobs.now.pool later.state (ap length c.requires.empty) opened.suits opened.in_hand;
      });
    }

pub open-requires-clause-suits : goal.open-requires-clause-suits
open-requires-clause-suits g c = c.clear.ensures.suits c.args.built.now c.requires.rest.deferred_for

pub do_turn-requires : goal.do_turn-requires
do_turn-requires g c = λ lifetimes.
    let meaning = g.B.Body.meaning in
    let fits = g.B.Body.fits in
    let there = g.M.SpawnThreads.has_scope c.args.mode.now in
    let width = g.M.Mode.width c.args.mode.now in
    let s = c.args.built.now in
    let bodies = meanings meaning s c.args.jobs.now.bodies in
    let start = c.args.run.now.state.state in
    let inv = c.loop-turn.invariant in
    let core = c.loop-turn.core in
    let trace = c.loop-turn.trace in
    let sets = trace.sets in
    let h = trace.steps in
    let slots = c.loop-turn.jobs.bodies in
    let out = c.loop-turn.jobs.pool in
    let w = c.loop-turn.run.state in
    let deferred = c.loop-turn.run.deferred in
    let next = turn_next core s sets h c.count.result c.width-width.result c.in-Some.turn inv.schedule inv.stands c.in-Some.ensures (length out) width c.count.ensures c.width-width.ensures.width in
    let known : IsNext meaning fits there width s sets bodies start h slots deferred out w c.in-Some.turn = record {
      between = inv.between;
      keeps = c.requires.rest.keeps;
      following = next;
    } in
    (c.type_bounds.send-B, (c.type_bounds.send-M-Signals, (c.type_bounds.send-M-Gate, (c.type_bounds.sync-M-Gate, ((refl, tt), (sets, bodies, start, h, known))))))

pub returns-in_err-done-clause-stopped : goal.returns-in_err-done-clause-stopped
returns-in_err-done-clause-stopped g c =
    let meaning = g.B.Body.meaning in
    let fits = g.B.Body.fits in
    let there = g.M.SpawnThreads.has_scope c.args.mode.now in
    let width = g.M.Mode.width c.args.mode.now in
    let s = c.args.built.now in
    let bodies = meanings meaning s c.args.jobs.now.bodies in
    let start = c.args.run.now.state.state in
    let inv = c.loop-turn.invariant in
    let core = c.loop-turn.core in
    let trace = c.loop-turn.trace in
    let sets = trace.sets in
    let h = trace.steps in
    let slots = c.loop-turn.jobs.bodies in
    let out = c.loop-turn.jobs.pool in
    let w = c.loop-turn.run.state in
    let deferred = c.loop-turn.run.deferred in
    let next = turn_next core s sets h c.count.result c.width-width.result c.in-Some.turn inv.schedule inv.stands c.in-Some.ensures (length out) width c.count.ensures c.width-width.ensures.width in
    let known : IsNext meaning fits there width s sets bodies start h slots deferred out w c.in-Some.turn = record {
      between = inv.between;
      keeps = c.requires.rest.keeps;
      following = next;
    } in
    let told = c.in_err-done.field-0.0 in
    handed_on (StopsBy there (WideStops width s bodies start)) c.from_residual-in_err-done.result told c.from_residual-in_err-done.ensures.1 (c.in_err-done.ensures.stopped sets bodies start h known)

pub returns-in_err-done-clause-kept : goal.returns-in_err-done-clause-kept
returns-in_err-done-clause-kept g c =
    let meaning = g.B.Body.meaning in
    let fits = g.B.Body.fits in
    let there = g.M.SpawnThreads.has_scope c.args.mode.now in
    let width = g.M.Mode.width c.args.mode.now in
    let s = c.args.built.now in
    let bodies = meanings meaning s c.args.jobs.now.bodies in
    let start = c.args.run.now.state.state in
    let inv = c.loop-turn.invariant in
    let core = c.loop-turn.core in
    let trace = c.loop-turn.trace in
    let sets = trace.sets in
    let h = trace.steps in
    let slots = c.loop-turn.jobs.bodies in
    let out = c.loop-turn.jobs.pool in
    let w = c.loop-turn.run.state in
    let deferred = c.loop-turn.run.deferred in
    let next = turn_next core s sets h c.count.result c.width-width.result c.in-Some.turn inv.schedule inv.stands c.in-Some.ensures (length out) width c.count.ensures c.width-width.ensures.width in
    let known : IsNext meaning fits there width s sets bodies start h slots deferred out w c.in-Some.turn = record {
      between = inv.between;
      keeps = c.requires.rest.keeps;
      following = next;
    } in
    let told = c.in_err-done.field-0.0 in
    lost_or_kept c.from_residual-in_err-done.result told c.from_residual-in_err-done.ensures.1 (λ lost. c.in_err-done.ensures.kept lost sets bodies start h known)

pub take-requires-clause-may : goal.take-requires-clause-may
take-requires-clause-may g c =
    let meaning = g.B.Body.meaning in
    let fits = g.B.Body.fits in
    let there = g.M.SpawnThreads.has_scope c.args.mode.now in
    let width = g.M.Mode.width c.args.mode.now in
    let s = c.args.built.now in
    let bodies = meanings meaning s c.args.jobs.now.bodies in
    let start = c.args.run.now.state.state in
    let inv = c.loop-turn.invariant in
    let core = c.loop-turn.core in
    let trace = c.loop-turn.trace in
    let sets = trace.sets in
    let h = trace.steps in
    let slots = c.loop-turn.jobs.bodies in
    let out = c.loop-turn.jobs.pool in
    let w = c.loop-turn.run.state in
    let deferred = c.loop-turn.run.deferred in
    let next = turn_next core s sets h c.count.result c.width-width.result c.in-Some.turn inv.schedule inv.stands c.in-Some.ensures (length out) width c.count.ensures c.width-width.ensures.width in
    let known : IsNext meaning fits there width s sets bodies start h slots deferred out w c.in-Some.turn = record {
      between = inv.between;
      keeps = c.requires.rest.keeps;
      following = next;
    } in
    subst (λ (x : Schedule). May (recording x sets) h c.in_ok-done.done.step) (sym inv.schedule) (c.in_ok-done.ensures.taken sets bodies start h known).may

pub returns-in_err-take-clause-kept : goal.returns-in_err-take-clause-kept
returns-in_err-take-clause-kept g c = λ lost.
    let meaning = g.B.Body.meaning in
    let fits = g.B.Body.fits in
    let there = g.M.SpawnThreads.has_scope c.args.mode.now in
    let width = g.M.Mode.width c.args.mode.now in
    let s = c.args.built.now in
    let bodies = meanings meaning s c.args.jobs.now.bodies in
    let start = c.args.run.now.state.state in
    let inv = c.loop-turn.invariant in
    let core = c.loop-turn.core in
    let trace = c.loop-turn.trace in
    let sets = trace.sets in
    let h = trace.steps in
    let slots = c.loop-turn.jobs.bodies in
    let out = c.loop-turn.jobs.pool in
    let w = c.loop-turn.run.state in
    let deferred = c.loop-turn.run.deferred in
    let next = turn_next core s sets h c.count.result c.width-width.result c.in-Some.turn inv.schedule inv.stands c.in-Some.ensures (length out) width c.count.ensures c.width-width.ensures.width in
    let known : IsNext meaning fits there width s sets bodies start h slots deferred out w c.in-Some.turn = record {
      between = inv.between;
      keeps = c.requires.rest.keeps;
      following = next;
    } in
    let after = (c.in_ok-done.ensures.taken sets bodies start h known).between in
    placed_kept meaning fits there s bodies c.do_turn.new.jobs.bodies c.do_turn.new.jobs.pool c.do_turn.new.run.state after.placed

pub loop-turn-smaller : goal.loop-turn-smaller
loop-turn-smaller g c =
    let ok = c.in_ok-take.ensures in
    falls c.take.new.core c.args.built.now c.take.new.trace.sets c.loop-turn.trace.steps c.take.new.trace.steps c.in_ok-done.done.step (ok.schedule ∙ c.loop-turn.invariant.schedule) ok.stands ok.steps

pub loop-turn-preserved : goal.loop-turn-preserved
loop-turn-preserved g c =
    let meaning = g.B.Body.meaning in
    let fits = g.B.Body.fits in
    let there = g.M.SpawnThreads.has_scope c.args.mode.now in
    let width = g.M.Mode.width c.args.mode.now in
    let s = c.args.built.now in
    let bodies = meanings meaning s c.args.jobs.now.bodies in
    let start = c.args.run.now.state.state in
    let inv = c.loop-turn.invariant in
    let core = c.loop-turn.core in
    let trace = c.loop-turn.trace in
    let sets = trace.sets in
    let h = trace.steps in
    let slots = c.loop-turn.jobs.bodies in
    let out = c.loop-turn.jobs.pool in
    let w = c.loop-turn.run.state in
    let deferred = c.loop-turn.run.deferred in
    let next = turn_next core s sets h c.count.result c.width-width.result c.in-Some.turn inv.schedule inv.stands c.in-Some.ensures (length out) width c.count.ensures c.width-width.ensures.width in
    let known : IsNext meaning fits there width s sets bodies start h slots deferred out w c.in-Some.turn = record {
      between = inv.between;
      keeps = c.requires.rest.keeps;
      following = next;
    } in
    let ok = c.in_ok-take.ensures in
    let after = (c.in_ok-done.ensures.taken sets bodies start h known).between in
    let later = c.do_turn.new in
    record {
      schedule = ok.schedule ∙ inv.schedule;
      records = ok.records;
      stands = ok.stands;
      started = c.in_ok-done.ensures.counted ∙ ap (starts_with c.in_ok-done.done.step) inv.started ∙ sym (ap starts_in ok.steps);
      between = subst₂ (λ (ys : Option (List (List ℕ))) (x : List Step). IsBetween meaning fits there width s ys bodies start x later.jobs.bodies later.run.deferred later.jobs.pool later.run.state) (sym ok.sets) (sym ok.steps) after;
    }

pub returns-clause-ran : goal.returns-clause-ran
returns-clause-ran g c =
    let meaning = g.B.Body.meaning in
    let fits = g.B.Body.fits in
    let there = g.M.SpawnThreads.has_scope c.args.mode.now in
    let width = g.M.Mode.width c.args.mode.now in
    let s = c.args.built.now in
    let bodies = meanings meaning s c.args.jobs.now.bodies in
    let start = c.args.run.now.state.state in
    let inv = c.loop-turn.invariant in
    let core = c.loop-turn.core in
    let trace = c.loop-turn.trace in
    let sets = trace.sets in
    let h = trace.steps in
    let slots = c.loop-turn.jobs.bodies in
    let out = c.loop-turn.jobs.pool in
    let w = c.loop-turn.run.state in
    let deferred = c.loop-turn.run.deferred in
    let told = c.in_default.ensures sets h inv.stands in
    let none : length out ≡ 0 = let a = c.count.ensures in let b = told.0 in omega arith in
    record {
      trace = trace;
      more = c.in_ok-add.ensures.traces;
      records = inv.records;
      ran = stage_end width (recording s sets) bodies start h w.state deferred out inv.between.stage none
          (subst (λ (x : Schedule). IsComplete (recording x sets) h) inv.schedule (told.1 (none_there width (recording s sets) bodies start h w.state deferred out inv.between.stage none)));
    }

pub returns-clause-rest : goal.returns-clause-rest
returns-clause-rest g c =
    let meaning = g.B.Body.meaning in
    let fits = g.B.Body.fits in
    let there = g.M.SpawnThreads.has_scope c.args.mode.now in
    let width = g.M.Mode.width c.args.mode.now in
    let s = c.args.built.now in
    let bodies = meanings meaning s c.args.jobs.now.bodies in
    let start = c.args.run.now.state.state in
    let inv = c.loop-turn.invariant in
    let core = c.loop-turn.core in
    let trace = c.loop-turn.trace in
    let sets = trace.sets in
    let h = trace.steps in
    let slots = c.loop-turn.jobs.bodies in
    let out = c.loop-turn.jobs.pool in
    let w = c.loop-turn.run.state in
    let deferred = c.loop-turn.run.deferred in
    let told = c.in_default.ensures sets h inv.stands in
    let none : length out ≡ 0 = let a = c.count.ensures in let b = told.0 in omega arith in
    rest_end meaning fits there s bodies slots out w inv.between.placed deferred none (meanings_count meaning fits there s c.args.jobs.now.bodies c.requires.rest.suits.body_count) c.prove_law.ensures.laid c.requires.rest.keeps inv.between.hand

pub returns-clause-empty : goal.returns-clause-empty
returns-clause-empty g c =
    let meaning = g.B.Body.meaning in
    let fits = g.B.Body.fits in
    let there = g.M.SpawnThreads.has_scope c.args.mode.now in
    let width = g.M.Mode.width c.args.mode.now in
    let s = c.args.built.now in
    let bodies = meanings meaning s c.args.jobs.now.bodies in
    let start = c.args.run.now.state.state in
    let inv = c.loop-turn.invariant in
    let core = c.loop-turn.core in
    let trace = c.loop-turn.trace in
    let sets = trace.sets in
    let h = trace.steps in
    let slots = c.loop-turn.jobs.bodies in
    let out = c.loop-turn.jobs.pool in
    let w = c.loop-turn.run.state in
    let deferred = c.loop-turn.run.deferred in
    let told = c.in_default.ensures sets h inv.stands in
    let none : length out ≡ 0 = let a = c.count.ensures in let b = told.0 in omega arith in
    no_elements out none

pub returns-clause-kept : goal.returns-clause-kept
returns-clause-kept g c = λ lost.
    let meaning = g.B.Body.meaning in
    let fits = g.B.Body.fits in
    let there = g.M.SpawnThreads.has_scope c.args.mode.now in
    let s = c.args.built.now in
    let bodies = meanings meaning s c.args.jobs.now.bodies in
    let inv = c.loop-turn.invariant in
    let slots = c.loop-turn.jobs.bodies in
    let out = c.loop-turn.jobs.pool in
    let w = c.loop-turn.run.state in
    placed_kept meaning fits there s bodies slots out w inv.between.placed

pub returns-in_err-add-clause-kept : goal.returns-in_err-add-clause-kept
returns-in_err-add-clause-kept g c = λ lost.
    let meaning = g.B.Body.meaning in
    let fits = g.B.Body.fits in
    let there = g.M.SpawnThreads.has_scope c.args.mode.now in
    let s = c.args.built.now in
    let bodies = meanings meaning s c.args.jobs.now.bodies in
    let inv = c.loop-turn.invariant in
    let slots = c.loop-turn.jobs.bodies in
    let out = c.loop-turn.jobs.pool in
    let w = c.loop-turn.run.state in
    placed_kept meaning fits there s bodies slots out w inv.between.placed

pub returns-clause-following : goal.returns-clause-following
returns-clause-following g c =
    let s = c.args.built.now in
    let bodies = meanings g.B.Body.meaning s c.args.jobs.now.bodies in
    let start = c.args.run.now.state.state in
    let inv = c.loop-turn.invariant in
    let trace = c.loop-turn.trace in
    let state = c.loop-turn.run.state.state in
    let latest = latest_there (g.M.Mode.width c.args.mode.now) s trace.sets bodies start trace.steps state c.loop-turn.run.deferred c.loop-turn.jobs.pool inv.records inv.between.stage in
    subst (λ (x : Stand). IsFollowing x s c.add.new.self.sets state.world.slots) (sym (ap (λ b. b.value) c.in_ok-add.ensures.core))
    (following_on c.loop-turn.core s trace c.add.new.self.sets state.world.slots inv.schedule inv.stands latest c.in_ok-add.ensures.sets)

pub begin-requires : goal.begin-requires
begin-requires g c = subst (λ (x : Stand). AreMeetings x c.args.recording.now.sets) (sym c.deref_mut-core.ensures.value) c.requires.following.knows.meetings

pub add-requires : goal.add-requires
add-requires g c =
    let s = c.args.built.now in
    let bodies = meanings g.B.Body.meaning s c.args.jobs.now.bodies in
    let start = c.args.run.now.state.state in
    let inv = c.loop-turn.invariant in
    let trace = c.loop-turn.trace in
    let latest = latest_there (g.M.Mode.width c.args.mode.now) s trace.sets bodies start trace.steps c.loop-turn.run.state.state c.loop-turn.run.deferred c.loop-turn.jobs.pool inv.records inv.between.stage in
    ap (λ (o : Option (List ℕ)). is_some o) latest

pub take-requires-clause-latest : goal.take-requires-clause-latest
take-requires-clause-latest g c = λ k is quiet.
    let s = c.args.built.now in
    let bodies = meanings g.B.Body.meaning s c.args.jobs.now.bodies in
    let start = c.args.run.now.state.state in
    let inv = c.loop-turn.invariant in
    let trace = c.loop-turn.trace in
    let state = c.loop-turn.run.state.state in
    latest_there (g.M.Mode.width c.args.mode.now) s trace.sets bodies start trace.steps state c.loop-turn.run.deferred c.loop-turn.jobs.pool inv.records inv.between.stage
    ∙ ap Some (sym (c.in_ok-done.ensures.quiet k is quiet))

pub returns-clause-counted : goal.returns-clause-counted
returns-clause-counted g c = (c.loop-turn.trace, c.in_ok-add.ensures.traces, c.loop-turn.invariant.started)
