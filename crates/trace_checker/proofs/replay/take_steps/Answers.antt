use Rattle.std.proofs.Common.{◌≡◌, ◌+◌, ◌≤◌, ◌∷◌, List, [], Some, false, get_or, length, map, reverse, take, refl, sym, ap, subst, ◌∙◌, append-nil, arith}
use Rattle.model.specs.declared.steps.Step.TheVariants.{Cond}
use Rattle.model.specs.shown.Outcome.{BodyMeaning}
use Rattle.model.specs.steps.Lawful.{syncs_in, IsLawful, IsComplete}
use Rattle.model.specs.steps.Schedule.{recording}
use Rattle.model.specs.runs.Replays.{IsReplayed, IsStepTaken}
use Rattle.model.specs.runs.RunState.{after_opening, can_open}
use Rattle.model.proofs.lists.Lists.{provided-Some}
use Rattle.model.proofs.serial.Recording.{built-recording, cause-recording, given-recording}
use Rattle.archetype_store.specs.Layout.{AreAllHome}
use Rattle.body.specs.Steps.{store_of}
use Rattle.body.proofs.Outs.{all-home, none-out}
use Rattle.engine.specs.Deferred.{grants_at, run_with}
use Rattle.engine.specs.Meanings.{meanings}
use Rattle.engine.proofs.StateMemories.{memories_opened}
use Rattle.trace_checker.specs.ReplayFaults.{IsFaultOf, IsReplayFault, IsStepFault}
use Rattle.engine.specs.Stops.{CannotOpen, fault_of}
use Rattle.engine.proofs.Stops.{stops_up}
use Rattle.trace_checker.specs.declared.replay.ReplayFault.TheVariants as replay
use Rattle.trace_checker.proofs.Recording.{listed_at}
use Rattle.trace_checker.proofs.StepsRecording.{known_by, opened_right, opened_wrong, right_after, step_fault_by, taken_by}
use Rattle.trace_checker.proofs.Taking.{compared_wrong, fault_at, fresh_at, given_at, known_at, opening_told, reached_all, reached_next, waits_at}
use Rattle.trace_checker.proofs.Verdicts.{history_next, listed_step}
use Rattle.trace_checker.proofs.replay.take_steps.Goals as goal
use Rattle.model.proofs.lists.Results.{handed_on}

pub returns-in_err-open-clause-stopped : goal.returns-in_err-open-clause-stopped
returns-in_err-open-clause-stopped g c =
    let s = c.args.built.now in
    let r = c.args.trace.now in
    let ms = meanings g.B.Body.meaning s (map Some c.args.bodies.now) in
    let start = c.args.run.now.state.state in
    let told = c.in_err-open.field-0.0 in
    handed_on (IsReplayFault s ms start r) c.from_residual.result (replay.Run (fault_of told)) c.from_residual.ensures.1
    (opening_told (recording s r.sets) ms start r.steps told c.requires.lawful c.requires.complete
    (stops_up false (CannotOpen s start) (CannotOpen (recording s r.sets) start) told (λ met e. cause-recording s r.sets ms start [] ∙ e) c.in_err-open.ensures.stopped))

pub compare_sets-requires : goal.compare_sets-requires
compare_sets-requires g c =
    let r = c.args.trace.now in
    record { listed = listed_at r.sets r.steps r.steps [] c.prove_law-3.ensures (sym (append-nil r.steps)) }

pub returns-in_err-compare_sets-clause-stopped : goal.returns-in_err-compare_sets-clause-stopped
returns-in_err-compare_sets-clause-stopped g c =
    let s = c.args.built.now in
    let r = c.args.trace.now in
    let ms = meanings g.B.Body.meaning s (map Some c.args.bodies.now) in
    let start = c.args.run.now.state.state in
    let later = c.open.new.self in
    let fault = c.in_err-compare_sets.field-0.0 in
    handed_on (IsReplayFault s ms start r) c.from_residual-in_err-compare_sets.result fault c.from_residual-in_err-compare_sets.ensures.1
    (opened_wrong s r.sets ms start r.steps (run_with later.state.state later.deferred) fault c.requires.lawful c.requires.complete c.in_ok-open.ensures.opened c.in_err-compare_sets.ensures.wrong)

pub loop-step-init : goal.loop-step-init
loop-step-init g c =
    let s = c.args.built.now in
    let r = c.args.trace.now in
    let ms = meanings g.B.Body.meaning s (map Some c.args.bodies.now) in
    let w = c.args.run.now.state.state in
    let later = c.open.new.self in
    let opened = c.in_ok-open.ensures in
    record {
      count = refl;
      place = refl;
      within = omega arith;
      reached = opened_right s r.sets ms w (run_with later.state.state later.deferred) opened.opened c.in_ok-compare_sets.ensures.right;
      stands = record {
        suits = record {
          body_count = c.requires.stands.suits.body_count;
          memories = memories_opened s w c.requires.stands.suits.memories later.deferred later.state.state
              (sym (provided-Some (can_open s w) (after_opening s w) (run_with later.state.state later.deferred) opened.opened).1);
          fit = c.requires.stands.suits.fit;
        };
        out = none-out (store_of later.state) (subst AreAllHome (sym opened.layout) (all-home (store_of c.args.run.now.state) c.prove_law-2.ensures.laid c.requires.stands.out));
        deferred_for = opened.suits;
        hand = opened.in_hand;
      };
      meant = refl;
    }

pub take-requires-clause-known : goal.take-requires-clause-known
take-requires-clause-known g c κs within =
    let s = c.args.built.now in
    let r = c.args.trace.now in
    let steps = c.steps-steps.result.now in
    known_by s r.sets (get_or steps c.loop-step.step-index (Cond 0 false))
    (known_at (recording s r.sets) (meanings g.B.Body.meaning s (map Some c.args.bodies.now)) c.args.run.now.state.state steps c.loop-step.step-index (Cond 0 false) c.loop-step-test.true
    (subst (IsLawful (recording s r.sets)) c.steps-steps.ensures c.requires.lawful))

pub take-requires-clause-fresh : goal.take-requires-clause-fresh
take-requires-clause-fresh g c κs within = λ n e.
    let s = c.args.built.now in
    let r = c.args.trace.now in
    fresh_at (recording s r.sets) (meanings g.B.Body.meaning s (map Some c.args.bodies.now)) c.args.run.now.state.state c.steps-steps.result.now c.loop-step.step-index (Cond 0 false) c.loop-step-test.true n
    (run_with c.loop-step.run.state.state c.loop-step.run.deferred) (subst (IsLawful (recording s r.sets)) c.steps-steps.ensures c.requires.lawful) c.loop-step.invariant.reached e

pub take-requires-clause-given : goal.take-requires-clause-given
take-requires-clause-given g c κs within = λ n e.
    let s = c.args.built.now in
    let r = c.args.trace.now in
    given-recording (recording s r.sets) s.sets n (grants_at c.loop-step.run.deferred n)
    (given_at (recording s r.sets) (meanings g.B.Body.meaning s (map Some c.args.bodies.now)) c.args.run.now.state.state c.steps-steps.result.now c.loop-step.step-index (Cond 0 false) c.loop-step-test.true n
    (run_with c.loop-step.run.state.state c.loop-step.run.deferred) (built-recording s r.sets c.prove_law.ensures) (subst (IsLawful (recording s r.sets)) c.steps-steps.ensures c.requires.lawful)
    c.loop-step.invariant.reached e)

pub take-requires-clause-waits : goal.take-requires-clause-waits
take-requires-clause-waits g c κs within = λ k n e above.
    let s = c.args.built.now in
    let r = c.args.trace.now in
    waits_at (recording s r.sets) (meanings g.B.Body.meaning s (map Some c.args.bodies.now)) c.args.run.now.state.state c.steps-steps.result.now c.loop-step.step-index (Cond 0 false) c.loop-step-test.true k n
    (run_with c.loop-step.run.state.state c.loop-step.run.deferred) (subst (IsLawful (recording s r.sets)) c.steps-steps.ensures c.requires.lawful) c.loop-step.invariant.reached e above

pub returns-in_err-take-clause-stopped : goal.returns-in_err-take-clause-stopped
returns-in_err-take-clause-stopped g c =
    let s = c.args.built.now in
    let r = c.args.trace.now in
    let S = recording s r.sets in
    let ms = meanings g.B.Body.meaning s (map Some c.args.bodies.now) in
    let start = c.args.run.now.state.state in
    let steps = c.steps-steps.result.now in
    let whole = c.steps-steps.ensures in
    let run = run_with c.loop-step.run.state.state c.loop-step.run.deferred in
    let inv = c.loop-step.invariant in
    let fault = c.in_err-take.field-0.0 in
    let step = get_or steps c.loop-step.step-index (Cond 0 false) in
    let number = c.loop-step.number + 1 in
    handed_on (IsReplayFault s ms start r) c.from_residual-in_err-take.result fault c.from_residual-in_err-take.ensures.1
    (subst (λ h. IsFaultOf S ms start h fault) (sym whole)
    (fault_at S ms start steps c.loop-step.step-index (Cond 0 false) c.loop-step-test.true run number fault (let e = inv.count in omega arith)
    (subst (IsLawful S) whole c.requires.lawful) (subst (IsComplete S) whole c.requires.complete) inv.reached
    (step_fault_by s r.sets ms run step number fault (subst (λ (bs : List BodyMeaning). IsStepFault s bs run step number fault) inv.meant c.in_err-take.ensures.stopped))))

pub compare_after-requires : goal.compare_after-requires
compare_after-requires g c =
    let r = c.args.trace.now in
    let steps = c.steps-steps.result.now in
    let i = c.loop-step.step-index in
    record {
      listed = listed_step r steps i (Cond 0 false) (c.loop-step.place + c.syncs_of-place.result) c.prove_law-3.ensures c.steps-steps.ensures c.loop-step-test.true
          (ap (λ n. n + c.syncs_of-place.result) c.loop-step.invariant.place ∙ sym (c.syncs_of-place.ensures.counted (reverse (take i steps))));
    }

pub returns-in_err-compare_after-clause-stopped : goal.returns-in_err-compare_after-clause-stopped
returns-in_err-compare_after-clause-stopped g c =
    let s = c.args.built.now in
    let r = c.args.trace.now in
    let ms = meanings g.B.Body.meaning s (map Some c.args.bodies.now) in
    let start = c.args.run.now.state.state in
    let steps = c.steps-steps.result.now in
    let i = c.loop-step.step-index in
    let inv = c.loop-step.invariant in
    let run = run_with c.loop-step.run.state.state c.loop-step.run.deferred in
    let later = c.take.new.run in
    let after = run_with later.state.state later.deferred in
    let fault = c.in_err-compare_after.field-0.0 in
    let step = get_or steps i (Cond 0 false) in
    let place = ap (λ n. n + c.syncs_of-place.result) inv.place ∙ sym (c.syncs_of-place.ensures.counted (reverse (take i steps))) in
    handed_on (IsReplayFault s ms start r) c.from_residual-in_err-compare_after.result fault c.from_residual-in_err-compare_after.ensures.1
    (compared_wrong s r ms start steps i (Cond 0 false) run after (c.loop-step.place + c.syncs_of-place.result) (c.loop-step.number + 1) fault c.steps-steps.ensures c.loop-step-test.true
    c.requires.lawful c.requires.complete inv.reached (subst (λ (bs : List BodyMeaning). IsStepTaken s bs run step after) inv.meant c.in_ok-take.ensures.taken) place
    (let e = inv.count in omega arith) c.in_err-compare_after.ensures.wrong)

pub loop-step-preserved : goal.loop-step-preserved
loop-step-preserved g c =
    let s = c.args.built.now in
    let r = c.args.trace.now in
    let S = recording s r.sets in
    let ms = meanings g.B.Body.meaning s (map Some c.args.bodies.now) in
    let start = c.args.run.now.state.state in
    let steps = c.steps-steps.result.now in
    let i = c.loop-step.step-index in
    let inv = c.loop-step.invariant in
    let run = run_with c.loop-step.run.state.state c.loop-step.run.deferred in
    let later = c.take.new.run in
    let after = run_with later.state.state later.deferred in
    let front = reverse (take i steps) in
    let step = get_or steps i (Cond 0 false) in
    let next : step ∷ front ≡ reverse (take (i + 1) steps) = history_next steps i (Cond 0 false) c.loop-step-test.true in
    let place : c.loop-step.place + c.syncs_of-place.result ≡ syncs_in (step ∷ front) = ap (λ n. n + c.syncs_of-place.result) inv.place ∙ sym (c.syncs_of-place.ensures.counted front) in
    let ok = c.in_ok-take.ensures in
    let taken = subst (λ (bs : List BodyMeaning). IsStepTaken s bs run step after) inv.meant ok.taken in
    record {
      count = let e = inv.count in omega arith;
      place = place ∙ ap syncs_in next;
      within = let few = c.syncs_of-place.ensures.one in let so_far = inv.within in omega (arith, few, so_far);
      reached = reached_next S ms start steps i (Cond 0 false) c.loop-step-test.true run after inv.reached (taken_by s r.sets ms run step after taken)
          (right_after s r.sets ms front step after (c.loop-step.place + c.syncs_of-place.result) place c.in_ok-compare_after.ensures.right);
      stands = ok.stands;
      meant = ok.meanings ∙ inv.meant;
    }

pub returns-clause-replayed : goal.returns-clause-replayed
returns-clause-replayed g c =
    let s = c.args.built.now in
    let r = c.args.trace.now in
    let S = recording s r.sets in
    let ms = meanings g.B.Body.meaning s (map Some c.args.bodies.now) in
    let start = c.args.run.now.state.state in
    let steps = c.steps-steps.result.now in
    let whole = c.steps-steps.ensures in
    let past : length steps ≤ c.loop-step.step-index = let f = c.loop-step-test.false in omega arith in
    subst (λ h. IsReplayed S ms start h c.loop-step.run.state.state) (sym whole)
    (reached_all S ms start steps c.loop-step.step-index (run_with c.loop-step.run.state.state c.loop-step.run.deferred) past
    (subst (IsLawful S) whole c.requires.lawful) (subst (IsComplete S) whole c.requires.complete) c.loop-step.invariant.reached)
