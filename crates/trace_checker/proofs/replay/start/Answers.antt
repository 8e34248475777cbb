use Rattle.std.proofs.Common.{◌≡◌, ◌<◌, [], false, None, Some, length, map, sym, ap, ap₂, ◌∙◌, subst, append-nil, arith}
use Rattle.model.specs.declared.steps.Step.TheVariants.{Start as Begin}
use Rattle.model.specs.runs.RunState.{next_tick}
use Rattle.body.specs.Lent.{AreLent}
use Rattle.body.specs.Out.{AreOut}
use Rattle.body.specs.Seen.{Opening, Seen}
use Rattle.body.specs.Steps.{StateValue, laid, store_of}
use Rattle.body.proofs.Outs.{home-apart}
use Rattle.model.specs.steps.Schedule.{params_of}
use Rattle.engine.specs.Deferred.{DeferredValue, AreInHand, IsDeferredFor, run_with, with_commands}
use Rattle.engine.specs.Meanings.{HasMemories, meanings}
use Rattle.engine.proofs.InterleavedSteps.{numbers_of}
use Rattle.model.specs.runs.Replays.{IsStepTaken}
use Rattle.engine.specs.Stops.{IsNotLaid, LacksTick, StopsBy}
use Rattle.engine.proofs.Stops.{stops_up}
use Rattle.model.specs.runs.Causes.{Cause, serial_cause_of}
use Rattle.trace_checker.specs.ReplayFaults.{HasRun}
use Rattle.trace_checker.proofs.WholeStarts.{body_fit, in_hand_kept, is_answered, is_refused, deferred_for_start, meanings_after, suits_after, memories_after, noted_known, close_stops, start_cause, start_taken}
use Rattle.trace_checker.proofs.replay.start.Goals as goal
use Rattle.model.proofs.lists.Results.{handed_on}

pub show-requires : goal.show-requires
show-requires g c =
    record {
      known = c.requires.known;
      memories = c.requires.stands.suits.memories;
      home = home-apart None (store_of c.args.run.now.state) [] (params_of c.args.built.now c.args.system) c.prove_law.ensures.laid (λ index l. tt) c.requires.stands.out tt;
      suits = c.requires.stands.deferred_for;
      fresh = c.requires.fresh;
      given = c.requires.given;
    }

pub run_body-answer-requires-clause-fits : goal.run_body-answer-requires-clause-fits
run_body-answer-requires-clause-fits g c κs within = λ body there.
    let fit = body_fit g.B.Body.meaning g.B.Body.fits c.args.built.now c.args.bodies.now c.args.system body there c.args.run.now.state.state c.requires.stands.suits c.requires.known in
    ap (λ (v : Seen). g.B.Body.fits body v.params) c.deref_mut.ensures.value ∙ ap (g.B.Body.fits body) c.in_ok-view.ensures.shown.params ∙ fit

pub returns-in_err-view-clause-stopped : goal.returns-in_err-view-clause-stopped
returns-in_err-view-clause-stopped g c =
    let s = c.args.built.now in
    let n = c.args.system in
    let w = c.args.run.now.state.state in
    let deferred = c.args.run.now.deferred in
    let ms = meanings g.B.Body.meaning s (map Some c.args.bodies.now) in
    let told = c.in_err-view.field-0.0 in
    let Meets = λ (met : Cause). serial_cause_of s ms (Begin n) (run_with w deferred) ≡ Some met in
    handed_on (StopsBy false Meets) c.from_residual.result told c.from_residual.ensures.1
    (stops_up false (LacksTick w) Meets told (start_cause s ms n w deferred) c.in_err-view.ensures.stopped)

pub close-requires-clause-memory : goal.close-requires-clause-memory
close-requires-clause-memory g c =
    noted_known c.args.built.now c.args.run.now.state.state c.show.new.self.state.state c.args.system (next_tick c.args.run.now.state.state) c.requires.stands.suits.memories c.requires.known
    (ap (λ (x : StateValue). x.state) c.in_ok-view.ensures.noted)

pub close-requires-clause-lent : goal.close-requires-clause-lent
close-requires-clause-lent g c =
    subst (λ (o : Opening). AreLent (store_of c.show.new.self.state) o.taken) (sym (subst (λ (v : Seen). HasRun g.B.Body.meaning g.B.Body.fits c.args.bodies.now c.args.system v c.run_body-answer.new.bodies c.run_body-answer.new.view c.run_body-answer.result) c.deref_mut.ensures.value c.run_body-answer.ensures).opening) (c.in_ok-view.ensures.held [] c.requires.stands.out).lent

pub close-requires-clause-place : goal.close-requires-clause-place
close-requires-clause-place g c =
    let s = c.args.built.now in
    let n = c.args.system in
    let room = ap (λ (d : DeferredValue). length d.commands) c.show.ensures.deferred in
    let k = c.requires.known in
    let e = c.requires.stands.deferred_for.command_count in
    omega (arith, k, e, room)

pub returns-in_err-close-clause-stopped : goal.returns-in_err-close-clause-stopped
returns-in_err-close-clause-stopped g c =
    let s = c.args.built.now in
    let n = c.args.system in
    let w = c.args.run.now.state.state in
    let deferred = c.args.run.now.deferred in
    let ms = meanings g.B.Body.meaning s (map Some c.args.bodies.now) in
    let shown = c.in_ok-view.ensures in
    let ran = (subst (λ (v : Seen). HasRun g.B.Body.meaning g.B.Body.fits c.args.bodies.now c.args.system v c.run_body-answer.new.bodies c.run_body-answer.new.view c.run_body-answer.result) c.deref_mut.ensures.value c.run_body-answer.ensures) in
    let seen = c.run_body-answer.new.view in
    let answer = c.run_body-answer.result in
    let told = c.in_err-close.field-0.0 in
    let Meets = λ (met : Cause). serial_cause_of s ms (Begin n) (run_with w deferred) ≡ Some met in
    let not_laid = subst (λ (x : StateValue). StopsBy false (IsNotLaid answer seen x.state) told) shown.noted c.in_err-close.ensures.stopped in
    handed_on (StopsBy false Meets) c.from_residual-in_err-close.result told c.from_residual-in_err-close.ensures.1
    (stops_up false (IsNotLaid answer seen _) Meets told
    (close_stops s ms n w deferred shown.has seen answer (ran.shown ∙ shown.shown.shown_there)
    (is_answered g.B.Body.meaning g.B.Body.fits s c.args.bodies.now n c.in_ok-view.view.value seen c.run_body-answer.new.bodies answer ran w c.requires.stands.suits c.requires.known shown.shown.params)
    (is_refused g.B.Body.meaning g.B.Body.fits s c.args.bodies.now n c.in_ok-view.view.value seen c.run_body-answer.new.bodies answer ran w c.requires.stands.suits c.requires.known shown.shown.params))
    not_laid)

pub returns-in_err-close-clause-meanings : goal.returns-in_err-close-clause-meanings
returns-in_err-close-clause-meanings g c =
    meanings_after g.B.Body.meaning g.B.Body.fits c.args.built.now c.args.bodies.now c.args.system c.in_ok-view.view.value c.run_body-answer.new.view c.run_body-answer.new.bodies c.run_body-answer.result (subst (λ (v : Seen). HasRun g.B.Body.meaning g.B.Body.fits c.args.bodies.now c.args.system v c.run_body-answer.new.bodies c.run_body-answer.new.view c.run_body-answer.result) c.deref_mut.ensures.value c.run_body-answer.ensures)

pub returns-clause-taken : goal.returns-clause-taken
returns-clause-taken g c =
    let s = c.args.built.now in
    let n = c.args.system in
    let w = c.args.run.now.state.state in
    let deferred = c.args.run.now.deferred in
    let ms = meanings g.B.Body.meaning s (map Some c.args.bodies.now) in
    let shown = c.in_ok-view.ensures in
    let ran = (subst (λ (v : Seen). HasRun g.B.Body.meaning g.B.Body.fits c.args.bodies.now c.args.system v c.run_body-answer.new.bodies c.run_body-answer.new.view c.run_body-answer.result) c.deref_mut.ensures.value c.run_body-answer.ensures) in
    let seen = c.run_body-answer.new.view in
    let room : n < length deferred.commands = let k = c.requires.known in let e = c.requires.stands.deferred_for.command_count in omega (arith, k, e) in
    let answered = is_answered g.B.Body.meaning g.B.Body.fits s c.args.bodies.now n c.in_ok-view.view.value seen c.run_body-answer.new.bodies c.run_body-answer.result ran w c.requires.stands.suits c.requires.known shown.shown.params c.in_ok-close.ensures.answer in
    let tick : seen.opening.tick ≡ next_tick w = ap (λ (o : Opening). o.tick) ran.opening ∙ shown.shown.tick in
    let numbers = c.in_ok-close.ensures.numbers in
    let kept = c.in_ok-close.ensures.deferred ∙ ap (with_commands n seen.outcome.commands) c.show.ensures.deferred in
    subst (λ (x : DeferredValue). IsStepTaken s ms (run_with w deferred) (Begin n) (run_with c.close.new.self.state.state x)) (sym kept)
    (start_taken s ms n w deferred shown.has seen (ran.shown ∙ shown.shown.shown_there) answered c.close.new.self.state.state room
    (ap (λ (x : StateValue). numbers_of seen x.state) (sym shown.noted) ∙ numbers)
    (ap (λ (x : StateValue). x.state) c.in_ok-close.ensures.laid ∙ ap₂ (λ t (x : StateValue). laid n t seen x.state) tick shown.noted))

pub returns-clause-stands : goal.returns-clause-stands
returns-clause-stands g c =
    let s = c.args.built.now in
    let n = c.args.system in
    let w = c.args.run.now.state.state in
    let deferred = c.args.run.now.deferred in
    let ms = meanings g.B.Body.meaning s (map Some c.args.bodies.now) in
    let shown = c.in_ok-view.ensures in
    let ran = (subst (λ (v : Seen). HasRun g.B.Body.meaning g.B.Body.fits c.args.bodies.now c.args.system v c.run_body-answer.new.bodies c.run_body-answer.new.view c.run_body-answer.result) c.deref_mut.ensures.value c.run_body-answer.ensures) in
    let seen = c.run_body-answer.new.view in
    let laid_is = ap (λ (x : StateValue). x.state) c.in_ok-close.ensures.laid ∙ ap (λ (x : StateValue). laid n seen.opening.tick seen x.state) shown.noted in
    let room : n < length deferred.commands = let k = c.requires.known in let e = c.requires.stands.deferred_for.command_count in omega (arith, k, e) in
    let answered = is_answered g.B.Body.meaning g.B.Body.fits s c.args.bodies.now n c.in_ok-view.view.value seen c.run_body-answer.new.bodies c.run_body-answer.result ran w c.requires.stands.suits c.requires.known shown.shown.params c.in_ok-close.ensures.answer in
    let kept = c.in_ok-close.ensures.deferred ∙ ap (with_commands n seen.outcome.commands) c.show.ensures.deferred in
    let memories = memories_after s w n seen.opening.tick (next_tick w) seen c.requires.stands.suits.memories in
    let same = ap (λ (o : Opening). o.taken) ran.opening in
    let held = subst (AreOut (store_of c.show.new.self.state)) (sym same ∙ sym (append-nil seen.opening.taken)) (shown.held [] c.requires.stands.out) in
    record {
      suits = suits_after g.B.Body.meaning g.B.Body.fits s c.args.bodies.now n c.in_ok-view.view.value seen c.run_body-answer.new.bodies c.run_body-answer.result ran w c.close.new.self.state.state c.requires.stands.suits
          (subst (HasMemories s) (sym laid_is) memories);
      out = c.in_ok-close.ensures.held [] [] held;
      deferred_for = subst (IsDeferredFor s) (sym kept) (deferred_for_start s n seen.outcome.commands deferred c.requires.stands.deferred_for);
      hand = subst (AreInHand c.close.new.self.state.state.world.slots) (sym kept)
          (in_hand_kept s ms n w deferred shown.has seen (ran.shown ∙ shown.shown.shown_there) answered c.close.new.self.state.state seen.opening.tick c.requires.known room c.requires.given c.requires.keep c.requires.stands.suits.memories c.prove_shape.ensures c.requires.stands.hand laid_is);
    }

pub returns-clause-meanings : goal.returns-clause-meanings
returns-clause-meanings g c =
    meanings_after g.B.Body.meaning g.B.Body.fits c.args.built.now c.args.bodies.now c.args.system c.in_ok-view.view.value c.run_body-answer.new.view c.run_body-answer.new.bodies c.run_body-answer.result (subst (λ (v : Seen). HasRun g.B.Body.meaning g.B.Body.fits c.args.bodies.now c.args.system v c.run_body-answer.new.bodies c.run_body-answer.new.view c.run_body-answer.result) c.deref_mut.ensures.value c.run_body-answer.ensures)
