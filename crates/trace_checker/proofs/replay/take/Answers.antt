use Rattle.std.proofs.Common.{◌≡◌, rules, List, [], map, None, Some, sym, ap, ◌∙◌, subst}
use Rattle.model.specs.declared.steps.Step.{Step}
use Rattle.model.specs.declared.steps.Step.TheVariants.{Cond, Start, Sync}
use Rattle.model.specs.runs.Causes.{serial_cause_of}
use Rattle.engine.specs.Deferred.{DeferredValue, AreInHand, IsDeferredFor, run_with}
use Rattle.engine.specs.Stops.{CannotSync, LacksTick, fault_of}
use Rattle.engine.specs.Meanings.{meanings}
use Rattle.body.specs.Steps.{StateValue, store_of}
use Rattle.body.proofs.Outs.{all-home, home-apart, none-out}
use Rattle.model.specs.state.State.{Slot}
use Rattle.model.specs.steps.Schedule.{access_of}
use Rattle.trace_checker.specs.declared.replay.ReplayFault.TheVariants as replay
use Rattle.model.specs.runs.Replays.{IsStepTaken}
use Rattle.trace_checker.specs.ReplayFaults.{IsStepFault, IsStoppedHere}
use Rattle.trace_checker.proofs.Taking.{answer_told, step_told}
use Rattle.trace_checker.proofs.WholeStarts.{ask_taken, suits_asked, suits_synced}
use Rattle.trace_checker.proofs.replay.take.Goals as goal
use Rattle.model.proofs.lists.Results.{handed_on}

pub returns-in_err-answer-in-Cond-clause-stopped : goal.returns-in_err-answer-in-Cond-clause-stopped
returns-in_err-answer-in-Cond-clause-stopped g c =
    let s = c.args.built.now in
    let ms = meanings g.B.Body.meaning s (map Some c.args.bodies.now) in
    let run = run_with c.args.run.now.state.state c.args.run.now.deferred in
    let told = c.in_err-answer-in-Cond.field-0.0 in
    handed_on (IsStepFault s ms run c.args.step c.args.number) c.from_residual.result (replay.Run (fault_of told)) c.from_residual.ensures.1
    (subst (λ (x : Step). IsStoppedHere s ms run x (fault_of told)) (sym c.in-Cond.is)
    (step_told s ms run (Cond c.in-Cond.condition c.in-Cond.recorded) (LacksTick c.args.run.now.state.state) told (λ met e. e) c.in_err-answer-in-Cond.ensures.stopped))

pub returns-in_err-start-in-Start-clause-stopped : goal.returns-in_err-start-in-Start-clause-stopped
returns-in_err-start-in-Start-clause-stopped g c =
    let s = c.args.built.now in
    let ms = meanings g.B.Body.meaning s (map Some c.args.bodies.now) in
    let run = run_with c.args.run.now.state.state c.args.run.now.deferred in
    let told = c.in_err-start-in-Start.field-0.0 in
    handed_on (IsStepFault s ms run c.args.step c.args.number) c.from_residual-in_err-start-in-Start.result (replay.Run (fault_of told)) c.from_residual-in_err-start-in-Start.ensures.1
    (subst (λ (x : Step). IsStoppedHere s ms run x (fault_of told)) (sym c.in-Start.is)
    (step_told s ms run (Start c.in-Start.system) (λ met. serial_cause_of s ms (Start c.in-Start.system) run ≡ Some met) told (λ met e. e) c.in_err-start-in-Start.ensures.stopped))

pub returns-in_err-sync-in-Sync-clause-stopped : goal.returns-in_err-sync-in-Sync-clause-stopped
returns-in_err-sync-in-Sync-clause-stopped g c =
    let s = c.args.built.now in
    let ms = meanings g.B.Body.meaning s (map Some c.args.bodies.now) in
    let run = run_with c.args.run.now.state.state c.args.run.now.deferred in
    let told = c.in_err-sync-in-Sync.field-0.0 in
    handed_on (IsStepFault s ms run c.args.step c.args.number) c.from_residual-in_err-sync-in-Sync.result (replay.Run (fault_of told)) c.from_residual-in_err-sync-in-Sync.ensures.1
    (subst (λ (x : Step). IsStoppedHere s ms run x (fault_of told)) (sym c.in-Sync.is)
    (step_told s ms run (Sync c.in-Sync.point) (CannotSync s c.in-Sync.point run) told (λ met e. e) c.in_err-sync-in-Sync.ensures.stopped))

pub returns-in_err-judge_answer-in-Cond-clause-stopped : goal.returns-in_err-judge_answer-in-Cond-clause-stopped
returns-in_err-judge_answer-in-Cond-clause-stopped g c =
    let s = c.args.built.now in
    let ms = meanings g.B.Body.meaning s (map Some c.args.bodies.now) in
    let run = run_with c.args.run.now.state.state c.args.run.now.deferred in
    let told = c.in_err-judge_answer-in-Cond.field-0.0 in
    let ok = c.in_ok-answer-in-Cond.ensures in
    handed_on (IsStepFault s ms run c.args.step c.args.number) c.from_residual-in_err-judge_answer-in-Cond.result told c.from_residual-in_err-judge_answer-in-Cond.ensures.1
    (subst (λ (x : Step). IsStepFault s ms run x c.args.number told) (sym c.in-Cond.is)
    (answer_told s ms run c.in-Cond.condition c.in_ok-answer-in-Cond.answer c.in-Cond.recorded c.args.number told ok.ticked ok.answer c.in_err-judge_answer-in-Cond.ensures.wrong))

pub returns-in_ok-judge_answer-in-Cond-clause-taken : goal.returns-in_ok-judge_answer-in-Cond-clause-taken
returns-in_ok-judge_answer-in-Cond-clause-taken g c =
    let s = c.args.built.now in
    let w = c.args.run.now.state.state in
    let deferred = c.args.run.now.deferred in
    let ms = meanings g.B.Body.meaning s (map Some c.args.bodies.now) in
    let ok = c.in_ok-answer-in-Cond.ensures in
    let same : c.in_ok-answer-in-Cond.answer ≡ c.in-Cond.recorded = c.in_ok-judge_answer-in-Cond.ensures.right in
    subst (λ (x : Step). IsStepTaken s ms (run_with w deferred) x (run_with c.ask.new.self.state.state c.ask.new.self.deferred)) (sym c.in-Cond.is)
    (subst (λ (x : DeferredValue). IsStepTaken s ms (run_with w deferred) (Cond c.in-Cond.condition c.in-Cond.recorded) (run_with c.ask.new.self.state.state x)) (sym c.ask.ensures.deferred)
    (ask_taken s ms c.in-Cond.condition c.in-Cond.recorded w c.ask.new.self.state.state deferred ok.ticked (ap (λ (x : StateValue). x.state) ok.asked) (sym same ∙ ok.answer)))

pub returns-in_ok-judge_answer-in-Cond-clause-stands : goal.returns-in_ok-judge_answer-in-Cond-clause-stands
returns-in_ok-judge_answer-in-Cond-clause-stands g c =
    let s = c.args.built.now in
    let w = c.args.run.now.state in
    let later = c.ask.new.self.state in
    let asked = c.in_ok-answer-in-Cond.ensures.asked in
    let before = c.requires.stands in
    let slots = ap (λ (x : StateValue). x.state.world.slots) asked in
    record {
      suits = suits_asked g.B.Body.fits s (map Some c.args.bodies.now) c.in-Cond.condition w.state later.state before.suits (ap (λ (x : StateValue). x.state) asked);
      out = search rules;
      deferred_for = subst (IsDeferredFor s) (sym c.ask.ensures.deferred) before.deferred_for;
      hand = subst (AreInHand later.state.world.slots) (sym c.ask.ensures.deferred) (subst (λ (xs : List Slot). AreInHand xs c.args.run.now.deferred) (sym slots) before.hand);
    }

pub sync-requires-clause-home : goal.sync-requires-clause-home
sync-requires-clause-home g c =
    let before = c.requires.stands in
    record {
      home = all-home (store_of c.args.run.now.state) c.prove_law.ensures.laid before.out;
      suits = before.deferred_for;
      ids = before.hand;
    }

pub returns-in_ok-sync-in-Sync-clause-stands : goal.returns-in_ok-sync-in-Sync-clause-stands
returns-in_ok-sync-in-Sync-clause-stands g c =
    let done = c.in_ok-sync-in-Sync.ensures in
    record {
      suits = suits_synced g.B.Body.fits c.args.built.now (map Some c.args.bodies.now) c.in-Sync.point c.args.run.now.state.state c.sync.new.self.state.state c.args.run.now.deferred c.sync.new.self.deferred c.requires.stands.suits
          done.synced;
      out = none-out (store_of c.sync.new.self.state) done.home.home;
      deferred_for = done.home.suits;
      hand = done.home.ids;
    }

pub ask-requires-clause-home : goal.ask-requires-clause-home
ask-requires-clause-home g c = home-apart None (store_of c.args.run.now.state) [] (access_of c.args.built.now c.in-Cond.condition) c.prove_law.ensures.laid (λ index l. tt) c.requires.stands.out tt
