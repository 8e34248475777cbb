use Rattle.std.proofs.Common.{rules, Err, Ok, Some, map, subst, sym}
use Rattle.model.specs.state.State.{State}
use Rattle.model.specs.steps.Schedule.{recording}
use Rattle.body.specs.Steps.{store_of}
use Rattle.body.proofs.Outs.{all-home, none-out}
use Rattle.engine.specs.Meanings.{meanings}
use Rattle.trace_checker.specs.declared.replay.ReplayFault.TheVariants as replay
use Rattle.trace_checker.specs.Verdicts.{IsVerdict}
use Rattle.trace_checker.specs.ReplayFaults.{IsReplay, IsReplayFault}
use Rattle.trace_checker.proofs.ReplayFaults.{one_fault, one_replay}
use Rattle.trace_checker.proofs.Agreeing.{replay_agrees}
use Rattle.trace_checker.proofs.replay.replay_by.Goals as goal

pub returns-in-Unfinished-clause-only : goal.returns-in-Unfinished-clause-only
returns-in-Unfinished-clause-only g c = λ other h.
    let s = c.args.built.now in
    let r = c.args.trace.now in
    one_replay (recording s r.sets) (meanings g.B.Body.meaning s (map Some c.args.bodies.now)) c.args.state r.steps (Err replay.Unfinished) other (subst (IsVerdict s r) c.in-Unfinished.is c.in_ok-check.ensures.verdict) h

pub returns-in-Bad-clause-only : goal.returns-in-Bad-clause-only
returns-in-Bad-clause-only g c = λ other h.
    let s = c.args.built.now in
    let r = c.args.trace.now in
    one_replay (recording s r.sets) (meanings g.B.Body.meaning s (map Some c.args.bodies.now)) c.args.state r.steps (Err (replay.Bad c.in-Bad.step c.in-Bad.fault)) other
    (subst (IsVerdict s r) c.in-Bad.is c.in_ok-check.ensures.verdict) h

pub take_steps-requires-clause-stands : goal.take_steps-requires-clause-stands
take_steps-requires-clause-stands g c κs within = record {
  suits = search rules;
  out = none-out (store_of c.into_open.result) c.into_open.ensures.home;
  deferred_for = search rules;
  nothing = search rules;
}

pub returns-in_err-take_steps-clause-only : goal.returns-in_err-take_steps-clause-only
returns-in_err-take_steps-clause-only g c =
    let s = c.args.built.now in
    let r = c.args.trace.now in
    let ms = meanings g.B.Body.meaning s (map Some c.args.bodies.now) in
    let fault = c.in_err-take_steps.field-0.0 in
    one_fault (recording s r.sets) ms c.args.state r.steps c.from_residual-in_err-take_steps.result fault c.from_residual-in_err-take_steps.ensures.1
    (subst (λ (start : State). IsReplayFault s ms start r fault) c.into_open.ensures.state c.in_err-take_steps.ensures.stopped)

pub into_state-requires : goal.into_state-requires
into_state-requires g c = all-home (store_of c.take_steps.new.run.state) c.prove_law-2.ensures.laid c.in_ok-take_steps.ensures.out

pub returns-clause-only : goal.returns-clause-only
returns-clause-only g c = λ other h.
    let s = c.args.built.now in
    let r = c.args.trace.now in
    let ms = meanings g.B.Body.meaning s (map Some c.args.bodies.now) in
    one_replay (recording s r.sets) ms c.args.state r.steps (Ok c.into_state.result) other
    (subst (λ (start : State). IsReplay s ms start r (Ok c.into_state.result)) c.into_open.ensures.state
    (subst (λ (w : State). IsReplay s ms c.into_open.result.state r (Ok w)) (sym c.into_state.ensures) c.in_ok-take_steps.ensures.replayed)) h

pub returns-clause-agreement : goal.returns-clause-agreement
returns-clause-agreement g c =
    let s = c.args.built.now in
    let r = c.args.trace.now in
    let ms = meanings g.B.Body.meaning s (map Some c.args.bodies.now) in
    replay_agrees g.B.Body.meaning s c.args.bodies.now c.args.state r c.into_state.result c.prove_law.ensures c.requires.suits.memories c.prove_shape.ensures c.prove_fitting_keep.ensures
    (subst (λ (start : State). IsReplay s ms start r (Ok c.into_state.result)) c.into_open.ensures.state
    (subst (λ (w : State). IsReplay s ms c.into_open.result.state r (Ok w)) (sym c.into_state.ensures) c.in_ok-take_steps.ensures.replayed))
