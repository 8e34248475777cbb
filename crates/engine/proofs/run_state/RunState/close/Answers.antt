use Rattle.std.proofs.Common.{◌≡◌, Result, Err, sym, subst}
use Rattle.std.proofs.lemmas.Bool.{true_from_ne_false}
use Rattle.model.specs.shown.Outcome.{events_sent}
use Rattle.model.specs.shown.Overlay.{has_event_numbers}
use Rattle.model.specs.runs.Causes.{Cause as cause}
use Rattle.body.specs.declared.system_body.BodyFault.{BodyFault}
use Rattle.event_buffers.specs.declared.queue.SendFault.{SendFault}
use Rattle.engine.specs.Stops.{IsNotLaid, TellsOf}
use Rattle.engine.proofs.Stops.{tells_refusal, tells_unsent, unmet}
use Rattle.engine.proofs.run_state.RunState.close.Goals as goal

one_send : {T : Type 0} {a b : SendFault} → ◌≡◌ {A = Result T SendFault} (Err a) (Err b) → a ≡ b
one_send {T} {a} {b} e = let whole : ◌≡◌ {A = Result T SendFault} (Err a) (Err b) = e in cc

pub returns-in_err-answer-clause-told : goal.returns-in_err-answer-clause-told
returns-in_err-answer-clause-told c =
    let seen = c.args.view.value in
    let w = c.args.self.now.state.state in
    subst (λ (a : Result (Unit {0}) BodyFault). TellsOf (IsNotLaid a seen w) c.from_residual.result) (sym c.in_err-answer.was)
    (tells_refusal c.in_err-answer.field-0.0 seen w c.from_residual.result c.from_residual.ensures.1)

pub returns-in_err-commands-clause-told : goal.returns-in_err-commands-clause-told
returns-in_err-commands-clause-told c =
    let seen = c.args.view.value in
    let w = c.args.self.now.state.state in
    let numbers = has_event_numbers (events_sent seen.params.writes seen.outcome.events) w.events in
    subst (λ (a : Result (Unit {0}) BodyFault). TellsOf (IsNotLaid a seen w) c.from_residual-in_err-commands.result) (sym c.in_ok-answer.was)
    (tells_unsent numbers c.in_err-commands.field-0.0 c.from_residual-in_err-commands.result c.from_residual-in_err-commands.ensures.1 (λ none. one_send (c.in_err-commands.ensures.spent.1 none)))

pub returns-clause-told : goal.returns-clause-told
returns-clause-told c = λ met m.
    let seen = c.args.view.value in
    let w = c.args.self.now.state.state in
    let numbers = has_event_numbers (events_sent seen.params.writes seen.outcome.events) w.events in
    absurd (unmet numbers cause.NoEventNumber met (true_from_ne_false numbers (λ e. let clash = c.in_ok-commands.ensures.spent.1 e in absurd (cc)))
    (subst (λ (a : Result (Unit {0}) BodyFault). IsNotLaid a seen w met) c.in_ok-answer.was m))
