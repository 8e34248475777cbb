use Rattle.std.proofs.Common.{refl, sym, ◌∙◌, ap}
use Rattle.model.specs.access.Condition.{Condition, holds}
use Rattle.model.specs.steps.Schedule.{ScheduledCondition}
use Rattle.model.specs.runs.RunState.{has_tick, memory_of_condition}
use Rattle.engine.proofs.Stops.{has_one, tells_no_tick, tick_met}
use Rattle.engine.proofs.InterleavedSteps.{answer_alike, answer_woven}
use Rattle.engine.proofs.run_state.RunState.ask.Goals as goal

-- the answer is what the condition means on the state
pub returns-clause-answer : goal.returns-clause-answer
returns-clause-answer c =
    let s = c.args.built.now in
    let n = c.args.condition in
    let w = c.args.self.now.state.state in
    let memory = memory_of_condition w n in
    c.in_ok-answer.ensures.answer
    ∙ ap (λ (x : Condition). holds x memory.last_run memory.cursors w) (c.cond.ensures ∙ ap (λ (x : ScheduledCondition). x.condition) c.condition-asked.ensures)
    ∙ sym (answer_alike s n w c.args.self.now.deferred ∙ answer_woven s n w)

pub returns-in_err-coming-clause-told : goal.returns-in_err-coming-clause-told
returns-in_err-coming-clause-told c = tells_no_tick c.args.self.now.state.state c.from_residual.result (c.in_err-coming.ensures.spent.0 refl) c.from_residual.ensures.1

pub returns-in_err-answer-clause-told : goal.returns-in_err-answer-clause-told
returns-in_err-answer-clause-told c = λ met m. tick_met c.args.self.now.state.state met (has_one (has_tick c.args.self.now.state.state) c.in_ok-coming.ensures.spent) m

pub returns-clause-told : goal.returns-clause-told
returns-clause-told c = λ met m. tick_met c.args.self.now.state.state met (has_one (has_tick c.args.self.now.state.state) c.in_ok-coming.ensures.spent) m
