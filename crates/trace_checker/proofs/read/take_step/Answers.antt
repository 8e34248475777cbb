-- The line of the step is added.
use Rattle.std.specs.Vec.{vec_len}
use Rattle.executor_core.specs.Stands.{IsPlainStep}
use Rattle.trace_checker.proofs.Adding.{step_added, plain_bare}
use Rattle.trace_checker.proofs.read.take_step.Goals as goal
use Rattle.trace_checker.proofs.read.take_step.Goals.{then-lists+in_default, else-lists}
use Rattle.trace_checker.proofs.Recording.{plain_step}

pub returns-clause-added : goal.returns-clause-added
returns-clause-added c =
    step_added c.args.traces.now.items (vec_len c.args.traces.now) c.in-Some.trace.now c.push.new.self c.in-Some.trace.now c.args.step (search) c.requires.filled c.in-Some.ensures.value c.in_ok-push.ensures.steps c.in_ok-push.ensures.sets plain where
      plain : IsPlainStep c.in-Some.trace.now.sets c.args.step
      plain = elim c.if-lists.branch [
        | then-lists+in_default w ↦ plain_step c.in-Some.trace.now.sets c.args.step w.in_default.not-Sync
        | else-lists w ↦ plain_bare c.args.lists c.args.traces.now.items (vec_len c.args.traces.now) c.in-Some.trace.now c.in-Some.trace.now c.args.step w.if-lists.false c.requires.begun (search) c.requires.filled c.in-Some.ensures.value
      ]
