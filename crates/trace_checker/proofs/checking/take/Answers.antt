-- A step that is no sync point.
use Rattle.std.proofs.Common.{List}
use Rattle.std.proofs.lemmas.Result.{on_ok_weaker}
use Rattle.model.specs.declared.steps.Step.{Step}
use Rattle.trace_checker.specs.Verdicts.{sets_so_far}
use Rattle.trace_checker.proofs.Recording.{plain_step, stands_plain}
use Rattle.trace_checker.proofs.checking.take.Goals as goal

pub returns-in_default : goal.returns-in_default
returns-in_default c =
    let sets = c.args.trace.now.sets in
    record {
      fault = c.step.ensures.fault;
      stands = on_ok_weaker c.step.result
          (λ taken (h : List Step) stands place. stands_plain c.step.new.self sets h c.args.step (plain_step sets c.args.step c.in_default.not-Sync)
          (taken (sets_so_far sets h) h stands)) c.step.ensures.stands;
      unchanged = c.step.ensures.unchanged;
      schedule = c.step.ensures.schedule;
    }
