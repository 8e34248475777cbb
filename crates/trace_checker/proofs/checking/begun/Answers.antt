use Rattle.std.proofs.Common.{◌∙◌}
use Rattle.trace_checker.proofs.checking.begun.Goals as goal

pub returns-clause-stands : goal.returns-clause-stands
returns-clause-stands c = c.in_ok-begin_same.ensures.stands c.args.sets.now c.in_ok-core.ensures.meetings

pub returns-clause-schedule : goal.returns-clause-schedule
returns-clause-schedule c = c.begin_same.ensures.schedule ∙ c.in_ok-core.ensures.schedule
