-- The line of the run that begins is added.
use Rattle.trace_checker.proofs.Adding.{begun_added}
use Rattle.trace_checker.proofs.read.begin.Goals as goal

pub returns-clause-added : goal.returns-clause-added
returns-clause-added c = begun_added c.args.traces.now.items c.push.new.self.items c.new.result c.in_ok-push.ensures.items c.new.ensures.steps c.new.ensures.sets
