use Rattle.ambiguity_report.proofs.AllPaths.{paths_none, paths_next, paths_all}
use Rattle.ambiguity_report.proofs.before.all_paths.Goals as goal

pub loop-system-init : goal.loop-system-init
loop-system-init c = paths_none c.args.built.now c.new-all.result.items c.new-all.ensures.items

pub loop-system-preserved : goal.loop-system-preserved
loop-system-preserved c = paths_next c.args.built.now c.loop-system.system c.loop-system.all.items c.push.new.self.items c.paths_of.result c.loop-system.invariant c.paths_of.ensures c.in_ok-push.ensures.items

pub returns : goal.returns
returns c = paths_all c.args.built.now c.loop-system.system c.count-system-end.result c.loop-system.all.items c.loop-system.auto.system-end c.loop-system-test.false c.count-system-end.ensures c.loop-system.invariant
