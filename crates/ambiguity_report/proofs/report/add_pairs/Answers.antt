use Rattle.ambiguity_report.proofs.Reporting.{report_end}
use Rattle.ambiguity_report.proofs.report.add_pairs.Goals as goal

pub loop-second-preserved : goal.loop-second-preserved
loop-second-preserved c = c.in_ok-add_pair.ensures

pub returns : goal.returns
returns c = report_end c.args.built.now c.args.first c.loop-second.second c.count-second-end.result c.loop-second.pairs.items c.loop-second.auto.second-end c.loop-second-test.false c.count-second-end.ensures c.loop-second.invariant
