use Rattle.ambiguity_report.proofs.Reporting.{report_none, report_next, report_next_system, report_conditions, report_all}
use Rattle.std.proofs.Common.{length, refl}
use Rattle.ambiguity_report.proofs.report.report.Goals as goal

pub loop-system-init : goal.loop-system-init
loop-system-init c = report_none c.args.built.now c.new-pairs.result.items c.new-pairs.ensures.items

pub loop-system-preserved : goal.loop-system-preserved
loop-system-preserved c = report_next_system c.args.built.now c.loop-system.system (length c.args.built.now.systems) c.add_pairs.new.pairs.items refl c.in_ok-add_pairs.ensures

pub loop-condition-init : goal.loop-condition-init
loop-condition-init c = report_conditions c.args.built.now c.loop-system.system c.count-system-end.result c.loop-system.pairs.items c.loop-system-test.false c.count-system-end.ensures c.loop-system.invariant

pub loop-condition-preserved : goal.loop-condition-preserved
loop-condition-preserved c =
    report_next c.args.built.now c.loop-condition.condition (length c.args.built.now.systems) c.add_pairs-in-loop-condition.new.pairs.items refl c.in_ok-add_pairs-2.ensures

pub returns : goal.returns
returns c = report_all c.args.built.now c.loop-condition.condition c.condition_count-condition-end.result c.loop-condition.pairs.items c.loop-condition-test.false c.condition_count-condition-end.ensures c.loop-condition.invariant
