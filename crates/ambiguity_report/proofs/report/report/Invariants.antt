use Rattle.ambiguity_report.specs.declared.races.Racer.TheVariants.{System, Condition}
use Rattle.ambiguity_report.specs.Report.{IsReportTo}
use Rattle.ambiguity_report.proofs.report.report.Given as goal

abbrev pub invariant-loop-system : goal.invariant-loop-system
invariant-loop-system l = IsReportTo l.built (System l.system) 0 l.pairs.items

abbrev pub invariant-loop-condition : goal.invariant-loop-condition
invariant-loop-condition l = IsReportTo l.built (Condition l.condition) 0 l.pairs.items
