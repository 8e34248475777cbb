use Rattle.ambiguity_report.specs.Report.{IsReportTo}
use Rattle.ambiguity_report.proofs.report.add_pairs.Given as goal

abbrev pub invariant-loop-second : goal.invariant-loop-second
invariant-loop-second l = IsReportTo l.built l.first l.second l.pairs.items
