use Rattle.std.proofs.Common.{◌+◌, List, refl, sym, subst}
use Rattle.ambiguity_report.specs.declared.report.Pair.{Pair}
use Rattle.ambiguity_report.specs.Report.{IsReportTo}
use Rattle.ambiguity_report.proofs.Reporting.{report_more, report_same}
use Rattle.ambiguity_report.proofs.report.add_pair.Goals as goal

pub returns-in-Some : goal.returns-in-Some
returns-in-Some c =
    let pair : Pair = record { first = c.args.first; second = c.args.second; datum = c.in-Some.datum; silenced = c.is_silenced.result } in
    subst (λ (pairs : List Pair). IsReportTo c.args.built.now c.args.first (c.args.second + 1) pairs) (sym c.in_ok-push.ensures.items)
    (report_more c.args.built.now c.args.first c.args.second c.args.pairs.now.items pair refl refl
    (record { race = c.in-Some.ensures.0; least = c.in-Some.ensures.1; silenced = c.is_silenced.ensures }) c.requires.ahead)

pub returns : goal.returns
returns c = report_same c.args.built.now c.args.first c.args.second c.args.pairs.now.items c.in_default.ensures c.requires.ahead
