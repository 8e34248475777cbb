use Rattle.std.proofs.Common.{◌≤◌, arith}
use Rattle.std.proofs.lemmas.Result.{IfOk-weaker}
use Rattle.serde_json.specs.View.{view}
use Rattle.diagnostics.proofs.json.json_of_finding.Goals as goal

pub returns : goal.returns
returns c =
    let head = c.in_ok-value.ensures in
    let low = head.shallow in
    IfOk-weaker c.to_string.result _ _ (λ text back. record {
      said = view c.in_ok-value.value;
      reads = back (omega (arith, low));
      code_is = head.code_is;
      level_is = head.level_is;
      line_is = head.line_is;
    }) c.to_string.ensures.reads_back
