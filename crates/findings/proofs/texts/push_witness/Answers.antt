use Rattle.std.proofs.Common.{List, ℕ, map}
use Rattle.findings.proofs.TextSteps.{told_witness}
use Rattle.findings.proofs.texts.push_witness.Goals as goal

-- the first line in which the worlds differ comes behind both lists
pub returns : goal.returns
returns c =
    let names : List (List ℕ) = map (λ name. name.now) c.args.names.now in
    told_witness names c.args.number c.args.pair c.args.witness.now _ _ _ _ _ c.as_str.ensures.value c.as_str-2.ensures.value c.in_ok-push_orders.ensures c.in_ok-push_difference.ensures
