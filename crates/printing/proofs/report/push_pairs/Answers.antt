use Rattle.std.proofs.Common.{ℕ, List, map, refl, string_bytes}
use Rattle.printing.specs.ReportText.{pair_line}
use Rattle.state_lines.proofs.Lines.{texts_next, texts_all}
use Rattle.printing.proofs.report.push_pairs.Goals as goal

pub loop-pair-preserved : goal.loop-pair-preserved
loop-pair-preserved c =
    let names : List (List ℕ) = map (λ name. name.now) c.args.names.now in
    texts_next (pair_line names) c.args.pairs.now c.loop-pair.pair-index _ _ (string_bytes c.args.text.now) (string_bytes c.loop-pair.text) (string_bytes c.push_pair.new.text) c.loop-pair-test.true refl c.loop-pair.invariant c.in_ok-push_pair.ensures

pub returns : goal.returns
returns c =
    let names : List (List ℕ) = map (λ name. name.now) c.args.names.now in
    texts_all (pair_line names) c.args.pairs.now c.loop-pair.pair-index (string_bytes c.args.text.now) (string_bytes c.loop-pair.text) c.loop-pair-test.false c.loop-pair.invariant
