use Rattle.std.proofs.Common.{refl, ap, ◌∙◌, arith}
use Rattle.std.proofs.lemmas.List.{take_all}
use Rattle.printing.specs.CheckText.{check_text}
use Rattle.printing.proofs.Lines.{check_text-more}
use Rattle.printing.proofs.check.text_of_check.Goals as goal

-- the line of a run stands behind those of the runs before it
pub loop-verdict-preserved : goal.loop-verdict-preserved
loop-verdict-preserved c = record {
  count = omega (arith, c.loop-verdict.invariant.count);
  written = check_text-more c.args.verdicts.now c.loop-verdict.verdict-index c.loop-verdict.number _ _ _ _ refl c.loop-verdict-test.true c.loop-verdict.invariant.count c.loop-verdict.invariant.written c.in_ok-push_verdict.ensures;
}

-- all runs are written
pub returns : goal.returns
returns c = c.loop-verdict.invariant.written ∙ ap check_text (take_all c.loop-verdict.verdict-index c.args.verdicts.now c.loop-verdict-test.false)
