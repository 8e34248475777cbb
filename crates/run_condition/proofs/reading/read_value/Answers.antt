-- The text spells what its only word does.
use Rattle.parsing.specs.Integer.{IsInteger}
use Rattle.run_condition.specs.Grammar.{ByWord}
use Rattle.run_condition.proofs.Readers.{read_refused}
use Rattle.run_condition.proofs.Leaves.{by_word_reads, by_word_refuses}
use Rattle.run_condition.proofs.reading.read_value.Goals as goal

pub returns-in_err-only_word : goal.returns-in_err-only_word
returns-in_err-only_word c = read_refused (ByWord IsInteger) c.args.text.now c.from_residual.result _ c.from_residual.ensures.1 (by_word_refuses IsInteger c.args.text.now _ c.in_err-only_word.ensures)

pub returns : goal.returns
returns c = by_word_reads IsInteger c.args.text.now _ c.in_ok-only_word.ensures _ _ c.read_integer.ensures c.ok_or.ensures.value
