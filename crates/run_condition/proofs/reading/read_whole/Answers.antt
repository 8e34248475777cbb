-- The front is the whole where nothing is left.
use Rattle.run_condition.specs.Grammar.{IsCondition}
use Rattle.run_condition.proofs.Readers.{read_refused}
use Rattle.run_condition.proofs.Conditions.{whole_only, whole_none, whole_refuses, empty_is, filled_is}
use Rattle.run_condition.proofs.reading.read_whole.Goals as goal

pub returns-in_err-cond : goal.returns-in_err-cond
returns-in_err-cond c = read_refused IsCondition c.args.text.now c.from_residual.result _ c.from_residual.ensures.1 (whole_refuses IsCondition c.args.text.now _ c.in_err-cond.ensures)

pub returns-then-not-is_empty : goal.returns-then-not-is_empty
returns-then-not-is_empty c = whole_none IsCondition c.args.text.now _ _ c.in_ok-cond.ensures (filled_is _ _ c.is_empty.ensures c.if-not-is_empty.true)

pub returns : goal.returns
returns c = whole_only IsCondition c.args.text.now _ _ c.in_ok-cond.ensures (empty_is _ _ c.is_empty.ensures c.if-not-is_empty.false)
