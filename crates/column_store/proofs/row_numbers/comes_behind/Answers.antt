use Rattle.column_store.proofs.Common.{sym, ◌∙◌, arith}
use Rattle.column_store.proofs.Listed.{none_behind}
use Rattle.column_store.proofs.Rising.{rising-behind}
use Rattle.column_store.proofs.row_numbers.comes_behind.Goals as goal

pub returns-then-count-eq0 : goal.returns-then-count-eq0
returns-then-count-eq0 c = λ rising yes. none_behind c.args.entities.now c.args.e (omega arith)

pub returns : goal.returns
returns c = λ rising yes. rising-behind c.args.e c.args.entities.now (record { index = 0; generation = 0 }) rising (sym c.is_before.ensures ∙ yes) (omega arith)
