use Rattle.column_store.proofs.Common.{◌++◌, ◌∷◌, [], ap, sym, arith, ◌∙◌}
use Rattle.column_store.proofs.Numbers.{numbers-more}
use Rattle.column_store.proofs.gap_list.list_up.Goals as goal

pub loop-row-preserved : goal.loop-row-preserved
loop-row-preserved c = record {
  numbers = c.push_reserved.ensures.items ∙ ap (λ ns. ns ++ c.loop-row.row ∷ []) c.loop-row.invariant.numbers ∙ sym (numbers-more c.loop-row.row);
  many = omega (arith, c.push_reserved.ensures.len, c.loop-row.invariant.many);
  room = c.push_reserved.ensures.capacity ∙ c.loop-row.invariant.room;
}
