use Rattle.column_store.proofs.Common.{reverse, ◌∙◌}
use Rattle.column_store.proofs.Gaps.{get_before, get_behind, behind_within, behind_some}
use Rattle.column_store.proofs.row_order.number_at.Goals as goal

pub overflow_sub-back : goal.overflow_sub-back
overflow_sub-back c = behind_some c.args.front.now c.args.back.now c.args.at c.if-at-count.false c.requires

pub listed_at-requires-2 : goal.listed_at-requires-2
listed_at-requires-2 c = behind_within c.args.front.now c.args.back.now c.args.at c.if-at-count.false c.requires

pub returns-then-at-count : goal.returns-then-at-count
returns-then-at-count c = c.listed_at.ensures ∙ get_before c.args.front.now (reverse c.args.back.now) c.args.at c.if-at-count.true

pub returns : goal.returns
returns c = c.listed_at-2.ensures ∙ get_behind c.args.front.now c.args.back.now c.args.at c.if-at-count.false c.requires
