use Rattle.model.proofs.lists_are_in_order.Goals as goal
use Rattle.model.proofs.order.Order.{lists_keep_order}

pub returns : goal.returns
returns c = lists_keep_order
