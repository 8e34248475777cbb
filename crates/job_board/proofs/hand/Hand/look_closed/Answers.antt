use Rattle.std.proofs.Common.{rules}
use Rattle.job_board.proofs.Looks.{looks}
use Rattle.job_board.proofs.Hands.{read_holds, read_basket}
use Rattle.job_board.proofs.hand.Hand.look_closed.Goals as goal

pub load-requires : goal.load-requires
load-requires g c = (search rules, search rules, looks g.T.Task.answers _ _ _ _)

pub invariant_of-self : goal.invariant_of-self
invariant_of-self g c = let it = c.args.self.now in record {
  seated = search rules;
  sized = search rules;
  holds = read_holds it.slots it.held.items it.seat.me c.load.new.seat.me _ c.load.ensures.2 it.holds;
  basket = read_basket it.slots it.held.items it.seat.me c.load.new.seat.me _ c.load.ensures.2 it.basket;
  roomy = search rules;
}
