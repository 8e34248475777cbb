use Rattle.std.proofs.Common.{rules, sym, subst, ◌<◌, ℕ, List, length}
use Rattle.job_board.specs.Held.{HoldsEmpty, IsBasket}
use Rattle.job_board.proofs.Looks.{looks}
use Rattle.job_board.proofs.Moves.{takes_job}
use Rattle.job_board.proofs.Hands.{read_holds, read_basket, missed_twice, missed_it, lies_there, room_there, content_is, taken_holds, taken_basket, taken_it}
use Rattle.job_board.proofs.hand.Hand.try_slot.Goals as goal

pub load-seen-requires : goal.load-seen-requires
load-seen-requires g c = let near : c.args.slot < c.args.self.now.slots = c.requires in (search rules, search rules, looks g.T.Task.answers _ _ _ _)

pub invariant_of-self : goal.invariant_of-self
invariant_of-self g c = let it = c.args.self.now in record {
  seated = search rules;
  sized = search rules;
  holds = read_holds it.slots it.held.items it.seat.me c.load-seen.new.seat.me _ c.load-seen.ensures.2 it.holds;
  basket = read_basket it.slots it.held.items it.seat.me c.load-seen.new.seat.me _ c.load-seen.ensures.2 it.basket;
  roomy = search rules;
}

pub compare_exchange-was-requires : goal.compare_exchange-was-requires
compare_exchange-was-requires g c = let near : c.args.slot < c.args.self.now.slots = c.requires in
    (search rules, search rules, takes_job g.T.Task.answers _ _ _ _ _ _ c.in-Posted.number (search rules) c.in-Posted.ensures.0 c.word-taken.ensures)

pub invariant_of-self-then-was-seen : goal.invariant_of-self-then-was-seen
invariant_of-self-then-was-seen g c = let it = c.args.self.now in let n : ℕ = c.in-Posted.number in
    let missed = (c.compare_exchange-was.ensures.2 n c.in-Posted.ensures.0).1 c.if-was-seen.true in
    let twice = missed_twice it.seat.me c.load-seen.new.seat.me c.compare_exchange-was.new.seat.me c.args.slot c.load-seen.result n c.load-seen.ensures.2 c.compare_exchange-was.result missed in record {
      seated = search rules;
      sized = search rules;
      holds = read_holds it.slots it.held.items it.seat.me c.compare_exchange-was.new.seat.me _ twice it.holds;
      basket = read_basket it.slots it.held.items it.seat.me c.compare_exchange-was.new.seat.me _ twice it.basket;
      roomy = search rules;
    }

pub returns-then-was-seen-clause-taken : goal.returns-then-was-seen-clause-taken
returns-then-was-seen-clause-taken g c = let it = c.args.self.now in let n : ℕ = c.in-Posted.number in
    let missed = (c.compare_exchange-was.ensures.2 n c.in-Posted.ensures.0).1 c.if-was-seen.true in
    missed_it it.seat.me c.load-seen.new.seat.me c.compare_exchange-was.new.seat.me c.args.slot c.load-seen.result n c.load-seen.ensures.2 c.compare_exchange-was.result missed c.in-Posted.ensures.0 c.if-was-seen.true

pub exchange-content-requires : goal.exchange-content-requires
exchange-content-requires g c = let it = c.args.self.now in let n : ℕ = c.in-Posted.number in let took = (c.compare_exchange-was.ensures.2 n c.in-Posted.ensures.0).0 c.if-was-seen.false in
    (search rules, (_, lies_there it.seat.me c.load-seen.new.seat.me c.compare_exchange-was.new.seat.me c.args.slot c.load-seen.result n c.load-seen.ensures.2 took))

pub push_front_reserved-requires : goal.push_front_reserved-requires
push_front_reserved-requires g c = let it = c.args.self.now in let n : ℕ = c.in-Posted.number in let took = (c.compare_exchange-was.ensures.2 n c.in-Posted.ensures.0).0 c.if-was-seen.false in
    let room : length it.held.items < it.slots = room_there it.seat.me c.load-seen.new.seat.me c.compare_exchange-was.new.seat.me c.args.slot c.load-seen.result n c.load-seen.ensures.2 took it.slots it.held.items it.basket c.requires c.in-Posted.ensures.1 in
    search rules

pub invariant_of-self-2 : goal.invariant_of-self-2
invariant_of-self-2 g c = let it = c.args.self.now in let n : ℕ = c.in-Posted.number in let took = (c.compare_exchange-was.ensures.2 n c.in-Posted.ensures.0).0 c.if-was-seen.false in
    let out = c.exchange-content.ensures in let items = sym c.push_front_reserved.ensures.items in record {
      seated = search rules;
      sized = search rules;
      holds = subst (λ (l : List (ℕ × ℕ)). HoldsEmpty l c.exchange-content.new.seat.me.1) items
          (taken_holds it.seat.me c.load-seen.new.seat.me c.compare_exchange-was.new.seat.me c.args.slot c.load-seen.result n c.load-seen.ensures.2 took c.exchange-content.new.seat.me c.exchange-content.result out.2 out.3 it.held.items it.holds);
      basket = subst (λ (l : List (ℕ × ℕ)). IsBasket it.slots l c.exchange-content.new.seat.me.0) items
          (taken_basket it.seat.me c.load-seen.new.seat.me c.compare_exchange-was.new.seat.me c.args.slot c.load-seen.result n c.load-seen.ensures.2 took c.exchange-content.new.seat.me c.exchange-content.result out.2 out.3 it.slots it.held.items it.basket c.requires c.in-Posted.ensures.1);
      roomy = search rules;
    }

pub into_job-requires : goal.into_job-requires
into_job-requires g c = let it = c.args.self.now in let n : ℕ = c.in-Posted.number in let took = (c.compare_exchange-was.ensures.2 n c.in-Posted.ensures.0).0 c.if-was-seen.false in let out = c.exchange-content.ensures in
    (_, content_is it.seat.me c.load-seen.new.seat.me c.compare_exchange-was.new.seat.me c.args.slot c.load-seen.result n c.load-seen.ensures.2 took c.exchange-content.new.seat.me c.exchange-content.result out.2 out.3)

pub returns-clause-taken : goal.returns-clause-taken
returns-clause-taken g c = let it = c.args.self.now in let n : ℕ = c.in-Posted.number in let took = (c.compare_exchange-was.ensures.2 n c.in-Posted.ensures.0).0 c.if-was-seen.false in let out = c.exchange-content.ensures in
    taken_it it.seat.me c.load-seen.new.seat.me c.compare_exchange-was.new.seat.me c.args.slot c.load-seen.result n c.load-seen.ensures.2 took c.exchange-content.new.seat.me c.exchange-content.result out.2 out.3 c.into_job.result c.into_job.ensures c.in-Posted.ensures.0
