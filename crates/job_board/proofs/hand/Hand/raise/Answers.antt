use Rattle.std.proofs.Common.{rules, arith, ◌∙◌, ◌≡◌, ◌-◌, ℕ, ap, subst}
use mathlib.Core.Option.{some}
use lib.ListN.{get_elem?}
use Rattle.job_board.proofs.Baskets.{turn_holds, turn_basket, turn_at}
use Rattle.job_board.proofs.hand.Hand.raise.Goals as goal

pub invariant_of-self : goal.invariant_of-self
invariant_of-self g c = let it = c.loop-turned.self in let first = c.in-Some-pop_front.first in record {
  seated = search rules;
  sized = search rules;
  holds = turn_holds it.slots it.held.items c.pop_front.new.self.items c.push_back_reserved.new.self.items first it.seat.me c.turn.new.self.me c.in-Some-pop_front.ensures.items c.push_back_reserved.ensures.items c.turn.ensures.2 it.holds;
  basket = turn_basket it.slots it.held.items c.pop_front.new.self.items c.push_back_reserved.new.self.items first it.seat.me c.turn.new.self.me c.in-Some-pop_front.ensures.items c.push_back_reserved.ensures.items c.turn.ensures.2 it.basket;
  roomy = search rules;
}

pub loop-turned-preserved : goal.loop-turned-preserved
loop-turned-preserved g c = let it = c.loop-turned.self in let inv = c.loop-turned.invariant in (
  (inv.0.0, turn_at it.held.items c.pop_front.new.self.items c.push_back_reserved.new.self.items c.in-Some-pop_front.first _ c.in-Some.place c.loop-turned.turned c.in-Some-pop_front.ensures.items c.push_back_reserved.ensures.items (search rules) inv.0.1),
  ap (λ m. m.0) c.turn.ensures.2 ∙ inv.1,
  inv.2,
)

pub returns-clause-front : goal.returns-clause-front
returns-clause-front g c = let inv = c.loop-turned.invariant in let none : c.in-Some.place - c.loop-turned.turned ≡ 0 = omega arith in
    (inv.0.0, subst (λ (z : ℕ). get_elem? c.loop-turned.self.held.items z ≡ some (c.args.number, inv.0.0)) none inv.0.1)

pub unreachable-requires : goal.unreachable-requires
unreachable-requires g c = let it = c.args.self.now in let want = c.requires in it.basket.3 want.2.0.0 c.args.number want.0 want.1 want.2.0.1 want.2.1 (λ at e. c.in_default.ensures at want.0 e)
