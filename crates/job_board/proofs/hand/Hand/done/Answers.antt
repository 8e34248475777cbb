use Rattle.std.proofs.Common.{rules, ◌≡◌, ◌<◌, ◌∙◌, ℕ, sym, ap, subst}
use lib.ListN.{get_elem?}
use Rattle.job_board.specs.Views.{HasJob, after_done}
use Rattle.job_board.proofs.Moves.{gives_outcome}
use Rattle.job_board.proofs.Baskets.{front_is}
use Rattle.job_board.proofs.Hands.{outcome_there, done_holds, done_basket}
use Rattle.job_board.proofs.hand.Hand.done.Goals as goal

pub swap-requires : goal.swap-requires
swap-requires g c = let it = c.raise.new.self in let less = c.pop_front.new.self.items in let front : ℕ × ℕ = (c.in-Some.field-0-0, c.in-Some.slot) in let popped = c.in-Some.ensures.items in let want = c.requires in
    let now = c.exchange.ensures.3 in let has = subst (λ v. HasJob v c.args.number want.0 want.1) (sym c.raise.ensures.view) want.2 in
    let is = front_is it.slots it.held.items less front popped it.seat.me.0 c.args.number want.0 want.1 it.basket has c.raise.ensures.front in
    let slot : c.in-Some.slot ≡ want.0 = ap (λ (z : ℕ × ℕ). z.1) is in
    let near : c.in-Some.slot < it.slots = (it.basket.0 0 c.in-Some.field-0-0 c.in-Some.slot (ap (λ l. get_elem? l 0) popped)).0 in
    let mine = subst (λ m. HasJob m.0 c.args.number c.in-Some.slot want.1) (sym now) (subst (λ (z : ℕ). HasJob it.seat.me.0 c.args.number z want.1) (sym slot) has) in (
      search rules,
      search rules,
      gives_outcome g.T.Task.answers _ _ _ _ _ c.args.number want.1 c.args.outcome mine want.3 c.word-word.ensures
          (outcome_there it.slots it.held.items less front popped it.seat.me c.exchange.new.seat.me it.seat.me c.args.number c.in-Some.slot c.args.outcome (is ∙ ap (λ (z : ℕ). (c.args.number, z)) (sym slot)) now),
    )

pub invariant_of-self : goal.invariant_of-self
invariant_of-self g c = let it = c.raise.new.self in let less = c.pop_front.new.self.items in let front : ℕ × ℕ = (c.in-Some.field-0-0, c.in-Some.slot) in let popped = c.in-Some.ensures.items in let want = c.requires in
    let now = c.exchange.ensures.3 in let has = subst (λ v. HasJob v c.args.number want.0 want.1) (sym c.raise.ensures.view) want.2 in
    let is = front_is it.slots it.held.items less front popped it.seat.me.0 c.args.number want.0 want.1 it.basket has c.raise.ensures.front in
    let slot : c.in-Some.slot ≡ want.0 = ap (λ (z : ℕ × ℕ). z.1) is in let same = is ∙ ap (λ (z : ℕ). (c.args.number, z)) (sym slot) in
    let there = outcome_there it.slots it.held.items less front popped it.seat.me c.exchange.new.seat.me it.seat.me c.args.number c.in-Some.slot c.args.outcome same now in
    let given = c.swap.ensures.2 c.args.number c.word-word.ensures in record {
      seated = search rules;
      sized = search rules;
      holds = done_holds it.slots it.held.items less front popped it.seat.me c.exchange.new.seat.me c.swap.new.seat.me c.args.number c.in-Some.slot c.args.outcome same now given it.holds;
      basket = done_basket it.slots it.held.items less front popped it.seat.me c.exchange.new.seat.me c.swap.new.seat.me c.args.number c.in-Some.slot c.args.outcome same now given it.basket;
      roomy = search rules;
    }

pub returns-clause-done : goal.returns-clause-done
returns-clause-done g c = ap (λ m. m.0) (c.swap.ensures.2 c.args.number c.word-word.ensures) ∙ ap (λ m. after_done m.0 c.args.number) c.exchange.ensures.3 ∙ ap (λ v. after_done v c.args.number) c.raise.ensures.view
