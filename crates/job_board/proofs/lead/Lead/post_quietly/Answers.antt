use Rattle.std.proofs.Common.{rules, arith, ap, ◌∙◌, ◌≡◌, ℕ, suc, ◌+◌, ◌<◌, length}
use lib.ListN.{get_elem?}
use Rattle.job_board.proofs.Moves.{gives_job}
use Rattle.job_board.proofs.Stacks.{top_free}
use Rattle.job_board.proofs.Leads.{holds_job, has_posted, posted_stack, posted_counted, posted_tally}
use Rattle.job_board.proofs.lead.Lead.post_quietly.Goals as goal

pub swap-requires : goal.swap-requires
swap-requires g c = let it = c.args.self.now in let now = c.exchange.ensures.3 in let top = top_free it.slots it.seat.me.0 it.seat.me.1 it.free.items c.pop.new.self.items c.in-Some.slot it.stack c.in-Some.ensures.items in
    let near : c.in-Some.slot < it.slots = it.stack.3 0 c.in-Some.slot top in (
      search rules,
      search rules,
      gives_job g.T.Task.answers _ _ _ _ _ _ c.args.job (ap (λ m. m.0.leads) now ∙ it.leads) c.word-word.ensures (omega (arith, ap (λ m. length m.0.posted) now, it.counted.0))
          (ap (λ m. get_elem? m.0.free 0) now ∙ top) (holds_job it.slots it.seat.me it.free.items it.free.items _ _ it.seat.me 0 c.args.job now),
    )

pub invariant_of-self-2 : goal.invariant_of-self-2
invariant_of-self-2 g c = let it = c.args.self.now in let now = c.exchange.ensures.3 in let n : ℕ = it.posted + 1 in let next : n ≡ suc (length it.seat.me.0.posted) = omega (arith, it.counted.0) in
    let is = has_posted it.slots it.seat.me it.free.items c.pop.new.self.items c.in-Some.slot c.exchange.new.seat.me c.swap.new.seat.me n c.args.job now
    (c.swap.ensures.2 n c.args.job c.word-word.ensures (holds_job it.slots it.seat.me it.free.items it.free.items _ _ it.seat.me 0 c.args.job now)) in
    let counted = posted_counted it.slots it.seat.me it.free.items c.pop.new.self.items c.in-Some.slot c.exchange.new.seat.me c.swap.new.seat.me n c.args.job now is it.stack c.in-Some.ensures.items next it.counted.2 in record {
      seated = search rules;
      sized = search rules;
      leads = ap (λ m. m.0.leads) is ∙ it.leads;
      stack = posted_stack it.slots it.seat.me it.free.items c.pop.new.self.items c.in-Some.slot c.exchange.new.seat.me c.swap.new.seat.me n c.args.job now is it.stack c.in-Some.ensures.items next;
      roomy = search rules;
      counted = (counted.0, search rules, counted.1);
      tally = posted_tally it.slots it.seat.me it.free.items c.pop.new.self.items c.in-Some.slot c.exchange.new.seat.me c.swap.new.seat.me n c.args.job now is it.stack c.in-Some.ensures.items next it.tally;
    }
