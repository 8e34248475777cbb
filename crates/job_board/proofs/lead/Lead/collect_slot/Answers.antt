use Rattle.std.proofs.Common.{rules, sym, ap, subst, ◌∙◌, ◌≡◌, ◌<◌, ◌≤◌, ℕ, suc, List, length}
use Rattle.std.proofs.lemmas.List.{length-reverse}
use Rattle.job_board.specs.Held.{IsStack}
use Rattle.job_board.proofs.Looks.{seeks}
use Rattle.job_board.proofs.Moves.{takes_outcome}
use Rattle.job_board.proofs.Contents.{one_top, one_outcome}
use Rattle.job_board.proofs.Stacks.{room}
use Rattle.job_board.proofs.Leads.{sees_finished, looked_leads, looked_open, looked_stack, looked_counted, looked_tally, holds_outcome, has_collected, collected_stack, collected_counted, collected_tally, collected_it}
use Rattle.job_board.proofs.lead.Lead.collect_slot.Goals as goal

pub load-seen-requires : goal.load-seen-requires
load-seen-requires g c = let near : c.args.slot < c.args.self.now.slots = c.requires in (search rules, search rules, seeks g.T.Task.answers _ _ _ _)

pub compare_exchange-requires : goal.compare_exchange-requires
compare_exchange-requires g c = let it = c.args.self.now in let near : c.args.slot < it.slots = c.requires in let n : ℕ = c.in-Finished.number in let looked = c.load-seen.ensures.2.0 in
    let inside : c.args.slot < c.deref.result.now.shared.table_id.slots = search rules in (
      search rules,
      search rules,
      takes_outcome g.T.Task.answers _ _ _ _ _ _ n inside (looked_leads it.seat.me c.load-seen.new.seat.me c.args.slot c.load-seen.result n looked it.leads)
          (sees_finished it.seat.me c.load-seen.new.seat.me c.args.slot c.load-seen.result n looked c.in-Finished.ensures.0)
          (looked_open it.seat.me c.load-seen.new.seat.me c.args.slot c.load-seen.result n looked (c.load-seen.ensures.2.1 n c.in-Finished.ensures.0 inside)) c.in-Finished.ensures.0 (search rules),
    )

pub exchange-content-requires : goal.exchange-content-requires
exchange-content-requires g c = let it = c.args.self.now in let n : ℕ = c.in-Finished.number in let took = c.compare_exchange.ensures.2 n c.in-Finished.ensures.0 in
    (search rules, (_, holds_outcome it.slots c.load-seen.new.seat.me it.free.items it.free.items c.args.slot c.compare_exchange.new.seat.me it.seat.me n took.1.0 took.1.1))

pub push_reserved-requires : goal.push_reserved-requires
push_reserved-requires g c = let it = c.args.self.now in let n : ℕ = c.in-Finished.number in let looked = c.load-seen.ensures.2.0 in let took = c.compare_exchange.ensures.2 n c.in-Finished.ensures.0 in
    let stack = looked_stack it.seat.me c.load-seen.new.seat.me c.args.slot c.load-seen.result n looked it.slots it.free.items it.stack in
    let r : suc (length c.load-seen.new.seat.me.0.free) ≤ it.slots = room it.slots c.load-seen.new.seat.me.0 c.load-seen.new.seat.me.1 it.free.items it.free.items c.args.slot stack c.requires took.2 in
    let same : length c.load-seen.new.seat.me.0.free ≡ length it.free.items = ap length stack.0 ∙ length-reverse it.free.items in search rules

pub invariant_of-self-2 : goal.invariant_of-self-2
invariant_of-self-2 g c = let it = c.args.self.now in let n : ℕ = c.in-Finished.number in let looked = c.load-seen.ensures.2.0 in let took = c.compare_exchange.ensures.2 n c.in-Finished.ensures.0 in
    let me1 = c.load-seen.new.seat.me in let me2 = c.compare_exchange.new.seat.me in let me3 = c.exchange-content.new.seat.me in let out = c.exchange-content.ensures in
    let is = has_collected it.slots me1 it.free.items it.free.items c.args.slot me2 me3 n took.1.0 took.1.1 out.3 in
    let stack = looked_stack it.seat.me me1 c.args.slot c.load-seen.result n looked it.slots it.free.items it.stack in
    let count = looked_counted it.seat.me me1 c.args.slot c.load-seen.result n looked it.slots it.posted (it.counted.0, it.counted.2) in
    let counted = collected_counted it.slots me1 it.free.items it.free.items c.args.slot me2 me3 n took.1.0 took.1.1 is stack c.requires took.2 took.1.2.0 took.1.2.1 count.1 in record {
      seated = search rules;
      sized = search rules;
      leads = ap (λ m. m.0.leads) is ∙ looked_leads it.seat.me me1 c.args.slot c.load-seen.result n looked it.leads;
      stack = subst (λ (l : List ℕ). IsStack it.slots l me3.0 me3.1) (sym c.push_reserved.ensures.items) (collected_stack it.slots me1 it.free.items it.free.items c.args.slot me2 me3 n took.1.0 took.1.1 is stack c.requires took.2 took.1.2.0 took.1.2.1);
      roomy = search rules;
      counted = (count.0 ∙ sym counted.0, it.counted.1, counted.1);
      tally = collected_tally it.slots me1 it.free.items it.free.items c.args.slot me2 me3 n took.1.0 took.1.1 is stack c.requires took.2 took.1.2.0 took.1.2.1 (looked_tally it.seat.me me1 c.args.slot c.load-seen.result n looked it.tally);
    }

pub into_outcome-requires : goal.into_outcome-requires
into_outcome-requires g c = let it = c.args.self.now in let n : ℕ = c.in-Finished.number in let took = c.compare_exchange.ensures.2 n c.in-Finished.ensures.0 in let out = c.exchange-content.ensures in
    (took.1.0, one_top _ _ _ _ _ _ _ out.2 (holds_outcome it.slots c.load-seen.new.seat.me it.free.items it.free.items c.args.slot c.compare_exchange.new.seat.me it.seat.me n took.1.0 took.1.1))

pub returns-clause-collected : goal.returns-clause-collected
returns-clause-collected g c = let it = c.args.self.now in let n : ℕ = c.in-Finished.number in let looked = c.load-seen.ensures.2.0 in let took = c.compare_exchange.ensures.2 n c.in-Finished.ensures.0 in
    let me1 = c.load-seen.new.seat.me in let me2 = c.compare_exchange.new.seat.me in let me3 = c.exchange-content.new.seat.me in let out = c.exchange-content.ensures in let near : c.args.slot < it.slots = c.requires in
    let inside : c.args.slot < c.deref.result.now.shared.table_id.slots = search rules in
    let is = has_collected it.slots me1 it.free.items it.free.items c.args.slot me2 me3 n took.1.0 took.1.1 out.3 in
    let there = one_top me2.1 _ _ _ _ _ _ out.2 (holds_outcome it.slots me1 it.free.items it.free.items c.args.slot me2 it.seat.me n took.1.0 took.1.1) in
    collected_it it.seat.me me1 c.args.slot c.load-seen.result n looked g.T.Task.answers me3 took.1.0 c.into_outcome.result c.in-Finished.ensures.0 is (one_outcome took.1.0 c.into_outcome.result c.exchange-content.result there c.into_outcome.ensures)
    (c.load-seen.ensures.2.1 n c.in-Finished.ensures.0 inside) took.1.2
