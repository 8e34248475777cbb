use Rattle.std.proofs.Common.{rules, arith, ◌≡◌, ◌≢◌, ◌<◌, ◌≤◌, ◌+◌, ◌-◌, ◌∙◌, ◌∷◌, ◌++◌, [], ℕ, List, sym, ap, subst, length, length-append, refl}
use mathlib.Core.Option.{some}
use lib.ListN.{get_elem?}
use Rattle.job_board.specs.Views.{opened, after_claim}
use Rattle.job_board.specs.Held.{IsStack}
use Rattle.job_board.proofs.Looks.{claims}
use Rattle.job_board.proofs.Opens.{claim_stack, claim_late, claim_none, late_none, tally_none, all_free, room_for}
use Rattle.job_board.proofs.lead.Lead.open.Goals as goal

pub load-requires : goal.load-requires
load-requires g c = let inv = c.loop-claimed.invariant in let slot : ℕ = c.args.slots - 1 - c.loop-claimed.claimed in let near : slot < c.args.slots = omega arith in
    let new : (at : ℕ) → get_elem? c.loop-claimed.seat.me.0.free at ≢ some slot = λ at e. let l : c.args.slots ≤ slot + c.loop-claimed.claimed = inv.late at slot e in omega arith in
    (search rules, search rules, claims g.T.Task.answers _ _ _ _ inv.leads (ap (λ v. v.posted) inv.blank.2) (search rules) new)

pub loop-claimed-preserved : goal.loop-claimed-preserved
loop-claimed-preserved g c = let inv = c.loop-claimed.invariant in let slot : ℕ = c.args.slots - 1 - c.loop-claimed.claimed in let lower : slot + c.loop-claimed.claimed + 1 ≡ c.args.slots = omega arith in
    let is = c.load.ensures.2 in record {
      same_table = c.load.ensures.0 ∙ inv.same_table;
      leads = ap (λ m. m.0.leads) is ∙ inv.leads;
      blank = (slot ∷ inv.blank.0, inv.blank.1 ++ (slot, c.load.result) ∷ [], ap (λ m. m.0) is ∙ ap (λ v. after_claim v slot c.load.result) {y = opened inv.blank.0 inv.blank.1} inv.blank.2);
      stack = subst (λ (l : List ℕ). IsStack c.args.slots l c.load.new.seat.me.0 c.load.new.seat.me.1) (sym {A = List ℕ} c.push_reserved.ensures.items)
          (claim_stack c.args.slots c.loop-claimed.claimed slot c.load.result c.loop-claimed.free.items c.loop-claimed.seat.me c.load.new.seat.me is lower inv.late inv.stack);
      roomy = search rules;
      count = ap (length {A = ℕ}) c.push_reserved.ensures.items ∙ length-append c.loop-claimed.free.items (slot ∷ []) ∙ ap (λ (z : ℕ). z + 1) inv.count;
      late = claim_late c.args.slots c.loop-claimed.claimed slot c.load.result c.loop-claimed.free.items c.loop-claimed.seat.me c.load.new.seat.me is lower inv.late;
    }

pub loop-claimed-init : goal.loop-claimed-init
loop-claimed-init g c = let first = c.requires.first in record {
  same_table = refl;
  leads = ap (λ m. m.0.leads) first;
  blank = ([], [], ap (λ m. m.0) first);
  stack = claim_none c.args.slots c.in_ok-free.free.items c.args.seat.me first c.in_ok-free.ensures.items;
  roomy = c.in_ok-free.ensures.exact;
  count = ap (length {A = ℕ}) c.in_ok-free.ensures.items;
  late = late_none c.args.slots c.args.seat.me first;
}

pub invariant_of-result : goal.invariant_of-result
invariant_of-result g c = let inv = c.loop-claimed.invariant in record {
  seated = inv.same_table ∙ c.requires.table.0;
  sized = (c.requires.table.1, c.requires.table.2);
  leads = inv.leads;
  stack = inv.stack;
  roomy = room_for c.args.slots _ inv.roomy;
  counted = all_free c.args.slots c.loop-claimed.claimed c.loop-claimed.free.items c.loop-claimed.seat.me.0 (ap (λ v. v.posted) inv.blank.2) (ap (λ v. v.collected) inv.blank.2) inv.stack.0 inv.count c.loop-claimed.auto.claimed-end c.loop-claimed-test.false;
  tally = tally_none c.loop-claimed.seat.me.0 (ap (λ v. v.posted) inv.blank.2) (ap (λ v. v.collected) inv.blank.2);
}

pub returns-clause-view : goal.returns-clause-view
returns-clause-view g c = c.loop-claimed.invariant.blank
