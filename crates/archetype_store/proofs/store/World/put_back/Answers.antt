use Rattle.archetype_store.proofs.Common.{sym, ap, subst, ◌∙◌, CanComeHome, all_home}
use Rattle.archetype_store.proofs.ColumnLoans.{all_home-append, can_come-append}
use Rattle.archetype_store.proofs.store.World.put_back.Goals as goal

pub put_column-requires-clause-away : goal.put_column-requires-clause-away
put_column-requires-clause-away c =
    (can_come-append c.pop.new.self.items c.in-Some.taken c.loop-taken.self (subst (λ xs. CanComeHome xs c.loop-taken.self) c.in-Some.ensures.items c.loop-taken.invariant.can)).0.away

pub put_column-requires-clause-same_length : goal.put_column-requires-clause-same_length
put_column-requires-clause-same_length c =
    (can_come-append c.pop.new.self.items c.in-Some.taken c.loop-taken.self (subst (λ xs. CanComeHome xs c.loop-taken.self) c.in-Some.ensures.items c.loop-taken.invariant.can)).0.same_length

pub put_column-requires-clause-past : goal.put_column-requires-clause-past
put_column-requires-clause-past c =
    (can_come-append c.pop.new.self.items c.in-Some.taken c.loop-taken.self (subst (λ xs. CanComeHome xs c.loop-taken.self) c.in-Some.ensures.items c.loop-taken.invariant.can)).0.past

pub loop-taken-preserved : goal.loop-taken-preserved
loop-taken-preserved c =
    let left = c.pop.new.self.items in
    let self = c.loop-taken.self in
    let parts = can_come-append left c.in-Some.taken self (subst (λ xs. CanComeHome xs self) c.in-Some.ensures.items c.loop-taken.invariant.can) in
    record {
      can = subst (CanComeHome left) (sym c.put_column.ensures) parts.1;
      home = ap (all_home left) c.put_column.ensures ∙ sym (all_home-append left c.in-Some.taken self) ∙ ap (λ xs. all_home xs self) (sym c.in-Some.ensures.items) ∙ c.loop-taken.invariant.home;
    }
