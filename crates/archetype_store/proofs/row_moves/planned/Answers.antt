use Rattle.archetype_store.proofs.Common.{sym, ap, subst, ◌∙◌, TableValue, List, row_left, IsTarget, place_of, holder_in, IsHolder}
use Rattle.archetype_store.proofs.row_moves.planned.Goals as goal

pub returns-clause-planned : goal.returns-clause-planned
returns-clause-planned c =
    let e = c.args.change.now.entity in
    record {
      within = c.in_ok-reach.ensures.ok;
      holder = subst (λ o. IsHolder e.generation (holder_in o)) (sym (c.reach.ensures.same e.index ∙ ap (λ P. place_of P e.index) c.table_left.ensures.places)) c.requires.theirs;
      to = λ t is. subst (λ (ts : List TableValue). IsTarget ts (row_left c.args.change.now.fate) t) (sym c.reach.ensures.tables) (c.in_ok-to.ensures.to t is);
      none = c.in_ok-to.ensures.none;
    }
