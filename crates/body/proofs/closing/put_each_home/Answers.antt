use Rattle.std.proofs.Common.{◌∷◌, sym, ap, subst, ◌∙◌}
use Rattle.archetype_store.specs.Lending.{CanComeHome, all_home}
use Rattle.body.specs.Lent.{lent_of, lent_after}
use Rattle.body.proofs.LendingCloses.{query-can, queries-can, query-first, reach-more}
use Rattle.body.proofs.closing.put_each_home.Goals as goal

pub put_columns-requires : goal.put_columns-requires
put_columns-requires c =
    subst (λ columns. CanComeHome (lent_of columns) c.loop-query.world) (sym c.close-columns.ensures.columns)
    (query-can c.loop-query.queries.items c.pop.new.self.items c.in-Some.query c.loop-query.world c.in-Some.ensures.items c.loop-query.invariant.can)

pub loop-query-preserved : goal.loop-query-preserved
loop-query-preserved c =
    let before = c.loop-query.queries.items in
    let after = c.pop.new.self.items in
    let q = c.in-Some.query in
    let put = c.put_columns.ensures ∙ ap (λ columns. all_home (lent_of columns) c.loop-query.world) c.close-columns.ensures.columns in
    let closed = c.loop-query.invariant.reach in
    record {
      can = subst (CanComeHome (lent_after after)) (sym put) (queries-can before after q c.loop-query.world c.in-Some.ensures.items c.loop-query.invariant.can);
      home = ap (all_home (lent_after after)) put ∙ query-first before after q c.loop-query.world c.in-Some.ensures.items c.loop-query.invariant.can ∙ c.loop-query.invariant.home;
      reach = (q ∷ closed.0, reach-more _ before after closed.0 q closed.1 c.in-Some.ensures.items, (c.close-columns.ensures.reach, closed.2));
    }
