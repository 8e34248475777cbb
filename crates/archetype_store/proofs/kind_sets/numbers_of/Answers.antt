use Rattle.archetype_store.proofs.Common.{◌<◌, [], ◌∷◌, sym, subst, AllByRecursion, set_limit, each-append, mapped_next, mapped_all, first_numbers, number_seen}
use Rattle.archetype_store.proofs.kind_sets.numbers_of.Goals as goal

pub loop-view-preserved : goal.loop-view-preserved
loop-view-preserved c = record {
  numbers = mapped_next number_seen c.args.views.now c.loop-view.view-index _ (first_numbers c.args.without) c.loop-view.numbers.items c.push-in-loop-view.new.self.items c.number_of.result c.loop-view-test.true c.loop-view.invariant.numbers c.number_of.ensures.sum c.in_ok-push-2.ensures.items;
  below = subst (AllByRecursion (λ n. n < set_limit)) (sym c.in_ok-push-2.ensures.items) (each-append (λ n. n < set_limit) c.loop-view.numbers.items (c.number_of.result ∷ []) c.loop-view.invariant.below (c.number_of.ensures.below, tt));
}

pub returns-clause-numbers : goal.returns-clause-numbers
returns-clause-numbers c = mapped_all number_seen c.args.views.now c.loop-view.view-index (first_numbers c.args.without) c.loop-view.numbers.items c.loop-view-test.false c.loop-view.invariant.numbers
