use Rattle.std.proofs.Common.{true, ◌≡◌, refl, sym, ◌∙◌}
use Rattle.std.proofs.lemmas.Bool.{both_ways, false≢true}
use Rattle.number_set.specs.Members.{contains}
use Rattle.cycle_search.proofs.Walks.{at_has}
use Rattle.executor_core.proofs.Lists.{all_more, all_there}
use Rattle.executor_core.proofs.executor.Core.has_unasked.Goals as goal

-- all conditions so far were asked
pub loop-condition-init : goal.loop-condition-init
loop-condition-init c = λ n e. absurd (false≢true e)

pub loop-condition-preserved : goal.loop-condition-preserved
loop-condition-preserved c =
    all_more (λ n. contains c.args.self.now.asked n ≡ true) c.asked_by-condition-items.result.now c.loop-condition.condition-index c.loop-condition-test.true c.loop-condition.invariant
    (sym c.was_asked.ensures ∙ c.if-not-was_asked.false)

-- one was not, or all were
pub returns-then-not-was_asked : goal.returns-then-not-was_asked
returns-then-not-was_asked c = (
  (λ t. (_, (c.asked_by-condition-items.ensures.names _).0 (at_has c.asked_by-condition-items.result.now c.loop-condition.condition-index c.loop-condition-test.true), sym c.was_asked.ensures ∙ c.if-not-was_asked.true)),
  λ h. refl,
)

pub returns : goal.returns
returns c = (
  (λ f. absurd (false≢true f)),
  λ h. absurd (both_ways (contains c.args.self.now.asked h.0) h.2
      (all_there (λ n. contains c.args.self.now.asked n ≡ true) c.asked_by-condition-items.result.now c.loop-condition.condition-index c.loop-condition-test.false c.loop-condition.invariant h.0 ((c.asked_by-condition-items.ensures.names h.0).1 h.1))),
)
