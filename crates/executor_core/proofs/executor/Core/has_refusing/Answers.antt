use Rattle.std.proofs.Common.{false, not, ◌&&◌, ◌≡◌, sym, ◌∙◌}
use Rattle.std.proofs.lemmas.Bool.{and_from, both_ways, false≢true, not_from_false}
use Rattle.number_set.specs.Members.{contains}
use Rattle.executor_core.proofs.Lists.{all_more, all_there}
use Rattle.executor_core.proofs.executor.Core.has_refusing.Goals as goal

-- none of the conditions so far refuses
pub loop-condition-init : goal.loop-condition-init
loop-condition-init c = λ n e. absurd (false≢true e)

pub loop-condition-preserved : goal.loop-condition-preserved
loop-condition-preserved c =
    all_more (λ n. (contains c.args.self.now.asked n && not (contains c.args.self.now.yes n)) ≡ false) c.asked_by-condition-items.result.now c.loop-condition.condition-index c.loop-condition-test.true c.loop-condition.invariant
    (sym c.is_refusing.ensures ∙ c.if-is_refusing.false)

-- none does
pub returns : goal.returns
returns c = (
  (λ f. absurd (false≢true f)),
  λ h. absurd (both_ways (contains c.args.self.now.asked h.0 && not (contains c.args.self.now.yes h.0))
      (all_there (λ n. (contains c.args.self.now.asked n && not (contains c.args.self.now.yes n)) ≡ false) c.asked_by-condition-items.result.now c.loop-condition.condition-index c.loop-condition-test.false c.loop-condition.invariant h.0 ((c.asked_by-condition-items.ensures.names h.0).1 h.1))
      (and_from (contains c.args.self.now.asked h.0) (not (contains c.args.self.now.yes h.0)) h.2 (not_from_false (contains c.args.self.now.yes h.0) h.3))),
)
