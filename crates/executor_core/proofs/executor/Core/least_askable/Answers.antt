use Rattle.std.proofs.Common.{ℕ, refl}
use Rattle.std.proofs.lemmas.Bool.{false≢true}
use Rattle.cycle_search.proofs.Walks.{at_has}
use Rattle.model.proofs.progress.Progress.{covered_known}
use Rattle.executor_core.specs.Judges.{CanAsk}
use Rattle.executor_core.proofs.Lists.{all_more, all_there, below_is_before}
use Rattle.executor_core.proofs.executor.Core.least_askable.Goals as goal

-- none of the conditions so far can be asked
pub loop-condition-init : goal.loop-condition-init
loop-condition-init c = λ n e can. absurd (false≢true e)

pub loop-condition-preserved : goal.loop-condition-preserved
loop-condition-preserved c =
    all_more (λ n. CanAsk c.args.self.now c.args.system n → ⊥) c.asked_by-condition-items.result.now c.loop-condition.condition-index c.loop-condition-test.true c.loop-condition.invariant
    (λ can. false≢true (c.if-is_askable.ensures.1 (can.1, covered_known c.args.self.now.schedule _ c.args.system can.0)))

pub returns-then-is_askable-clause-found : goal.returns-then-is_askable-clause-found
returns-then-is_askable-clause-found c =
    let listing = c.asked_by-condition-items.ensures in
    let xs = c.asked_by-condition-items.result.now in
    let i : ℕ = c.loop-condition.condition-index in
    let found = c.if-is_askable.ensures.0 refl in (
      ((listing.names _).0 (at_has xs i c.loop-condition-test.true), found.0),
      λ j below can. c.loop-condition.invariant j (below_is_before xs i j listing.rising c.loop-condition-test.true ((listing.names j).1 can.0) below) can,
    )

-- none can
pub returns-clause-none : goal.returns-clause-none
returns-clause-none c = λ n can.
    all_there (λ n. CanAsk c.args.self.now c.args.system n → ⊥) c.asked_by-condition-items.result.now c.loop-condition.condition-index c.loop-condition-test.false c.loop-condition.invariant n
    ((c.asked_by-condition-items.ensures.names n).1 can.0) can
