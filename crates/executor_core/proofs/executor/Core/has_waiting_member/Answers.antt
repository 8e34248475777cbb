use Rattle.std.proofs.Common.{ℕ, true, ◌≡◌, List, get_or, refl, sym, subst}
use Rattle.std.proofs.lemmas.Bool.{false≢true}
use Rattle.model.specs.Lists.{has}
use Rattle.cycle_search.proofs.Walks.{at_has}
use Rattle.executor_core.specs.Judges.{IsWaiting}
use Rattle.executor_core.proofs.Lists.{all_more, all_there}
use Rattle.executor_core.proofs.executor.Core.has_waiting_member.Goals as goal

pub is_waiting-requires : goal.is_waiting-requires
is_waiting-requires c =
    let xs = c.covered-system-items.result.now in
    let n : ℕ = get_or xs c.loop-system.system-index 0 in
    c.built_law.ensures.covered c.args.condition n (subst (λ (ys : List ℕ). has n ys ≡ true) c.covered-system-items.ensures (at_has xs c.loop-system.system-index c.loop-system-test.true))

-- none of the members so far waits
pub loop-system-init : goal.loop-system-init
loop-system-init c = λ n e waits. absurd (false≢true e)

pub loop-system-preserved : goal.loop-system-preserved
loop-system-preserved c =
    all_more (λ n. IsWaiting c.args.self.now n → ⊥) c.covered-system-items.result.now c.loop-system.system-index c.loop-system-test.true c.loop-system.invariant
    (λ waits. false≢true (c.if-is_waiting.ensures.1 waits))

-- one does, or none
pub returns-then-is_waiting : goal.returns-then-is_waiting
returns-then-is_waiting c =
    let xs = c.covered-system-items.result.now in
    let n : ℕ = get_or xs c.loop-system.system-index 0 in (
      (λ t. (n, subst (λ (ys : List ℕ). has n ys ≡ true) c.covered-system-items.ensures (at_has xs c.loop-system.system-index c.loop-system-test.true), c.if-is_waiting.ensures.0 refl)),
      λ h. refl,
    )

pub returns : goal.returns
returns c = (
  (λ f. absurd (false≢true f)),
  λ h. absurd (all_there (λ n. IsWaiting c.args.self.now n → ⊥) c.covered-system-items.result.now c.loop-system.system-index c.loop-system-test.false c.loop-system.invariant h.0
      (subst (λ (ys : List ℕ). has h.0 ys ≡ true) (sym c.covered-system-items.ensures) h.1) h.2),
)
