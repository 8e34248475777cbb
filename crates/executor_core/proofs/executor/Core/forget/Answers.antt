use Rattle.std.proofs.Common.{ℕ, List, get_or, sym, ap, subst, ◌∙◌}
use Rattle.executor_core.specs.Judges.{HasCounts}
use Rattle.executor_core.proofs.Counted.{counted_first}
use Rattle.executor_core.proofs.executor.Core.forget.Goals as goal

pub invariant_of-self : goal.invariant_of-self
invariant_of-self c =
    let held = c.self.invariant in
    let same = c.in_err-begin_again.ensures.unchanged in
    let systems = c.self.inside.built.now.systems in
    let over = c.self.inside.over in (
      held.0,
      subst (λ (ws : List ℕ). HasCounts systems over ws c.begin_again.new.left) (sym same.0) (subst (λ (ls : List ℕ). HasCounts systems over c.self.inside.waits ls) (sym same.1) held.1),
      held.2,
      held.3,
      held.4,
    )

pub invariant_of-self-2 : goal.invariant_of-self-2
unfolding HasCounts
invariant_of-self-2 c =
    let held = c.self.invariant in
    let again = c.in_ok-begin_again.ensures in (
      record { begun = c.clear.ensures.room ∙ held.0.begun; over = c.clear-2.ensures.room ∙ held.0.over },
      counted_first c.self.inside.built.now.systems c.clear-2.new.self c.begin_again.new.waits c.begin_again.new.left c.clear-2.ensures.empty
          (λ n. ap (λ (xs : List ℕ). get_or xs n 0) again.waits ∙ c.waits.ensures n)
          (λ k. ap (λ (xs : List ℕ). get_or xs k 0) again.left ∙ c.sizes.ensures k),
      record { asked = c.clear-3.ensures.room ∙ held.2.asked; yes = c.clear-4.ensures.room ∙ held.2.yes },
      held.3,
      held.4,
    )
