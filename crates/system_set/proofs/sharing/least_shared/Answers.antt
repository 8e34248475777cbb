use Rattle.std.proofs.Common.{ℕ, ◌<◌, Bool, List, length, arith, inl, inr, Option, IfSome, IfNone, subst}
use Rattle.system_set.specs.Ordered.{IsBoth}
use Rattle.system_set.proofs.Ordered.{not_sets, shared_by_search}
use Rattle.system_set.proofs.sharing.least_shared.Goals.{then-order-sets-via-then-order-sets, then-order-sets-via-else-order-sets+then-order-sets-2}
use Rattle.system_set.proofs.sharing.least_shared.Goals as goal

pub returns-then-order-sets : goal.returns-then-order-sets
returns-then-order-sets c = not_sets c.args.sets c.args.items c.args.pairs.now c.args.order c.requires (elim c.then-order-sets.branch [
  | then-order-sets-via-then-order-sets w ↦ inl (omega (arith, w.if-order-sets))
  | then-order-sets-via-else-order-sets+then-order-sets-2 w ↦ inr (omega (arith, w.if-order-sets-2))
])

pub returns : goal.returns
returns c =
    let sets : ℕ = c.args.sets in
    let first : List Bool = c.in_ok-first.first.items in
    let second : List Bool = c.in_ok-second.second.items in
    let found : Option ℕ = c.least_in_both.result in
    let one = c.in_ok-first.ensures in
    let two = c.in_ok-second.ensures in
    let some : IfSome found (λ n. IsBoth sets first second n × ((m : ℕ) → m < n → IsBoth sets first second m → ⊥)) =
    subst (λ (xs : List Bool). IfSome found (λ n. IsBoth sets xs second n × ((m : ℕ) → m < n → IsBoth sets xs second m → ⊥))) c.as_slice.ensures.value
    (subst (λ (ys : List Bool). IfSome found (λ n. IsBoth sets c.as_slice.result.now ys n × ((m : ℕ) → m < n → IsBoth sets c.as_slice.result.now ys m → ⊥))) c.as_slice-2.ensures.value c.least_in_both.ensures.found) in
    let none : IfNone found ((m : ℕ) → m < length first → IsBoth sets first second m → ⊥) =
    subst (λ (xs : List Bool). IfNone found ((m : ℕ) → m < length xs → IsBoth sets xs second m → ⊥)) c.as_slice.ensures.value
    (subst (λ (ys : List Bool). IfNone found ((m : ℕ) → m < length c.as_slice.result.now → IsBoth sets c.as_slice.result.now ys m → ⊥)) c.as_slice-2.ensures.value c.least_in_both.ensures.none) in
    shared_by_search sets c.args.items c.args.pairs.now c.args.order first second found one.long one.sound two.sound one.whole two.whole
    (λ n e. subst (λ (o : Option ℕ). IfSome o (λ k. IsBoth sets first second k × ((m : ℕ) → m < k → IsBoth sets first second m → ⊥))) e some)
    (λ e. subst (λ (o : Option ℕ). IfNone o ((m : ℕ) → m < length first → IsBoth sets first second m → ⊥)) e none)
